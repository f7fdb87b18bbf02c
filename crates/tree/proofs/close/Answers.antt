-- `close` leaves what takes the place of an entry that goes. Assumes nothing.
use Rattle.tree.proofs.Deleting.{close-right, close-left, close_hangs, close_both}
use Rattle.tree.proofs.close.Goals as goal

pub returns-then-left-eq0 : goal.returns-then-left-eq0
returns-then-left-eq0 c t u p = close-right t u p c.if-left-eq0.true

pub returns-then-right-eq0 : goal.returns-then-right-eq0
returns-then-right-eq0 c t u p = close-left t u p c.if-left-eq0.false c.if-right-eq0.true

pub balance-requires : goal.balance-requires
balance-requires c =
    let p = c.requires in
    rw c.root.ensures
    (close_hangs p.0 p.1 p.2 c.if-left-eq0.false c.if-right-eq0.false c.delete_end-least.ensures)

pub returns : goal.returns
returns c t u p =
    close_both t u p c.if-left-eq0.false c.if-right-eq0.false c.delete_end-least.ensures
    (rw c.root.ensures at c.balance.ensures)
