-- `free_slot` stores the six words of a free slot, three at a time. Assumes nothing.
use Rattle.pool.proofs.Freed.{stored-twice}
use Rattle.pool.proofs.free_slot.Goals as goal

pub returns : goal.returns
returns c =
    let second = c in
    let first = second in
    let start = first in
    rw (second.set_words-2.ensures, first.set_words.ensures)
    (stored-twice start.args.slots.now start.args.s 0 0 0 0 start.args.next 0)
