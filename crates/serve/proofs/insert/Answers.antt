-- `insert` answers as the rules do, and leaves the rules' words. Assumes nothing.
use Prim.Native.Nat.{ℕ, ◌≤◌}
use mathlib.Core.List.{List}
use mathlib.Core.Path.{◌≡◌, sym, ◌∙◌}
use native.Mathlib.Omega.{arith}
use lib.ListN.{length, get_or, take, drop}
use Rattle.rules.specs.Limits.{header_words}
use Rattle.rules.specs.Tree.{Tree}
use Rattle.rules.proofs.Stored.{holds-rooted}
use Rattle.interval.specs.Interval.{range_of}
use Rattle.node.specs.Node.{entry}
use Rattle.pool.proofs.Parts.{part_lent, with_part, front_after, part_after}
use Rattle.tree.specs.Edits.{Inserting, Inserts}
use Rattle.serve.proofs.Laying.{header-there, slots-long}
use Rattle.serve.proofs.Putting.{inserting-first, free-within, claimable, answers-there, answers-full, answers-kept, answers-claimed}
use Rattle.serve.proofs.insert.Goals as goal
use Rattle.serve.proofs.insert.Goals.{After-insert}

-- the words before the call on the slots, and with what it left of them
abbrev ws : After-insert → List ℕ
ws d = d.args.words.now

abbrev between : After-insert → List ℕ
between d = with_part header_words (ws d) d.insert.new.slots

fits : (d : After-insert) → header_words ≤ length (ws d)
fits d = let there = header-there d.requires.1 in omega arith

kept : (d : After-insert) → take header_words (between d) ≡ take header_words (ws d)
kept d = front_after header_words (ws d) d.insert.new.slots (fits d)

done : (d : After-insert) (t : Tree) → Inserting (drop header_words (ws d)) (get_or (ws d) 0 0) (get_or (ws d) 1 0) t
    → Inserts d.insert.result (drop header_words (ws d)) (drop header_words (between d)) (entry (get_or (ws d) 1 0) d.args.key.start d.args.key.end d.args.value) t
done d =
    rw (part_after header_words (ws d) d.insert.new.slots (fits d))
    (rw (part_lent header_words (ws d)) at d.insert.ensures)

pub bounds-words-0 : goal.bounds-words-0
bounds-words-0 c = let there = header-there c.requires.1 in omega arith

pub bounds-words-1 : goal.bounds-words-1
bounds-words-1 c = let there = header-there c.requires.1 in omega arith

pub slots-requires : goal.slots-requires
slots-requires c = let there = header-there c.requires.1 in omega arith

pub contains-requires : goal.contains-requires
contains-requires c =
    let p = c.requires in
    rw c.slots.ensures (p.0.tree, holds-rooted p.1)

pub returns-then-contains : goal.returns-then-contains
returns-then-contains c p h =
    let found = rw c.slots.ensures at c.contains.ensures in
    answers-there (range_of c.args.key) c.args.value h (sym c.if-contains.true ∙ found p.tree (holds-rooted h))

pub returns-then-free-eq0 : goal.returns-then-free-eq0
returns-then-free-eq0 c p h =
    let found = rw c.slots.ensures at c.contains.ensures in
    answers-full p (range_of c.args.key) c.args.value h c.if-free-eq0.true
    (sym c.if-contains.false ∙ found p.tree (holds-rooted h))

pub slots-requires-2 : goal.slots-requires-2
slots-requires-2 c = let there = header-there c.requires.1 in omega arith

pub word-next-requires : goal.word-next-requires
word-next-requires c =
    let p = c.requires in
    (rw c.slots-2.ensures (free-within p.0 p.1 c.if-free-eq0.false), omega arith)

pub slice_bounds-insert-count : goal.slice_bounds-insert-count
slice_bounds-insert-count c = let there = header-there c.requires.1 in omega arith

pub slice_bounds-insert-start : goal.slice_bounds-insert-start
slice_bounds-insert-start c = let there = header-there c.requires.1 in omega arith

pub insert-requires : goal.insert-requires
insert-requires c =
    let p = c.requires in
    rw (part_lent header_words c.args.words.now) (p.0.tree, inserting-first p.0 p.1 c.if-free-eq0.false)

pub returns-in-None : goal.returns-in-None
returns-in-None c p h =
    let d = (goal.at.returns-in-None c).After-insert in
    answers-kept p (range_of c.args.key) c.args.value h c.if-free-eq0.false (kept d) (rw c.in-None.is at (done d))

pub claim-requires : goal.claim-requires
claim-requires c =
    let d = (goal.at.claim-requires c).After-insert in
    let p = c.requires in
    claimable (between d) p.0 p.1 (kept d) (slots-long c.insert.new.slots p.1 c.insert.auto.slots)

pub returns-in-Some : goal.returns-in-Some
returns-in-Some c p h =
    let d = (goal.at.returns-in-Some c).After-insert in
    answers-claimed (between d) p (range_of c.args.key) c.args.value h c.if-free-eq0.false (kept d) (rw c.in-Some.is at (done d))
    c.root.ensures
    (slots-long c.insert.new.slots h c.insert.auto.slots)
    (rw c.slots-2.ensures at c.word-next.ensures)
    c.claim.ensures
