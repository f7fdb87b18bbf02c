-- `delete_end` answers as the rules do, and leaves the rules' words. Assumes nothing.
use Prim.Native.Nat.{ℕ, ◌≤◌}
use mathlib.Core.List.{List}
use mathlib.Core.Path.{◌≡◌}
use native.Mathlib.Omega.{arith}
use lib.ListN.{length, get_or, take, drop}
use Rattle.rules.specs.Limits.{header_words}
use Rattle.rules.specs.Tree.{Tree, levels}
use Rattle.balance.specs.Sides.{side_of}
use Rattle.pool.proofs.Parts.{part_lent, with_part, front_after, part_after}
use Rattle.tree.specs.Edits.{Standing, Sheds}
use Rattle.tree.proofs.Shedding.{tall-there}
use Rattle.serve.proofs.Laying.{header-there, holds-standing, slots-long}
use Rattle.serve.proofs.Taking.{releasable, released_words, took_end, answers_no_end, answers-end}
use Rattle.serve.proofs.delete_end.Goals as goal
use Rattle.serve.proofs.delete_end.Goals.{After-delete_end-gone}

-- the words before the call on the slots, and with what it left of them
abbrev ws : After-delete_end-gone → List ℕ
ws d = d.args.words.now

abbrev between : After-delete_end-gone → List ℕ
between d = with_part header_words (ws d) d.delete_end-gone.new.slots

fits : (d : After-delete_end-gone) → header_words ≤ length (ws d)
fits d = let there = header-there d.requires.1 in omega arith

kept : (d : After-delete_end-gone) → take header_words (between d) ≡ take header_words (ws d)
kept d = front_after header_words (ws d) d.delete_end-gone.new.slots (fits d)

done : (d : After-delete_end-gone) (t : Tree) → Standing (drop header_words (ws d)) (get_or (ws d) 0 0) t → 1 ≤ levels t
    → Sheds (side_of d.args.side) d.delete_end-gone.result (drop header_words (ws d)) (drop header_words (between d)) t
done d =
    rw (part_after header_words (ws d) d.delete_end-gone.new.slots (fits d))
    (rw (part_lent header_words (ws d)) at d.delete_end-gone.ensures)

pub bounds-words-0 : goal.bounds-words-0
bounds-words-0 c = let there = header-there c.requires.1 in omega arith

pub returns-then-root-eq0 : goal.returns-then-root-eq0
returns-then-root-eq0 c p h = answers_no_end (side_of c.args.side) p h c.if-root-eq0.true

pub slice_bounds-delete_end-count : goal.slice_bounds-delete_end-count
slice_bounds-delete_end-count c = let there = header-there c.requires.1 in omega arith

pub slice_bounds-delete_end-start : goal.slice_bounds-delete_end-start
slice_bounds-delete_end-start c = let there = header-there c.requires.1 in omega arith

pub delete_end-gone-requires : goal.delete_end-gone-requires
delete_end-gone-requires c =
    let p = c.requires in
    let tree = holds-standing p.1 in
    rw (part_lent header_words c.args.words.now)
    (p.0.tree, tree, tall-there p.0.tree tree.rooted c.if-root-eq0.false)

pub release-requires : goal.release-requires
release-requires c =
    let d = (goal.at.release-requires c).After-delete_end-gone in
    let p = c.requires in
    let tree = holds-standing p.1 in
    let tall = tall-there p.0.tree tree.rooted c.if-root-eq0.false in
    let told = done d p.0.tree tree tall in
    let took = took_end {p = p.0} (side_of c.args.side) tall told.slot_is in
    releasable (between d) p.1 (kept d) told.settles.left took.counts took.one_less

pub returns : goal.returns
returns c p h =
    let d = (goal.at.returns c).After-delete_end-gone in
    let tree = holds-standing h in
    let tall = tall-there p.tree tree.rooted c.if-root-eq0.false in
    let told = done d p.tree tree tall in
    let s = side_of c.args.side in
    let took = took_end {p = p} s tall told.slot_is in
    answers-end s p h tall told.slot_is
    (released_words h (kept d) told.settles.left took.counts took.one_less (slots-long c.delete_end-gone.new.slots h c.delete_end-gone.auto.slots)
    (rw c.root.ensures at c.release.ensures))
