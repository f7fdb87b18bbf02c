-- `delete` answers as the rules do, and leaves the rules' words. Assumes nothing.
use Prim.Native.Nat.{ℕ, ◌≤◌}
use mathlib.Core.List.{List}
use mathlib.Core.Path.{◌≡◌}
use native.Mathlib.Omega.{arith}
use lib.ListN.{length, get_or, take, drop}
use Rattle.rules.specs.Limits.{header_words}
use Rattle.rules.specs.Tree.{Tree}
use Rattle.interval.specs.Interval.{range_of}
use Rattle.pool.proofs.Parts.{part_lent, with_part, front_after, part_after}
use Rattle.tree.specs.Edits.{Standing, Deletes}
use Rattle.serve.proofs.Laying.{header-there, holds-standing, slots-long}
use Rattle.serve.proofs.Taking.{releasable, released_words, took_range, answers-absent, answers-gone}
use Rattle.serve.proofs.delete.Goals as goal
use Rattle.serve.proofs.delete.Goals.{After-delete-gone}

-- the words before the call on the slots, and with what it left of them
abbrev ws : After-delete-gone → List ℕ
ws d = d.args.words.now

abbrev between : After-delete-gone → List ℕ
between d = with_part header_words (ws d) d.delete-gone.new.slots

fits : (d : After-delete-gone) → header_words ≤ length (ws d)
fits d = let there = header-there d.requires.1 in omega arith

kept : (d : After-delete-gone) → take header_words (between d) ≡ take header_words (ws d)
kept d = front_after header_words (ws d) d.delete-gone.new.slots (fits d)

done : (d : After-delete-gone) (t : Tree) → Standing (drop header_words (ws d)) (get_or (ws d) 0 0) t
    → Deletes d.delete-gone.result (drop header_words (ws d)) (drop header_words (between d)) (range_of d.args.key) t
done d =
    rw (part_after header_words (ws d) d.delete-gone.new.slots (fits d))
    (rw (part_lent header_words (ws d)) at d.delete-gone.ensures)

pub bounds-words-0 : goal.bounds-words-0
bounds-words-0 c = let there = header-there c.requires.1 in omega arith

pub slice_bounds-delete-count : goal.slice_bounds-delete-count
slice_bounds-delete-count c = let there = header-there c.requires.1 in omega arith

pub slice_bounds-delete-start : goal.slice_bounds-delete-start
slice_bounds-delete-start c = let there = header-there c.requires.1 in omega arith

pub delete-gone-requires : goal.delete-gone-requires
delete-gone-requires c =
    let p = c.requires in
    rw (part_lent header_words c.args.words.now) (p.0.tree, holds-standing p.1)

pub returns-then-slot-eq0 : goal.returns-then-slot-eq0
returns-then-slot-eq0 c p h =
    let d = (goal.at.returns-then-slot-eq0 c).After-delete-gone in
    answers-absent (range_of c.args.key) h (kept d) (done d) c.if-slot-eq0.true

pub release-requires : goal.release-requires
release-requires c =
    let d = (goal.at.release-requires c).After-delete-gone in
    let p = c.requires in
    let key = range_of c.args.key in
    let told = (done d p.0.tree (holds-standing p.1)).gone c.if-slot-eq0.false in
    let took = took_range key p.1 told.0.1 told.0.2 in
    releasable (between d) p.1 (kept d) told.1.left took.counts took.one_less

pub returns : goal.returns
returns c p h =
    let d = (goal.at.returns c).After-delete-gone in
    let key = range_of c.args.key in
    let told = (done d p.tree (holds-standing h)).gone c.if-slot-eq0.false in
    let took = took_range key h told.0.1 told.0.2 in
    answers-gone key h told.0.1 told.0.2
    (released_words h (kept d) told.1.left took.counts took.one_less (slots-long c.delete-gone.new.slots h c.delete-gone.auto.slots)
    (rw c.root.ensures at c.release.ensures))
