-- `fits` is the test of a slot over its children. Assumes nothing.
use Rattle.fitting.proofs.Nodes.{beyond_words, within-words, exact_fits, only_left, only_right}
use Prim.Native.Nat.{◌*◌, ◌≤◌}
use mathlib.Core.Path.{◌∙◌}
use lib.ListN.{length}
use Rattle.rules.specs.Limits.{slot_words}
use Rattle.fitting.proofs.fits.Goals as goal
use Rattle.fitting.proofs.fits.Goals.{Else-words-l}

pub returns-then-words-l : goal.returns-then-words-l
returns-then-words-l c =
    beyond_words c.args.slots.now c.args.k c.left-l.ensures
    c.right-r.ensures.0 c.if-words-l.true

-- past the test both children are slots or none
both-in : (c : Else-words-l)
    → let words = length c.args.slots.now in
    (slot_words * c.left-l.result ≤ words) × (slot_words * c.right-r.result ≤ words)
both-in c = within-words c.if-words-l.false

pub returns-then-l-eq0 : goal.returns-then-l-eq0
returns-then-l-eq0 c =
    c.fits_one.ensures
    ∙ only_right c.args.slots.now c.args.k c.left-l.ensures
    c.right-r.ensures.0 c.if-l-eq0.true (both-in (goal.at.returns-then-l-eq0 c).Else-words-l)

pub returns-then-r-eq0 : goal.returns-then-r-eq0
returns-then-r-eq0 c =
    c.fits_one-then-r-eq0.ensures
    ∙ only_left c.args.slots.now c.args.k c.left-l.ensures
    c.right-r.ensures.0 c.if-r-eq0.true (both-in (goal.at.returns-then-r-eq0 c).Else-words-l)

pub returns : goal.returns
returns c =
    c.fits_both.ensures
    ∙ exact_fits c.args.slots.now c.args.k c.left-l.ensures
    c.right-r.ensures.0 (both-in (goal.at.returns c).Else-words-l)
