-- `is_sound` tests the header, looks at the tree from the root on, and walks along the free chain. Assumes nothing.
use Prim.Native.Nat.{◌+◌}
use mathlib.Core.Path.{refl, sym, ◌∙◌}
use native.Mathlib.Omega.{arith}
use lib.ListN.{length}
use Rattle.rules.specs.Limits.{most_slots}
use Rattle.sound.proofs.Marks.{blank, blank-flags}
use Rattle.sound.proofs.Whole.{header-lent, refused_header, root_ready, live_few}
use Rattle.sound.proofs.Whole.{refused_tree, decided}
use Rattle.sound.proofs.is_sound.Goals as goal

pub slots-slots-requires : goal.slots-slots-requires
slots-slots-requires c = header-lent (length c.args.words.now) c.requires

pub header-requires : goal.header-requires
header-requires c =
    let ws = c.args.words.now in
    header-lent (length ws) c.requires

pub returns-then-not-header : goal.returns-then-not-header
returns-then-not-header c =
    let ws = c.args.words.now in
    refused_header ws _ c.requires c.slots-slots.ensures (sym c.header.ensures ∙ c.if-not-header.true)

pub bounds-words-0 : goal.bounds-words-0
bounds-words-0 c =
    omega (arith, header-lent (length c.args.words.now) c.requires)

pub tree-requires : goal.tree-requires
tree-requires c =
    let ws = c.args.words.now in
    root_ready ws _ c.requires c.slots-slots.ensures (blank-flags (most_slots + 1) refl)
    (sym c.header.ensures ∙ c.if-not-header.false)

pub returns-then-not-tree : goal.returns-then-not-tree
returns-then-not-tree c =
    let ws = c.args.words.now in
    refused_tree ws _ c.requires c.slots-slots.ensures (blank (most_slots + 1)) c.tree.ensures
    c.if-not-tree.true

pub bounds-words-1 : goal.bounds-words-1
bounds-words-1 c =
    omega (arith, header-lent (length c.args.words.now) c.requires)

pub bounds-words-2 : goal.bounds-words-2
bounds-words-2 c =
    omega (arith, header-lent (length c.args.words.now) c.requires)

pub overflow_sub-slots : goal.overflow_sub-slots
overflow_sub-slots c =
    let ws = c.args.words.now in
    live_few ws _ c.requires c.slots-slots.ensures
    (sym c.header.ensures ∙ c.if-not-header.false)

pub returns : goal.returns
returns c =
    let ws = c.args.words.now in
    decided ws _ c.requires c.slots-slots.ensures (blank (most_slots + 1))
    (sym c.header.ensures ∙ c.if-not-header.false)
    c.tree.ensures
    c.if-not-tree.false
    c.chain.ensures
