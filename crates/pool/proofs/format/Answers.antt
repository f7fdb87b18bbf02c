-- `format` stores the header of an empty tree, and links all slots in the part after it. Assumes nothing.
use native.Mathlib.Omega.{arith}
use lib.ListN.{length, length-set}
use Rattle.rules.proofs.Lengths.{roomy}
use Rattle.pool.proofs.Changed.{formatted}
use Rattle.pool.proofs.format.Goals as goal

pub bounds-words-3 : goal.bounds-words-3
bounds-words-3 c = omega (arith, roomy (length c.args.words.now) c.requires)

pub set_header-requires : goal.set_header-requires
set_header-requires c =
    let words = c.args.words.now in
    omega (arith, roomy (length words) c.requires, length-set words 3 0)

pub slice_bounds-link_slots-count : goal.slice_bounds-link_slots-count
slice_bounds-link_slots-count c =
    let words = c.args.words.now in
    omega (arith, roomy (length words) c.requires, length-set words 3 0)

pub returns : goal.returns
returns c =
    let linked = c.link_slots in
    formatted c.args.words.now c.requires c.set_header.ensures linked.auto.slots linked.ensures

pub slice_bounds-link_slots-start : goal.slice_bounds-link_slots-start
slice_bounds-link_slots-start c =
    let words = c.args.words.now in
    omega (arith, roomy (length words) c.requires, length-set words 3 0, c.set_header.auto.words)
