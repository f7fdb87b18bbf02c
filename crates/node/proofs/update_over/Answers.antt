-- `update_over` stores the tree of the entry and its two children. Assumes nothing.
use Rattle.node.proofs.Halves.{apart-high, shape_over}
use Rattle.node.proofs.Updated.{fit, updated}
use Rattle.node.proofs.update_over.Goals as goal

pub update_shape-shape-requires : goal.update_shape-shape-requires
update_shape-shape-requires c =
    let p = c.requires in
    let f = fit p.2.3 in
    rw (apart-high p.0 f.left_low, apart-high p.1 f.right_low) f.few

pub returns : goal.returns
returns c e a b h =
    let p = c.requires in
    let f = fit h in
    rw c.set_words.ensures
    (updated h
    (record {
      max_is = c.update_max-max.ensures;
      links_is = c.pack.ensures;
      shape_is = shape_over _ _ p.0 p.1 f.left_low f.right_low c.update_shape-shape.ensures;
    }))
