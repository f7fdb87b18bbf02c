-- `update` reads what is taken over of both children first. Assumes nothing.
use Rattle.node.proofs.Updated.{fit}
use Rattle.node.proofs.update.Goals as goal

pub shape_below-left-requires : goal.shape_below-left-requires
shape_below-left-requires c = let f = fit c.requires.3 in (f.left_in, f.left_low)

pub shape_below-right-requires : goal.shape_below-right-requires
shape_below-right-requires c = let f = fit c.requires.3 in (f.right_in, f.right_low)
