-- `mend` stores the mended tree. Assumes nothing.
use Rattle.rules.specs.Balance.{straight}
use Rattle.balance.specs.Sides.{side_of}
use Rattle.balance.proofs.Mended.{mendable, mended, tall-straight}
use Rattle.balance.proofs.mend.Goals as goal

pub rotate-requires : goal.rotate-requires
rotate-requires c =
    let s = side_of c.args.side in
    let p = c.requires in (
      p.0,
      straight s p.1,
      p.2,
      mendable s p.3 (c.straighten-top.ensures p.1 p.3.left p.4),
      tall-straight s p.1 p.4,
    )

pub returns : goal.returns
returns c e t u h tall =
    mended (side_of c.args.side) h (c.straighten-top.ensures t h.left tall) tall c.rotate.ensures
