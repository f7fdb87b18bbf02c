-- `release` stores the header, and frees the slot in the part after it. Assumes nothing.
use Rattle.pool.proofs.Changed.{released}
use Rattle.pool.proofs.release.Goals as goal

pub returns : goal.returns
returns c =
    released c.requires.0 c.requires.1 c.set_header.ensures c.free_slot.ensures
