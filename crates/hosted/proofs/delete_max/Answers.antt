-- What the entry's contract says is the case of this call. Assumes nothing.
use Rattle.history.specs.Host.{by_delete_max}
use Rattle.hosted.proofs.delete_max.Goals as goal

pub returns : goal.returns
returns c = let called = c.hindraloha_delete_max in by_delete_max called.result called.ensures
