-- What the entry's contract says is the case of this call. Assumes nothing.
use Rattle.history.specs.Host.{by_delete_min}
use Rattle.hosted.proofs.delete_min.Goals as goal

pub returns : goal.returns
returns c = let called = c.hindraloha_delete_min in by_delete_min called.result called.ensures
