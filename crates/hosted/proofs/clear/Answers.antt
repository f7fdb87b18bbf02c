-- What the entry's contract says is the case of this call. Assumes nothing.
use Rattle.history.specs.Host.{by_clear}
use Rattle.hosted.proofs.clear.Goals as goal

pub returns : goal.returns
returns c = let called = c.hindraloha_clear in by_clear called.result called.ensures
