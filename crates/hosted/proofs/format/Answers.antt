-- What the entry's contract says is the case of this call. Assumes nothing.
use Rattle.history.specs.Host.{by_format}
use Rattle.hosted.proofs.format.Goals as goal

pub returns : goal.returns
returns c = let called = c.hindraloha_format in by_format called.result called.ensures
