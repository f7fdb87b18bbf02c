-- What the entry's contract says is the case of this call. Assumes nothing.
use Rattle.history.specs.Host.{by_delete}
use Rattle.hosted.proofs.delete.Goals as goal

pub returns : goal.returns
returns c =
    let called = c.hindraloha_delete in
    let a = c.args in
    by_delete called.result a.start a.end a.included called.ensures
