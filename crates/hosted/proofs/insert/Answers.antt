-- What the entry's contract says is the case of this call. Assumes nothing.
use Rattle.history.specs.Host.{by_insert}
use Rattle.hosted.proofs.insert.Goals as goal

pub returns : goal.returns
returns c =
    let called = c.hindraloha_insert in
    let a = c.args in
    by_insert called.result a.start a.end a.included a.value called.ensures
