-- What the entry's contract says is the case of this call, and the rest of the answer. Assumes nothing.
use Rattle.history.specs.Host.{by_apply}
use Rattle.hosted.proofs.apply.Goals as goal

pub returns : goal.returns
returns c =
    let called = c.hindraloha_apply in
    let a = c.args in
    (by_apply called.result a.bytes.now a.rows.now _ called.ensures, called.ensures)
