-- What the entry's contract says is the case of this call, and the rest of the answer. The pool's words are the same. Assumes nothing.
use mathlib.Core.Path.{refl}
use Rattle.history.specs.Host.{by_query}
use Rattle.hosted.proofs.query.Goals as goal

pub returns : goal.returns
returns c =
    let called = c.hindraloha_query in
    let a = c.args in
    (by_query called.result a.start a.end a.included a.rows.now _ called.ensures refl, called.ensures)
