-- What the entry's contract says is the case of this call, and the rest of the answer. Assumes nothing.
use Rattle.history.specs.Host.{by_feed}
use Rattle.hosted.proofs.feed.Goals as goal

pub returns : goal.returns
returns c =
    let called = c.hindraloha_feed in
    let a = c.args in
    (by_feed called.result a.bytes.now called.ensures, called.ensures)
