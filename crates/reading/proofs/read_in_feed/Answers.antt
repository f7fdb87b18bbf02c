-- `read_in_feed` reads by the first byte. Assumes nothing.
use mathlib.Core.Path.{◌∙◌}
use Rattle.std.proofs.lemmas.Option.{MatchOption-at_none}
use Rattle.rules.specs.Record.{feed_kinds}
use Rattle.reading.proofs.Found.{no_bytes, unknown_read, kind_read}
use Rattle.reading.proofs.read_in_feed.Goals as goal

pub returns-in-None : goal.returns-in-None
returns-in-None c = let cases = c.split_first.ensures.cases in rw (← no_bytes feed_kinds c.args.bytes.now (MatchOption-at_none _ _ c.in-None.is cases))

pub returns-in_err-in_feed-in-Some : goal.returns-in_err-in_feed-in-Some
returns-in_err-in_feed-in-Some c =
    let is = c.in-Some.ensures.cases in
    unknown_read feed_kinds is.0 _ c.in_err-in_feed-in-Some.ensures.0 c.from_residual.ensures.1 (λ e same. same ∙ c.in_err-in_feed-in-Some.ensures.1)

pub returns-in_ok-in_feed-in-Some : goal.returns-in_ok-in_feed-in-Some
returns-in_ok-in_feed-in-Some c =
    let is = c.in-Some.ensures.cases in
    kind_read feed_kinds is.0 _ _ c.in_ok-in_feed-in-Some.ensures.1 c.read.ensures
