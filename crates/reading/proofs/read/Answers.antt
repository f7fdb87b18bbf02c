-- `read` reads by the first byte. Assumes nothing.
use mathlib.Core.Path.{◌∙◌}
use Rattle.std.proofs.lemmas.Option.{MatchOption-at_none}
use Rattle.rules.specs.Record.{kinds}
use Rattle.reading.proofs.Found.{no_bytes, unknown_read, kind_read}
use Rattle.reading.proofs.read.Goals as goal

pub returns-in-None : goal.returns-in-None
returns-in-None c = let cases = c.split_first.ensures.cases in rw (← no_bytes kinds c.args.bytes.now (MatchOption-at_none _ _ c.in-None.is cases))

pub returns-in_err-try_from-in-Some : goal.returns-in_err-try_from-in-Some
returns-in_err-try_from-in-Some c =
    let is = c.in-Some.ensures.cases in
    unknown_read kinds is.0 _ c.in_err-try_from-in-Some.ensures.0 c.from_residual.ensures.1 (λ e same. same ∙ c.in_err-try_from-in-Some.ensures.1)

pub returns-in_ok-try_from-in-Some : goal.returns-in_ok-try_from-in-Some
returns-in_ok-try_from-in-Some c =
    let is = c.in-Some.ensures.cases in
    kind_read kinds is.0 _ _ c.in_ok-try_from-in-Some.ensures.1 c.read.ensures
