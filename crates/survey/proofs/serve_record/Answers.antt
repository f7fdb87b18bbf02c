-- `serve_record` leaves a pool, and all rows of its hits are written. Assumes nothing.
use mathlib.Core.Path.{ap}
use native.Mathlib.Omega.{arith}
use Rattle.rules.specs.Record.{kinds, reads}
use Rattle.survey.specs.Ready.{Ready}
use Rattle.survey.proofs.Holding.{applied-ready, rows_fit}
use Rattle.survey.proofs.serve_record.Given.{Over}
use Rattle.survey.proofs.serve_record.Goals as goal
use Rattle.survey.proofs.serve_record.Goals.{After-apply}

pub write_hits-requires : goal.write_hits-requires
write_hits-requires g c =
    let is = rw c.in-Ok.is at (c.apply.ensures c.requires.held c.requires.holds) in
    let fit = rows_fit (reads kinds c.args.bytes.now) c.args.rows.now c.requires in
    omega (arith, ap (λ a. a.count) is, c.apply.auto.rows)

-- the record was applied, so that the words hold a pool again, whatever becomes of its lines
left : (g : Over) (c : After-apply g) → Ready c.apply.new.words
left g c =
    let is = c.apply.ensures c.requires.held c.requires.holds in
    let r = reads kinds c.args.bytes.now in
    applied-ready r c.args.rows.now c.apply.auto.words c.requires (ap (λ a. a.words) is)

pub returns-in_err-write_hits-in-Ok : goal.returns-in_err-write_hits-in-Ok
returns-in_err-write_hits-in-Ok g c = left g (goal.at.returns-in_err-write_hits-in-Ok g c).After-apply

pub returns-in_ok-write_hits-in-Ok : goal.returns-in_ok-write_hits-in-Ok
returns-in_ok-write_hits-in-Ok g c = left g (goal.at.returns-in_ok-write_hits-in-Ok g c).After-apply

pub returns-in_err-write_answer-in-Ok-2 : goal.returns-in_err-write_answer-in-Ok-2
returns-in_err-write_answer-in-Ok-2 g c = left g (goal.at.returns-in_err-write_answer-in-Ok-2 g c).After-apply

pub returns-in_ok-write_answer-in-Ok-2 : goal.returns-in_ok-write_answer-in-Ok-2
returns-in_ok-write_answer-in-Ok-2 g c = left g (goal.at.returns-in_ok-write_answer-in-Ok-2 g c).After-apply

pub returns-in_err-write_answer-in-Err : goal.returns-in_err-write_answer-in-Err
returns-in_err-write_answer-in-Err g c = left g (goal.at.returns-in_err-write_answer-in-Err g c).After-apply

pub returns-after-matches : goal.returns-after-matches
returns-after-matches g c = left g (goal.at.returns-after-matches g c).After-apply
