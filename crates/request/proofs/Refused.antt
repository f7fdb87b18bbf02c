-- What a refusal is when it is answered on, and that its number is a refusal. Assumes nothing.
use mathlib.Core.Bool.{true, false}
use mathlib.Core.Path.{◌≡◌, ap, ◌∙◌}
use native.Mathlib.Omega.{arith}
use Rattle.std.specs.Prelude.{Result, Err, IsErrAnd}
use Rattle.std.proofs.lemmas.Result.{err_from_is_err_and}
use Rattle.rules.specs.Request.{is_refusal}
use Rattle.request.specs.Answers.{outcome_number, refusal_number}
use Rattle.request.specs.declared.Outcome.{Outcome}
use Rattle.request.specs.declared.Refusal.{Refusal}

-- a refusal that a `?` answers on is the same one
pub passed_on : {A : Type 0} (r : Result A Refusal) {e : Refusal} {Q : Refusal → Type 0} → IsErrAnd r Q → ((f : Refusal) → Q f → f ≡ e) → r ≡ Err e
passed_on r refused same = let answered = err_from_is_err_and r refused in answered.1 ∙ ap Err (same answered.0 answered.2)

-- the number of each refusal is one, and of an outcome none
pub is_refused : (e : Refusal) → is_refusal (refusal_number e) ≡ true
is_refused e = grind arith

pub is_served : (o : Outcome) → is_refusal (outcome_number o) ≡ false
is_served o = grind arith
