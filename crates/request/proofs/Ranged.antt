-- What the code's answer says of the range that is named. Assumes nothing.
use mathlib.Core.Option.{Option, none, some}
use mathlib.Core.Path.{◌≡◌, refl, sym, ap, ◌∙◌}
use Rattle.std.specs.Prelude.{Result, Ok, Err, IsErrAnd}
use Rattle.rules.specs.Range.{Range}
use Rattle.interval.specs.Interval.{range_of}
use Rattle.interval.specs.declared.Interval.{Interval}
use Rattle.request.specs.Requests.{ranged}
use Rattle.request.specs.declared.Refusal.{Refusal}
use Rattle.request.specs.declared.Refusal.TheVariants.{PastEnd}
use Rattle.request.proofs.Refused.{passed_on}

pub range_known : {x : Result Interval Refusal} {o : Option Range} {key : Interval} → x ≡ ranged o → x ≡ Ok key → o ≡ some (range_of key)
range_known {x} {o} {key} p q = go o (sym q ∙ p)
  where
    go : (o : Option Range) → Ok key ≡ ranged o → o ≡ some (range_of key)
    go none e = cc
    go (some r) e = let z : key ≡ record { start = r.start; end = r.end } = cc in rw z refl

-- a range is refused as past the end alone, and then there is none
pub no_range : {x : Result Interval Refusal} {o : Option Range} {e : Refusal} → x ≡ ranged o → x ≡ Err e → (o ≡ none) × (e ≡ PastEnd)
no_range {x} {o} {e} p q = go o (sym q ∙ p)
  where
    go : (o : Option Range) → Err e ≡ ranged o → (o ≡ none) × (e ≡ PastEnd)
    go none h = (refl, cc)
    go (some r) h = cc

-- nor is one whose refusal is answered by a `?`
pub no_range_answered : {A : Type 0} (r : Result A Refusal) {x : Result Interval Refusal} {o : Option Range} {e : Refusal} {Q : Refusal → Type 0}
    → x ≡ ranged o → x ≡ Err e → IsErrAnd r Q → ((f : Refusal) → Q f → f ≡ e) → (o ≡ none) × (r ≡ Err PastEnd)
no_range_answered r p q refused same =
    let z = no_range p q in
    (z.0, passed_on r refused same ∙ ap Err z.1)
