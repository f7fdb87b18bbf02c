-- What a query answers and counts is the same, whatever is lent for its rows. Assumes nothing.
use Rattle.std.proofs.Common.{◌≡◌, ℕ, Bool, true, false, cond, List, length, refl}
use Rattle.std.proofs.Math.Option.{Option, none, some}
use Rattle.rules.specs.Range.{End}
use Rattle.rules.specs.Pool.{Pool, capacity, right_length}
use Rattle.rules.specs.Held.{held}
use Rattle.rules.specs.Request.{querying, serve}
use Rattle.rules.specs.Entries.{sound_only, Queried, query, rows_into}

-- what is answered, from whether the length is right and the pool that is held
abbrev answered : End → ℕ → ℕ → ℕ → List ℕ → Bool → Option Pool → Queried
answered end a b c run right pool =
    cond right
    (sound_only pool (λ n. record { number = n; count = 0; run = run })
    (λ p.
    record {
      number = (serve c (querying end a b) p).number;
      count = length (serve c (querying end a b) p).hits;
      run = rows_into (serve c (querying end a b) p).hits run;
    }))
    (record { number = 10; count = 0; run = run })

number_of : (end : End) (a b c : ℕ) (run other : List ℕ) (right : Bool) (pool : Option Pool) → (answered end a b c run right pool).number ≡ (answered end a b c other right pool).number
number_of end a b c run other false pool = refl
number_of end a b c run other true none = refl
number_of end a b c run other true (some p) = refl

count_of : (end : End) (a b c : ℕ) (run other : List ℕ) (right : Bool) (pool : Option Pool) → (answered end a b c run right pool).count ≡ (answered end a b c other right pool).count
count_of end a b c run other false pool = refl
count_of end a b c run other true none = refl
count_of end a b c run other true (some p) = refl

pub same_number : (end : End) (a b : ℕ) (ws run other : List ℕ) → (query end a b ws run).number ≡ (query end a b ws other).number
unfolding query
same_number end a b ws run other = number_of end a b (capacity (length ws)) run other (right_length (length ws)) (held ws)

pub same_count : (end : End) (a b : ℕ) (ws run other : List ℕ) → (query end a b ws run).count ≡ (query end a b ws other).count
unfolding query
same_count end a b ws run other = count_of end a b (capacity (length ws)) run other (right_length (length ws)) (held ws)
