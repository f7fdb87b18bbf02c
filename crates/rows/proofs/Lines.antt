-- One row more at the end of those that were written: document 01, "writes start, end, value for the first of them, as
-- many as fit in a lent run of words; later words stay." Assumes nothing.
use Prim.Native.Nat.{ℕ, suc, ◌+◌, ◌*◌, ◌≤◌, ◌<◌}
use mathlib.Core.List.{List, [], ◌∷◌, ◌++◌, append-nil}
use mathlib.Core.Logic.{⊎_elim}
use mathlib.Core.Option.{Option, none, some}
use mathlib.Core.Path.{◌≡◌, refl, sym, ap, ◌∙◌}
use native.Mathlib.Omega.{arith}
use lib.ListN.{length, set}
use Rattle.std.specs.Prelude.{Some, None}
use borrow.Author.Tests.{le-leb, lt-leb}
use Rattle.rules.specs.Tree.{Entry}
use Rattle.rules.specs.Steps.{with_hit}
use Rattle.rules.specs.Entries.{rows_into}
use Rattle.rules.specs.Stored.{slot_word, Within}
use Rattle.rules.proofs.Tests.{le_cases}
use Rattle.walk.specs.Walk.{Hit, no_hit, hit_in}
use Rattle.rows.specs.Rows.{with_row, with_hit_row}

module _ (n start end value : ℕ) where
  -- without room the run stays
  pub no_room : (run : List ℕ) → length run < 3 * n + 3 → with_row run n start end value ≡ run
  unfolding with_row
  no_room run h = rw (lt-leb (3 * n + 3) (length run) h)

  -- and with room it has the row
  pub some_room :
      (run : List ℕ) → 3 * n + 3 ≤ length run
      → with_row run n start end value ≡ set (set (set run (3 * n) start) (3 * n + 1) end) (3 * n + 2) value
  unfolding with_row
  some_room run h = rw (le-leb (3 * n + 3) (length run) h)

-- a row after a first one is a row of the rest
pub later-row :
    (n start end value a b c : ℕ) (run : List ℕ)
    → with_row (a ∷ b ∷ c ∷ run) (suc n) start end value ≡ a ∷ b ∷ c ∷ with_row run n start end value
later-row n start end value a b c run =
    let first : 3 * suc n ≡ suc (suc (suc (3 * n))) = omega arith in
    let second : 3 * suc n + 1 ≡ suc (suc (suc (3 * n + 1))) = omega arith in
    let third : 3 * suc n + 2 ≡ suc (suc (suc (3 * n + 2))) = omega arith in
    ⊎_elim
    (λ y.
    let room = y.0 in
    rw (
      some_room n start end value run y.0,
      some_room (suc n) start end value (a ∷ b ∷ c ∷ run) (omega arith),
      third,
      second,
      first,
    ))
    (λ y.
    let short = y.0 in
    rw (no_room n start end value run y.0, no_room (suc n) start end value (a ∷ b ∷ c ∷ run) (omega arith)))
    (le_cases (3 * n + 3) (length run))

-- one row into a run
first-row :
    (e : Entry) (run : List ℕ)
    → rows_into (e ∷ []) run ≡ with_row run 0 e.range.start e.range.end e.value
first-row e [] = sym (no_room 0 _ _ _ [] (omega arith))
first-row e (x ∷ []) = sym (no_room 0 _ _ _ (x ∷ []) (omega arith))
first-row e (x ∷ y ∷ []) = sym (no_room 0 _ _ _ (x ∷ y ∷ []) (omega arith))
first-row e (x ∷ y ∷ z ∷ run) = sym (some_room 0 _ _ _ (x ∷ y ∷ z ∷ run) (omega arith))

-- one row after others
next_row :
    (done : List Entry) (e : Entry) (run : List ℕ)
    → rows_into (done ++ e ∷ []) run
    ≡ with_row (rows_into done run) (length done) e.range.start e.range.end e.value
next_row [] e run = first-row e run
next_row (d ∷ done) e [] = sym (no_room _ _ _ _ [] (omega arith))
next_row (d ∷ done) e (x ∷ []) = sym (no_room _ _ _ _ (x ∷ []) (omega arith))
next_row (d ∷ done) e (x ∷ y ∷ []) = sym (no_room _ _ _ _ (x ∷ y ∷ []) (omega arith))
next_row (d ∷ done) e (x ∷ y ∷ z ∷ run) =
    ap (λ rest. d.range.start ∷ d.range.end ∷ d.value ∷ rest) (next_row done e run)
    ∙ sym (later-row (length done) _ _ _ _ _ _ (rows_into done run))

-- one hit more, if there is one
pub rows_more :
    (done : List Entry) (o : Option Entry) (run : List ℕ)
    → rows_into (done ++ with_hit o []) run ≡ with_hit_row (rows_into done run) (length done) o
rows_more done none run = rw (append-nil done)
rows_more done (some e) run = next_row done e run

-- a slot that is hit is one of these
pub hit-within : {ss : List ℕ} {k : ℕ} {o : Option Entry} → Hit ss (Some k) o → Within ss k
hit-within (hit_in b) = b.at

-- no hit: nothing is counted or written
pub not_counted :
    {ss run : List ℕ} {count : ℕ} {o : Option Entry} → Hit ss None o
    → (count ≡ count + length (with_hit o [])) × (run ≡ with_hit_row run count o)
not_counted no_hit = (omega arith, refl)

-- a hit: it is counted, and its slot's words are written
pub counted :
    {ss after : List ℕ} {k : ℕ} {o : Option Entry} (run : List ℕ) (count : ℕ) → Hit ss (Some k) o
    → after ≡ with_row run count (slot_word ss k 0) (slot_word ss k 1) (slot_word ss k 2)
    → (count + 1 ≡ count + length (with_hit o [])) × (after ≡ with_hit_row run count o)
counted run count (hit_in b) h = (refl, h ∙ rw (b.start_word, b.end_word, b.value_word) refl)
