-- The records: their words are the rows of the words form, and tell the records. Assumes nothing.
use Prim.Native.Nat.{ℕ, zero, suc, ◌*◌, ◌≤◌, ◌<◌}
use mathlib.Core.List.{List, [], ◌∷◌, ◌++◌}
use mathlib.Core.Path.{◌≡◌, refl, sym, ap, ◌∙◌}
use native.Mathlib.Omega.{arith}
use lib.ListN.{length, set, take}
use Rattle.rules.specs.Tree.{Entry}
use Rattle.rules.specs.Entries.{rows_into}
use Rattle.rows.specs.Rows.{with_row}
use Rattle.rows.proofs.Lines.{no_room, some_room, later-row}
use Rattle.held.specs.declared.Hit.{Hit}
use Rattle.held.specs.Records.{hit_of, records_into, words_of}

-- rows as words are the records taken apart
pub rows_are_records : (es : List Entry) (rows : List Hit) → words_of (records_into es rows) ≡ rows_into es (words_of rows)
rows_are_records [] rows = refl
rows_are_records (e ∷ es) [] = refl
rows_are_records (e ∷ es) (r ∷ rows) =
    ap (λ rest. e.range.start ∷ e.range.end ∷ e.value ∷ rest) (rows_are_records es rows)

-- one record after others
next_record :
    (done : List Entry) (e : Entry) (more : List Entry) (rows : List Hit) → length done < length rows
    → set (records_into (take (length done) (done ++ e ∷ more)) rows) (length done) (hit_of e)
    ≡ records_into (take (suc (length done)) (done ++ e ∷ more)) rows
next_record [] e more [] h = absurd (omega arith)
next_record [] e more (r ∷ rows) h = refl
next_record (d ∷ done) e more [] h = absurd (omega arith)
next_record (d ∷ done) e more (r ∷ rows) h = ap (λ rest. hit_of d ∷ rest) (next_record done e more rows (omega arith))

-- without room no more are written
no_more-room : (n : ℕ) (es : List Entry) (rows : List Hit) → length rows ≤ n → records_into (take n es) rows ≡ records_into es rows
no_more-room zero [] rows h = refl
no_more-room zero (e ∷ es) [] h = refl
no_more-room zero (e ∷ es) (r ∷ rows) h = absurd (omega arith)
no_more-room (suc n) [] rows h = refl
no_more-room (suc n) (e ∷ es) [] h = refl
no_more-room (suc n) (e ∷ es) (r ∷ rows) h = ap (λ rest. hit_of e ∷ rest) (no_more-room n es rows (omega arith))

-- three words for each record
words_length : (rows : List Hit) → length (words_of rows) ≡ 3 * length rows
words_length [] = refl
words_length (r ∷ rows) = omega (arith, words_length rows)

-- records with the same words are the same
same_start : {a b : ℕ} {xs ys : List ℕ} → a ∷ xs ≡ b ∷ ys → a ≡ b
same_start h = ap first h
  where
    first : List ℕ → ℕ
    first [] = 0
    first (x ∷ xs) = x

same_rest : {a b : ℕ} {xs ys : List ℕ} → a ∷ xs ≡ b ∷ ys → xs ≡ ys
same_rest h = ap rest h
  where
    rest : List ℕ → List ℕ
    rest [] = []
    rest (x ∷ xs) = xs

pub words_tell : (rows others : List Hit) → words_of rows ≡ words_of others → rows ≡ others
words_tell [] [] h = refl
words_tell [] (r ∷ rows) h = let long = ap length h in absurd (omega arith)
words_tell (r ∷ rows) [] h = let long = ap length h in absurd (omega arith)
words_tell (r ∷ rows) (s ∷ others) h =
    let second = same_rest h in
    let third = same_rest second in
    λ i.
    record { start = same_start h i; end = same_start second i; value = same_start third i }
    ∷ words_tell rows others (same_rest third) i

-- a record written is a row written
pub written :
    (n : ℕ) (rows : List Hit) (r : Hit) → n < length rows
    → words_of (set rows n r) ≡ with_row (words_of rows) n r.start r.end r.value
written n [] r h = absurd (omega arith)
written zero (s ∷ rows) r h = sym (some_room 0 _ _ _ (words_of (s ∷ rows)) (omega arith))
written (suc n) (s ∷ rows) r h =
    ap (λ words. s.start ∷ s.end ∷ s.value ∷ words) (written n rows r (omega arith))
    ∙ sym (later-row n r.start r.end r.value s.start s.end s.value (words_of rows))

-- and without room for a record there is none for a row
pub not_written :
    (n : ℕ) (rows : List Hit) (start end value : ℕ) → length rows ≤ n
    → words_of rows ≡ with_row (words_of rows) n start end value
not_written n rows start end value h =
    sym (no_room n start end value (words_of rows) (omega (arith, words_length rows)))
