-- The entries, one function each: from all words and bytes given to the number, the counts and all words left.
-- Document 01, "What each entry answers". "Order: 10, 11, 14, 15, 12, 1 or 2, 13."
use Rattle.std.specs.Prelude.{ℕ, cond, List, [], ◌∷◌, ℤ, pos, eqb, length}
use Rattle.std.proofs.Math.Option.{Option, none, some}
use Rattle.rules.specs.Range.{End}
use Rattle.rules.specs.Tree.{Entry, size, height}
use Rattle.rules.specs.Pool.{Pool, words, capacity, right_length, fresh}
use Rattle.rules.specs.Held.{held}
use Rattle.rules.specs.Request.{Request, querying, serve, is_refusal}
use Rattle.rules.specs.Record.{Reading, whole, unknown, cut_short, kinds, reads}
use Rattle.rules.specs.Feed.{Feeding, feed_turns}

-- "11 | pool isn't sound"; else what the held pool answers
abbrev pub sound_only {ℓ} : {A : Type ℓ} → Option Pool → (ℕ → A) → (Pool → A) → A
sound_only none refused answer = refused 11
sound_only (some p) refused answer = answer p

-- "10 | pool length isn't 4 + 6c, c from 1 to 4,095"; then 11; then what a sound pool of c slots answers
abbrev pub guarded {ℓ} : {A : Type ℓ} → List ℕ → (ℕ → A) → (ℕ → Pool → A) → A
guarded ws refused answer =
    cond (right_length (length ws)) (sound_only (held ws) refused (answer (capacity (length ws)))) (refused 10)

-- the number, and all words of the pool
pub record Edited : Type 0 where
  pub number : ℕ
  pub words : List ℕ

-- "Format gives only 0 or 10"
unfoldable pub format : List ℕ → Edited
format ws =
    cond (right_length (length ws))
    (record { number = 0; words = words (capacity (length ws)) (fresh (capacity (length ws))) })
    (record { number = 10; words = ws })

-- "check only 0, 10 or 11"
unfoldable pub check : List ℕ → ℕ
check ws = guarded ws (λ n. n) (λ c p. 0)

-- insert, delete, delete-min, delete-max and clear, by the request
unfoldable pub edit : Request → List ℕ → Edited
edit request ws =
    guarded ws (λ n. record { number = n; words = ws })
    (λ c p. record { number = (serve c request p).number; words = words c (serve c request p).left })

-- "Size, height and `is_empty` answer a number with it: 0, -1 and 1 ("yes") on an empty tree; 0 on refusal."
pub record Told (A : Type 0) : Type 0 where
  pub number : ℕ
  pub told : A

unfoldable pub size_of : List ℕ → Told ℕ
size_of ws = guarded ws (λ n. record { number = n; told = 0 }) (λ c p. record { number = 0; told = size p.tree })

unfoldable pub height_of : List ℕ → Told ℤ
height_of ws =
    guarded ws (λ n. record { number = n; told = pos 0 }) (λ c p. record { number = 0; told = height p.tree })

unfoldable pub is_empty : List ℕ → Told ℕ
is_empty ws =
    guarded ws (λ n. record { number = n; told = 0 })
    (λ c p. record { number = 0; told = cond (eqb (size p.tree) 0) 1 0 })

-- "writes start, end, value for the first of them, as many as fit in a lent run of words; later words stay."
-- "A row needs three words of room"
abbrev pub rows_into : List Entry → List ℕ → List ℕ
rows_into [] run = run
rows_into (e ∷ es) [] = []
rows_into (e ∷ es) (x ∷ []) = x ∷ []
rows_into (e ∷ es) (x ∷ y ∷ []) = x ∷ y ∷ []
rows_into (e ∷ es) (x ∷ y ∷ z ∷ run) = e.range.start ∷ e.range.end ∷ e.value ∷ rows_into es run

-- "Query returns the number of hits, all counted": the number, the hits and the lent run
pub record Queried : Type 0 where
  pub number : ℕ
  pub count : ℕ
  pub run : List ℕ

unfoldable pub query : End → ℕ → ℕ → List ℕ → List ℕ → Queried
query end a b ws run =
    guarded ws (λ n. record { number = n; count = 0; run = run })
    (λ c p.
    record {
      number = (serve c (querying end a b) p).number;
      count = length (serve c (querying end a b) p).hits;
      run = rows_into (serve c (querying end a b) p).hits run;
    })

-- "Apply returns also the bytes taken and the hits (both 0 on refusal; hits 0 but for kind 9)": with all words of the
-- pool and of the lent run
pub record Applied : Type 0 where
  pub number : ℕ
  pub taken : ℕ
  pub count : ℕ
  pub words : List ℕ
  pub run : List ℕ

abbrev pub apply_refused : ℕ → List ℕ → List ℕ → Applied
apply_refused n ws run = record { number = n; taken = 0; count = 0; words = ws; run = run }

-- what a sound pool of c slots does with what was read
abbrev pub apply_read : Reading → ℕ → Pool → List ℕ → Applied
apply_read unknown c p run = apply_refused 14 (words c p) run
apply_read cut_short c p run = apply_refused 15 (words c p) run
apply_read (whole request taken) c p run =
    record {
      number = (serve c request p).number;
      taken = cond (is_refusal (serve c request p).number) 0 taken;
      count = length (serve c request p).hits;
      words = words c (serve c request p).left;
      run = rows_into (serve c request p).hits run;
    }

-- "bytes after the record are ignored, and only kind 9 writes to the hit run"
unfoldable pub apply : List ℕ → List ℕ → List ℕ → Applied
apply bytes ws run =
    guarded ws (λ n. apply_refused n ws run) (λ c p. apply_read (reads kinds bytes) c p run)

-- the number, the records applied, their bytes, and all words of the pool
pub record Fed : Type 0 where
  pub number : ℕ
  pub records : ℕ
  pub taken : ℕ
  pub words : List ℕ

abbrev pub fed : ℕ → Feeding Pool → Fed
fed c f = record { number = f.number; records = f.records; taken = f.taken; words = words c f.left }

-- "A feed checks the pool once, then applies records"; "0 and 0 with 10 or 11"
unfoldable pub feed : List ℕ → List ℕ → Fed
feed bytes ws =
    guarded ws (λ n. record { number = n; records = 0; taken = 0; words = ws })
    (λ c p. fed c (feed_turns (serve c) (length bytes) bytes p))
