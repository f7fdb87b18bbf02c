-- What a query and an applied record answer over the rows of the history: "an accepted query names each overlapping range
-- once and no other". The types and records down to `Applies` state it; what stands after them shows it of the words of a
-- good pool with these rows. Assumes nothing.
use Prim.Native.Nat.{ℕ, suc, ◌*◌, ◌≤◌}
use mathlib.Core.Bool.{Bool, true, false}
use mathlib.Core.List.{List, [], ◌∷◌, ◌++◌, map, Perm}
use mathlib.Core.Logic.{◌↔◌}
use mathlib.Core.Option.{Option, none, some}
use mathlib.Core.Path.{◌≡◌, refl, ap}
use native.Mathlib.Omega.{arith}
use lib.ListN.{length, drop}
use Rattle.rules.specs.Limits.{most_slots}
use Rattle.rules.specs.Range.{Range, End, range_to, overlaps}
use Rattle.rules.specs.Tree.{Entry}
use Rattle.rules.specs.Query.{overlapping, hits}
use Rattle.rules.specs.Pool.{Pool, words}
use Rattle.rules.specs.Request.{Request, inserting, deleting, deleting_end, clearing, querying}
use Rattle.rules.specs.Request.{Served, names, with_range, serve}
use Rattle.rules.specs.Record.{Reading, whole, unknown, cut_short, kinds, reads}
use Rattle.rules.specs.Entries.{rows_into, Queried, query, Applied, apply, apply_read}
use Rattle.rules.specs.History.{Row, account}
use Rattle.rules.proofs.Rows.{row_of}
use Rattle.rules.proofs.Held.{holds-held}
use Rattle.rules.proofs.Hitless.{insert_hitless, delete_hitless, end_hitless}
use Rattle.rules.proofs.Agreeing.{Same, same-query, Agrees, agrees_answer}
use Rattle.rules.proofs.Applying.{queried_of, Takes, apply-takes}
use Rattle.rules.proofs.Following.{agrees_holds, apply_words}
use Rattle.rules.proofs.Lists.{All, all_nil, all_cons}

-- the rows that overlap a range, and that there is none
abbrev pub overlapping_rows : Range → List Row → List Row
overlapping_rows q rows = overlapping (λ (x : Row). x.range) q rows

abbrev pub NoneOverlaps : Range → List Row → Type 0
NoneOverlaps q rows = All (λ (x : Row). overlaps x.range q ≡ false) rows

-- "start, end, value" of each row
abbrev pub row_words : List Row → List ℕ
row_words [] = []
row_words (x ∷ rows) = x.range.start ∷ x.range.end ∷ x.value ∷ row_words rows

-- What a query of q with this lent run has to answer where these rows were put in and not removed:
pub record Finds (q : Range) (rows : List Row) (run : List ℕ) (answer : Queried) : Type 0 where
  -- it is accepted;
  pub accepted : answer.number ≡ 0
  -- its count is that of the overlapping rows, so zero exactly where none overlaps;
  pub counted : answer.count ≡ length (overlapping_rows q rows)
  pub zero_exactly : answer.count ≡ 0 ↔ NoneOverlaps q rows
  -- it names the overlapping rows, each as often as the history has it and no other;
  pub named : List Row
  pub no_other : Perm named (overlapping_rows q rows)
  -- and where the run has room for them it writes these rows, and the later words stay.
  pub written : 3 * answer.count ≤ length run → answer.run ≡ row_words named ++ drop (3 * answer.count) run

-- this number without hits, and the lent run as it was
abbrev pub no_hit : ℕ → List ℕ → Queried
no_hit n run = record { number = n; count = 0; run = run }

-- What a query has to be answered with, by its range: "12 | included end is 2^64 - 1", and else what it finds
abbrev pub AnswersQuery : Option Range → List Row → List ℕ → Queried → Type 0
AnswersQuery none rows run answer = answer ≡ no_hit 12 run
AnswersQuery (some q) rows run answer = Finds q rows run answer

-- and each request, where the history's number is n: "hits 0 but for kind 9", "only kind 9 writes to the hit run"
abbrev pub AnswersRequest : Request → ℕ → List Row → List ℕ → Queried → Type 0
AnswersRequest (inserting d a b v) n rows run answer = answer ≡ no_hit n run
AnswersRequest (deleting d a b) n rows run answer = answer ≡ no_hit n run
AnswersRequest (deleting_end s) n rows run answer = answer ≡ no_hit n run
AnswersRequest clearing n rows run answer = answer ≡ no_hit n run
AnswersRequest (querying d a b) n rows run answer = AnswersQuery (range_to d a b) rows run answer

-- and a record, by what is read of its bytes, where there is room for c: "14 | kind not in the table", "15 | no bytes, or
-- body cut short", and else as its request
abbrev pub AnswersRecord : Reading → ℕ → List Row → List ℕ → Queried → Type 0
AnswersRecord unknown c rows run answer = answer ≡ no_hit 14 run
AnswersRecord cut_short c rows run answer = answer ≡ no_hit 15 run
AnswersRecord (whole request taken) c rows run answer =
    AnswersRequest request (account c request rows).number rows run answer

-- "Apply returns also the bytes taken and the hits": all that these bytes have to be answered with where this run is lent
pub record Applies (c : ℕ) (bytes : List ℕ) (rows : List Row) (run : List ℕ) (answer : Applied) : Type 0 where
  pub answers : AnswersRecord (reads kinds bytes) c rows run (queried_of answer)
  pub takes : Takes bytes answer

-- With room for all rows they stand in the run, and its later words behind them.
rows-with_room : (es : List Entry) (run : List ℕ) → 3 * length es ≤ length run →
    rows_into es run ≡ row_words (map row_of es) ++ drop (3 * length es) run
rows-with_room [] run fits = refl
rows-with_room (e ∷ es) [] fits = absurd (omega arith)
rows-with_room (e ∷ es) (x ∷ []) fits = absurd (omega arith)
rows-with_room (e ∷ es) (x ∷ y ∷ []) fits = absurd (omega arith)
rows-with_room (e ∷ es) (x ∷ y ∷ z ∷ run) fits =
    let three : 3 * suc (length es) ≡ suc (suc (suc (3 * length es))) = omega arith in
    rw three (ap (λ ws. e.range.start ∷ e.range.end ∷ e.value ∷ ws) (rows-with_room es run (omega arith)))

-- None is counted exactly where none overlaps.
none-counted : (q : Range) {rows : List Row} → NoneOverlaps q rows → length (overlapping_rows q rows) ≡ 0
none-counted q all_nil = refl
none-counted q (all_cons p a) = rw p (none-counted q a)

none-overlaps : (q : Range) (rows : List Row) → length (overlapping_rows q rows) ≡ 0 → NoneOverlaps q rows
none-overlaps q [] h = all_nil
none-overlaps q (x ∷ rows) h = go (overlaps x.range q) refl (none-overlaps q rows) h
  where
    go : (t : Bool) → overlaps x.range q ≡ t → (length (overlapping_rows q rows) ≡ 0 → NoneOverlaps q rows) →
        length (overlapping_rows q (x ∷ rows)) ≡ 0 → NoneOverlaps q (x ∷ rows)
    go true e rest h = absurd (let counted = rw e at h in omega arith)
    go false e rest h = all_cons e (rest (rw e at h))

-- what a pool answers to a request, with this lent run
abbrev brought : Served Pool Entry → List ℕ → Queried
brought s run = record { number = s.number; count = length s.hits; run = rows_into s.hits run }

-- Then what a good pool with these rows answers.
module _ {c : ℕ} {p : Pool} {rows : List Row} (agree : Agrees c p rows) where
  -- to a query of a range: "The hits are the overlapping entries"
  finds_hits : (q : Range) (run : List ℕ) → Finds q rows run (brought (names p (hits q p.tree)) run)
  finds_hits q run =
      let same : Same (names p (hits q p.tree)) (names rows (overlapping_rows q rows)) =
      rw agree.same_rows at (same-query q p) in
      record {
        accepted = refl;
        counted = same.count;
        zero_exactly = rw same.count (none-overlaps q rows, none-counted q);
        named = map row_of (hits q p.tree);
        no_other = same.named;
        written = rows-with_room (hits q p.tree) run;
      }

  -- or of one whose end may be refused
  ranged_answers : (o : Option Range) (run : List ℕ) →
      AnswersQuery o rows run (brought (with_range o p (λ q. names p (hits q p.tree))) run)
  ranged_answers none run = refl
  ranged_answers (some q) run = finds_hits q run

  -- to a request that names nothing
  hitless_answers : (request : Request) (run : List ℕ) → (serve c request p).hits ≡ [] →
      brought (serve c request p) run ≡ no_hit (account c request rows).number run
  hitless_answers request run none-hit = rw (none-hit, (agrees_answer agree request).number) refl

  -- so to each request
  served_answers : (request : Request) (run : List ℕ) →
      AnswersRequest request (account c request rows).number rows run (brought (serve c request p) run)
  unfolding serve account
  served_answers (inserting d a b v) run = hitless_answers (inserting d a b v) run (insert_hitless c d a b v p)
  served_answers (deleting d a b) run = hitless_answers (deleting d a b) run (delete_hitless c d a b p)
  served_answers (deleting_end s) run = hitless_answers (deleting_end s) run (end_hitless s p)
  served_answers clearing run = refl
  served_answers (querying d a b) run = ranged_answers (range_to d a b) run

  -- and to each record
  read_answers : (found : Reading) (run : List ℕ) →
      AnswersRecord found c rows run (queried_of (apply_read found c p run))
  read_answers unknown run = refl
  read_answers cut_short run = refl
  read_answers (whole request taken) run = served_answers request run

-- And so the entries on the words of that pool.
module _ {c : ℕ} (low : 1 ≤ c) (high : c ≤ most_slots) {p : Pool} {rows : List Row} (agree : Agrees c p rows) where
  pub query_words : (d : End) (a b : ℕ) (run : List ℕ) →
      AnswersQuery (range_to d a b) rows run (query d a b (words c p) run)
  unfolding query serve
  query_words d a b run =
      let h = agrees_holds c low high agree in
      rw (h.right, holds-held h) (ranged_answers agree (range_to d a b) run)

  pub applies_words : (bytes run : List ℕ) → Applies c bytes rows run (apply bytes (words c p) run)
  applies_words bytes run =
      record {
        answers = rw (apply_words c low high agree bytes run) (read_answers agree (reads kinds bytes) run);
        takes = apply-takes bytes (words c p) run;
      }
