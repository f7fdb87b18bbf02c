-- Demand 3, over the very functions that the entries' contracts cite: "A pool that is formatted and then written only by
-- entry calls holds exactly what the requests put in and did not remove; an accepted query names each overlapping range
-- once and no other; "full" is answered exactly when it is true. Proved for every sequence of calls." The record `Demand`
-- states it and `demand` shows it; what stands between them is its proof. Assumes nothing.
use Prim.Native.Nat.{ℕ, suc, ◌≤◌}
use mathlib.Core.Bool.{Bool, true, false, cond}
use mathlib.Core.List.{List, [], ◌∷◌, map}
use mathlib.Core.Logic.{◌↔◌}
use mathlib.Core.Option.{some}
use mathlib.Core.Path.{◌≡◌, refl, sym, ◌∙◌}
use native.Mathlib.Omega.{arith}
use lib.Dec.{eqb}
use lib.ListN.{length}
use Rattle.rules.specs.Limits.{most_slots}
use Rattle.rules.specs.Range.{Range, Order, less, same, more, order, is_same, End, range_to}
use Rattle.rules.specs.Tree.{Entry, entries}
use Rattle.rules.specs.Pool.{Pool, words, capacity, right_length, Holds, fresh}
use Rattle.rules.specs.Request.{inserting}
use Rattle.rules.specs.Entries.{format, check, edit, size_of, is_empty, query, apply}
use Rattle.rules.specs.History.{Row, holds, Event, account_event, history}
use Rattle.rules.specs.Calls.{call, calls}
use Rattle.rules.proofs.Rows.{row_of, rows_of, length-rows}
use Rattle.rules.proofs.Held.{holds-held}
use Rattle.rules.proofs.Agreeing.{Agrees, agrees-fresh, full_exactly}
use Rattle.rules.proofs.Following.{Follows, agrees_holds, edit_words, next_call, follows_calls}
use Rattle.rules.proofs.Finding.{AnswersQuery, Applies, query_words, applies_words}
use Rattle.rules.proofs.Lengths.{roomy, length-words}
use Rattle.rules.proofs.Lists.{All, all_nil, all_cons, Over}
use Rattle.rules.proofs.Lists.{Ascending, ascending_nil, ascending_cons, ascending→Ascending}
use Rattle.rules.proofs.Once.{good-says}
use Rattle.rules.proofs.Order.{same-equal}

-- all words of a pool after a format of these words and then these calls, the latest first
abbrev pub after : List ℕ → List Event → List ℕ
after ws events = calls events (format ws).words

-- and the rows of its history: what the requests put in and did not remove, each with the value it went in with
abbrev pub rows_after : List ℕ → List Event → List Row
rows_after ws events = history (capacity (length ws)) events

-- how many of the rows have that very range
abbrev pub how_often : Range → List Row → ℕ
how_often k [] = 0
how_often k (x ∷ rows) = cond (is_same (order k x.range)) (suc (how_often k rows)) (how_often k rows)

-- What holds of a pool that was formatted in these words and from then on written only by these calls:
pub record Demand (ws : List ℕ) (events : List Event) : Type 0 where
  -- its words hold a pool, of as many words as before, that has exactly the rows of the history, with their values;
  pub pool : Pool
  pub is_held : Holds (after ws events) pool
  pub as_long : length (after ws events) ≡ length ws
  pub holds_history : rows_of pool.tree ≡ rows_after ws events
  -- no range is in the history twice;
  pub once : (k : Range) → how_often k (rows_after ws events) ≤ 1
  -- whichever call comes next, it is answered with the number that the history says;
  pub next_number : (event : Event) →
      (call event (after ws events)).number
      ≡ (account_event (capacity (length ws)) event (rows_after ws events)).number
  -- a query whose end is refused is answered 12 without hits, and any other finds the overlapping rows of the history;
  pub query_answers : (d : End) (a b : ℕ) (run : List ℕ) →
      AnswersQuery (range_to d a b) (rows_after ws events) run (query d a b (after ws events) run)
  -- so does a record that is read as such a query, and any other brings no hits; a record that is not refused takes its
  -- own bytes;
  pub apply_answers : (bytes run : List ℕ) →
      Applies (capacity (length ws)) bytes (rows_after ws events) run (apply bytes (after ws events) run)
  -- an insert whose end is not refused is answered 13 exactly where the history does not hold the range and has as
  -- many rows as the pool has slots;
  pub full_exactly : (d : End) (a b v : ℕ) (k : Range) → range_to d a b ≡ some k →
      (edit (inserting d a b v) (after ws events)).number ≡ 13
      ↔ ((holds k (rows_after ws events) ≡ false) × (length (rows_after ws events) ≡ capacity (length ws)))
  -- the check passes, and size and is_empty tell of the history's rows.
  pub check_passes : check (after ws events) ≡ 0
  pub size_told : size_of (after ws events) ≡ record { number = 0; told = length (rows_after ws events) }
  pub empty_told :
      is_empty (after ws events) ≡ record { number = 0; told = cond (eqb (length (rows_after ws events)) 0) 1 0 }

-- The rows of entries in strict order: none has the range of another.
how_often-over : (k : Range) {es : List Entry} → All (Over k) es → how_often k (map row_of es) ≡ 0
how_often-over k all_nil = refl
how_often-over k (all_cons p a) = rw p (how_often-over k a)

how_often-once : (k : Range) {es : List Entry} → Ascending es → how_often k (map row_of es) ≤ 1
how_often-once k ascending_nil = omega arith
how_often-once k (ascending_cons {e = e} {es = es} a b) = go (order k e.range) refl (how_often-once k b)
  where
    go : (o : Order) → order k e.range ≡ o → how_often k (map row_of es) ≤ 1 →
        how_often k (row_of e ∷ map row_of es) ≤ 1
    go less p rest = rw p rest
    go same p rest =
        let later : All (Over k) es = rw (same-equal k e.range p) a in
        rw (p, how_often-over k later) (omega arith)
    go more p rest = rw p rest

-- Then what the entries that only read answer on the words of a good pool with these rows.
module _ {c : ℕ} (low : 1 ≤ c) (high : c ≤ most_slots) {p : Pool} {rows : List Row} (agree : Agrees c p rows) where
  check_words : check (words c p) ≡ 0
  unfolding check
  check_words =
      let h = agrees_holds c low high agree in
      rw (h.right, holds-held h) refl

  size_words : size_of (words c p) ≡ record { number = 0; told = length rows }
  unfolding size_of
  size_words =
      let h = agrees_holds c low high agree in
      rw (h.right, holds-held h, ← agree.same_rows, length-rows p.tree) refl

  empty_words : is_empty (words c p) ≡ record { number = 0; told = cond (eqb (length rows) 0) 1 0 }
  unfolding is_empty
  empty_words =
      let h = agrees_holds c low high agree in
      rw (h.right, holds-held h, ← agree.same_rows, length-rows p.tree) refl

-- A format that is accepted was given a right length, and leaves a pool without rows.
right-format : (ws : List ℕ) → (format ws).number ≡ 0 → right_length (length ws) ≡ true
unfolding format
right-format ws = go (right_length (length ws)) refl
  where
    go : (t : Bool) → right_length (length ws) ≡ t → (format ws).number ≡ 0 → right_length (length ws) ≡ true
    go true e h = e
    go false e h = absurd (let wrong = rw e at h in omega arith)

follows_format : (ws : List ℕ) → right_length (length ws) ≡ true → Follows (capacity (length ws)) [] (format ws).words
unfolding format
follows_format ws right =
    let c : ℕ = capacity (length ws) in
    rw right (record { pool = fresh c; agrees = agrees-fresh c; all_words = refl })

-- Demand 3: whatever the words were, once a format of them is accepted, after any calls
pub demand : (ws : List ℕ) (events : List Event) → (format ws).number ≡ 0 → Demand ws events
demand ws events accepted =
    let right = right-format ws accepted in
    let c : ℕ = capacity (length ws) in
    let low = (roomy (length ws) right).some_slot in
    let high = (roomy (length ws) right).not_above in
    let f = follows_calls c low high events (format ws).words (follows_format ws right) in
    let agree = f.agrees in
    let in_order = ascending→Ascending (entries f.pool.tree) (good-says c f.pool agree.is_good).in_order in
    record {
      pool = f.pool;
      is_held = rw f.all_words (agrees_holds c low high agree);
      as_long = rw f.all_words (length-words c f.pool ∙ sym (roomy (length ws) right).exact);
      holds_history = agree.same_rows;
      once = λ k. rw agree.same_rows at (how_often-once k in_order);
      next_number = λ event. (next_call c low high (history c events) (after ws events) f event).number;
      query_answers = λ d a b run. rw f.all_words (query_words low high agree d a b run);
      apply_answers = λ bytes run. rw f.all_words (applies_words low high agree bytes run);
      full_exactly =
          λ d a b v k e.
          rw (f.all_words, edit_words c low high agree (inserting d a b v)) (full_exactly agree d a b v k e);
      check_passes = rw f.all_words (check_words low high agree);
      size_told = rw f.all_words (size_words low high agree);
      empty_told = rw f.all_words (empty_words low high agree);
    }
