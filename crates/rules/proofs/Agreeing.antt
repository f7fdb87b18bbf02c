-- A pool and the history say the same: where the rows of a good pool are those of the history, each request is answered
-- with the same number, names the same rows, and leaves a good pool with the history's rows; and so does each feed.
-- Assumes nothing.
use Prim.Native.Nat.{ℕ, zero, suc, ◌+◌, ◌≤◌}
use mathlib.Core.Bool.{Bool, true, false, cond}
use mathlib.Core.List.Perm
use mathlib.Core.List.{List, [], ◌∷◌, map, Perm}
use mathlib.Core.Logic.{◌↔◌}
use mathlib.Core.Option.{Option, none, some}
use mathlib.Core.Path.{◌≡◌, refl, sym, ◌∙◌, ap}
use native.Mathlib.Omega.{arith}
use lib.Dec.{leb}
use lib.ListN.{length, length-map, drop}
use borrow.Author.Tests.{le-leb, lt-leb, leb-true, leb-false}
use Rattle.rules.specs.Range.{Range, End, range_to, overlaps}
use Rattle.rules.specs.Tree.{Entry, Tree, leaf, node, entries}
use Rattle.rules.specs.Balance.{Side}
use Rattle.rules.specs.Edit.{find}
use Rattle.rules.specs.Query.{hits, overlapping}
use Rattle.rules.specs.Pool.{Pool, good, ascending, fresh}
use Rattle.rules.specs.Request.{Request, inserting, deleting, deleting_end, clearing, querying}
use Rattle.rules.specs.Request.{Served, unchanged, changed, names, is_refusal}
use Rattle.rules.specs.Request.{with_range, insert_into, delete_from, delete_end_from, serve}
use Rattle.rules.specs.Record.{Reading, whole, unknown, cut_short, feed_kinds, reads}
use Rattle.rules.specs.Feed.{Feeding, feed_ends, one_more, feed_read, feed_turns}
use Rattle.rules.specs.History.{Row, holds, add, remove, remove_end, account}
use Rattle.rules.proofs.Once.{good-says, good-fresh, all_slots}
use Rattle.rules.proofs.Rows.{row_of, rows_of, length-rows, holds_rows, rows-insert, rows_delete, rows-shed}
use Rattle.rules.proofs.Hits.{overlapping_entries, hits-perm, hits-length}
use Rattle.rules.proofs.Overlap.{kept}
use Rattle.rules.proofs.Serving.{good-serve}

-- what a pool answers is what the history answers: the same number, the same rows left, the same rows named, each as
-- often, and as many
pub record Same (served : Served Pool Entry) (told : Served (List Row) Row) : Type 0 where
  pub number : served.number ≡ told.number
  pub rows : rows_of served.left.tree ≡ told.left
  pub named : Perm (map row_of served.hits) told.hits
  pub count : length served.hits ≡ length told.hits

-- "nothing changed"
same-unchanged : (n : ℕ) (p : Pool) → Same (unchanged n p) (unchanged n (rows_of p.tree))
same-unchanged n p = record { number = refl; rows = refl; named = Perm.nil; count = refl }

-- "edit made"
same-changed : (p : Pool) (rows : List Row) → rows_of p.tree ≡ rows → Same (changed p) (changed rows)
same-changed p rows h = record { number = refl; rows = h; named = Perm.nil; count = refl }

-- "12 | included end is 2^64 - 1", else the answer for the range
same-with_range : (o : Option Range) (p : Pool) (answer : Range → Served Pool Entry)
    (told : Range → Served (List Row) Row) → ((k : Range) → Same (answer k) (told k)) →
    Same (with_range o p answer) (with_range o (rows_of p.tree) told)
same-with_range none p answer told each = same-unchanged 12 p
same-with_range (some k) p answer told each = each k

-- the rows that overlap are those of the entries that do
overlapping_rows : (q : Range) (es : List Entry) →
    overlapping (λ (x : Row). x.range) q (map row_of es) ≡ map row_of (overlapping (λ (e : Entry). e.range) q es)
overlapping_rows q [] = refl
overlapping_rows q (e ∷ es) = rw (overlapping_rows q es) (go (overlaps e.range q))
  where
    go : (t : Bool) → kept t (row_of e) (map row_of (overlapping (λ (e : Entry). e.range) q es))
        ≡ map row_of (kept t e (overlapping (λ (e : Entry). e.range) q es))
    go true = refl
    go false = refl

-- "The hits are the overlapping entries": each row is named as often as it overlaps
pub same-query : (q : Range) (p : Pool) →
    Same (names p (hits q p.tree))
    (names (rows_of p.tree) (overlapping (λ (x : Row). x.range) q (rows_of p.tree)))
same-query q p =
    record {
      number = refl;
      rows = refl;
      named = rw (overlapping_rows q (entries p.tree)) (Perm.map row_of (hits-perm q p.tree));
      count =
          hits-length q p.tree
          ∙ sym (ap length (overlapping_rows q (entries p.tree)) ∙ length-map (overlapping_entries q p.tree) row_of);
    }

module _ (c : ℕ) (p : Pool) (h : good c p ≡ true) where
  -- the entries of a good pool are in strict order
  in_order : ascending (entries p.tree) ≡ true
  in_order = (good-says c p h).in_order

  -- "1 | insert: range already there", then "13 | no free slot and the range is new": no slot is free exactly where
  -- the history has as many rows as there are slots
  same_insert : (o : Option Entry) (free : List ℕ) (k : Range) (v : ℕ) → find k p.tree ≡ o → p.free ≡ free →
      Same (insert_into o free k v p) (add c (record { range = k; value = v }) (rows_of p.tree))
  same_insert (some e) free k v found chain = rw (holds_rows k p.tree in_order, found) (same-unchanged 1 p)
  same_insert none [] k v found chain =
      let full : leb c (length (rows_of p.tree)) ≡ true =
      le-leb c (length (rows_of p.tree)) (omega (arith, all_slots c p h, length-rows p.tree, ap length chain)) in
      rw (holds_rows k p.tree in_order, found, full) (same-unchanged 13 p)
  same_insert none (x ∷ free) k v found chain =
      let room : leb c (length (rows_of p.tree)) ≡ false =
      lt-leb c (length (rows_of p.tree)) (omega (arith, all_slots c p h, length-rows p.tree, ap length chain)) in
      rw (holds_rows k p.tree in_order, found, room)
      (same-changed _ _ (rows-insert (record { slot = x; range = k; value = v }) p.tree in_order))

  -- "2 | delete of an absent range"
  same_delete : (o : Option Entry) (k : Range) → find k p.tree ≡ o →
      Same (delete_from o k p) (remove k (rows_of p.tree))
  same_delete none k found = rw (holds_rows k p.tree in_order, found) (same-unchanged 2 p)
  same_delete (some e) k found =
      rw (holds_rows k p.tree in_order, found) (same-changed _ _ (rows_delete k p.tree in_order))

  -- "2 | .. delete-min or delete-max of an empty tree"
  same_delete_end : (side : Side) (t : Tree) → p.tree ≡ t →
      Same (delete_end_from side t p) (remove_end side (rows_of t))
  same_delete_end side leaf same-tree =
      record { number = refl; rows = ap rows_of same-tree; named = Perm.nil; count = refl }
  same_delete_end side (node e l r) same-tree = rw (rows-shed side e l r) (same-changed _ _ refl)

  -- each request
  pub same_serve : (request : Request) → Same (serve c request p) (account c request (rows_of p.tree))
  unfolding serve account
  same_serve (inserting d a b v) =
      same-with_range (range_to d a b) p _ _ (λ k. same_insert (find k p.tree) p.free k v refl refl)
  same_serve (deleting d a b) =
      same-with_range (range_to d a b) p _ _ (λ k. same_delete (find k p.tree) k refl)
  same_serve (deleting_end side) = same_delete_end side p.tree refl
  same_serve clearing = same-changed _ _ refl
  same_serve (querying d a b) = same-with_range (range_to d a b) p _ _ (λ q. same-query q p)

-- a good pool of c slots with these rows
pub record Agrees (c : ℕ) (p : Pool) (rows : List Row) : Type 0 where
  pub is_good : good c p ≡ true
  pub same_rows : rows_of p.tree ≡ rows

-- a fresh pool has no rows
pub agrees-fresh : (c : ℕ) → Agrees c (fresh c) []
agrees-fresh c = record { is_good = good-fresh c; same_rows = refl }

module _ {c : ℕ} {p : Pool} {rows : List Row} (a : Agrees c p rows) where
  -- it has no more rows than slots
  pub rows_fit : length rows ≤ c
  rows_fit = rw (← a.same_rows) (omega (arith, length-rows p.tree, all_slots c p a.is_good))

  -- each request is answered as the history says
  pub agrees_answer : (request : Request) → Same (serve c request p) (account c request rows)
  agrees_answer request = rw (← a.same_rows) (same_serve c p a.is_good request)

  -- and leaves a good pool with the history's rows
  pub agrees_left : (request : Request) → Agrees c (serve c request p).left (account c request rows).left
  agrees_left request =
      record { is_good = good-serve c request p a.is_good; same_rows = (agrees_answer request).rows }

-- what a feed of a pool comes to is what a feed of the history comes to
pub record SameFeed (c : ℕ) (fed : Feeding Pool) (told : Feeding (List Row)) : Type 0 where
  pub number : fed.number ≡ told.number
  pub records : fed.records ≡ told.records
  pub taken : fed.taken ≡ told.taken
  pub left : Agrees c fed.left told.left

-- where a feed ends, and where it has one record more
same_ends : (n : ℕ) {c : ℕ} {p : Pool} {rows : List Row} → Agrees c p rows →
    SameFeed c (feed_ends n p) (feed_ends n rows)
same_ends n a = record { number = refl; records = refl; taken = refl; left = a }

same_more : (n : ℕ) {c : ℕ} {fed : Feeding Pool} {told : Feeding (List Row)} → SameFeed c fed told →
    SameFeed c (one_more n fed) (one_more n told)
same_more n s =
    record { number = s.number; records = ap suc s.records; taken = ap (n +◌) s.taken; left = s.left }

-- one record, where the rest of the feed comes to the same
same_read : {c : ℕ} {p : Pool} {rows : List Row} (found : Reading) (rest : ℕ → Pool → Feeding Pool)
    (told : ℕ → List Row → Feeding (List Row)) → Agrees c p rows →
    ((n : ℕ) (q : Pool) (xs : List Row) → Agrees c q xs → SameFeed c (rest n q) (told n xs)) →
    SameFeed c (feed_read (serve c) found p rest) (feed_read (account c) found rows told)
same_read unknown rest told a each = same_ends 14 a
same_read cut_short rest told a each = same_ends 15 a
same_read {c} {p} {rows} (whole request n) rest told a each =
    rw (agrees_answer a request).number (go (is_refusal (account c request rows).number))
  where
    go : (t : Bool) →
        SameFeed c (cond t (feed_ends (account c request rows).number p) (one_more n (rest n (serve c request p).left)))
        (cond t (feed_ends (account c request rows).number rows) (one_more n (told n (account c request rows).left)))
    go true = same_ends (account c request rows).number a
    go false = same_more n (each n (serve c request p).left (account c request rows).left (agrees_left a request))

-- each feed comes to what the history says
pub agrees-feed : (n : ℕ) (bytes : List ℕ) {c : ℕ} {p : Pool} {rows : List Row} → Agrees c p rows →
    SameFeed c (feed_turns (serve c) n bytes p) (feed_turns (account c) n bytes rows)
agrees-feed zero bytes a = same_ends 0 a
agrees-feed (suc n) [] a = same_ends 0 a
agrees-feed (suc n) (b ∷ bytes) a =
    same_read (reads feed_kinds (b ∷ bytes)) _ _ a (λ taken q xs. agrees-feed n (drop taken (b ∷ bytes)))

-- the history answers 13 exactly where it does not hold the range and has as many rows as slots
full-history : (c : ℕ) (k : Row) (rows : List Row) → length rows ≤ c →
    (add c k rows).number ≡ 13 ↔ ((holds k.range rows ≡ false) × (length rows ≡ c))
full-history c k rows fit = go (holds k.range rows) (leb c (length rows)) refl refl
  where
    go : (held full : Bool) → holds k.range rows ≡ held → leb c (length rows) ≡ full →
        (add c k rows).number ≡ 13 ↔ ((holds k.range rows ≡ false) × (length rows ≡ c))
    go true full p q = rw p (λ e. absurd (omega arith), λ both. cc)
    go false true p q = rw (p, q) (λ e. (refl, omega (arith, leb-true c (length rows) q)), λ both. refl)
    go false false p q =
        rw (p, q) (λ e. absurd (omega arith), λ both. absurd (omega (arith, leb-false c (length rows) q)))

-- "13 | no free slot and the range is new": an insert whose end is not refused is answered 13 exactly where the history
-- does not hold the range and has as many rows as slots
pub full_exactly : {c : ℕ} {p : Pool} {rows : List Row} → Agrees c p rows → (d : End) (a b v : ℕ) (k : Range) →
    range_to d a b ≡ some k →
    (serve c (inserting d a b v) p).number ≡ 13 ↔ ((holds k rows ≡ false) × (length rows ≡ c))
unfolding account
full_exactly {c} {rows = rows} agree d a b v k e =
    rw ((agrees_answer agree (inserting d a b v)).number, e)
    (full-history c (record { range = k; value = v }) rows (rows_fit agree))
