-- What a sound pool answers keeps it sound: each request of a good pool leaves a good pool, and every answer but 0 leaves
-- the very same pool and names nothing. Document 01, "What each entry answers". Assumes nothing.
use Prim.Native.Nat.{ℕ, ◌+◌}
use mathlib.Core.Bool.{true}
use mathlib.Core.List.{List, [], ◌∷◌}
use mathlib.Core.Option.{Option, none, some}
use mathlib.Core.Path.{◌≡◌, refl, ◌∙◌, ap}
use native.Mathlib.Omega.{arith}
use borrow.Author.Tests.{leb-true}
use Rattle.rules.specs.Range.{Range, End, range_to}
use Rattle.rules.specs.Tree.{Entry, Tree, leaf, node, entries}
use Rattle.rules.specs.Balance.{Side}
use Rattle.rules.specs.Edit.{find, insert, delete, shed, outermost}
use Rattle.rules.specs.Query.{hits}
use Rattle.rules.specs.Pool.{Pool, pool, good, fresh, slots, times, ascending, balanced}
use Rattle.rules.specs.Request.{Request, inserting, deleting, deleting_end, clearing, querying}
use Rattle.rules.specs.Request.{Served, unchanged, changed, names, is_refusal}
use Rattle.rules.specs.Request.{with_range, insert_into, delete_from, delete_end_from, serve}
use Rattle.rules.proofs.Times.{times-cons}
use Rattle.rules.proofs.Once.{claims, good-says, says-good, good-fresh}
use Rattle.rules.proofs.Searching.{times_insert, ascending_insert, times_delete, ascending_delete}
use Rattle.rules.proofs.Searching.{times_shed, ascending-shed}
use Rattle.rules.proofs.Edits.{balanced-insert, balanced-delete, balanced-shed}

module _ (c : ℕ) (p : Pool) (h : good c p ≡ true) where
  -- a tree in order and balanced and a free chain make a good pool where each number stands as often as in a good one
  good_as : (t : Tree) (free : List ℕ) → ascending (entries t) ≡ true → balanced t ≡ true →
      ((s : ℕ) → times s (slots t) + times s free ≡ claims s p) → good c (pool t free) ≡ true
  good_as t free in_order even same =
      let g = good-says c p h in
      says-good
      (record {
        in_order = in_order;
        even = even;
        once = λ s low high. same s ∙ g.once s low high;
        no_other = λ s n. g.no_other s (rw (same s) at n);
      })

  -- "An insert takes the first free slot": it stands in the tree then, and no longer in the chain
  good_insert_into : (o : Option Entry) (free : List ℕ) (k : Range) (v : ℕ) → find k p.tree ≡ o → p.free ≡ free →
      good c (insert_into o free k v p).left ≡ true
  good_insert_into (some e) free k v found chain = h
  good_insert_into none [] k v found chain = h
  good_insert_into none (x ∷ free) k v found chain =
      let e : Entry = record { slot = x; range = k; value = v } in
      let g = good-says c p h in
      good_as (insert e p.tree) free (ascending_insert e p.tree g.in_order)
      (balanced-insert e p.tree g.even)
      (λ s.
      omega (
        arith,
        times_insert e p.tree g.in_order s found,
        times-cons s x (slots p.tree),
        times-cons s x free,
        ap (times s) chain,
      ))

  -- "A removal frees the removed entry's own slot": it stands in the chain then, and no longer in the tree
  good_delete_from : (o : Option Entry) (k : Range) → find k p.tree ≡ o → good c (delete_from o k p).left ≡ true
  good_delete_from none k found = h
  good_delete_from (some e) k found =
      let g = good-says c p h in
      good_as (delete k p.tree) (e.slot ∷ p.free) (ascending_delete k p.tree g.in_order)
      (balanced-delete k p.tree g.even)
      (λ s.
      omega (
        arith,
        times_delete k p.tree g.in_order s found,
        times-cons s e.slot (slots (delete k p.tree)),
        times-cons s e.slot p.free,
      ))

  -- the same of the outermost entry's slot
  good_delete_end_from : (side : Side) (t : Tree) → p.tree ≡ t → good c (delete_end_from side t p).left ≡ true
  good_delete_end_from side leaf same-tree = h
  good_delete_end_from side (node e l r) same-tree =
      let g = good-says c p h in
      let x : ℕ = (outermost side e (node e l r)).slot in
      good_as (shed side (node e l r)) (x ∷ p.free) (ascending-shed side (node e l r) (rw same-tree at g.in_order))
      (balanced-shed side (node e l r) (rw same-tree at g.even))
      (λ s.
      omega (
        arith,
        times_shed side e l r s,
        times-cons s x (slots (shed side (node e l r))),
        times-cons s x p.free,
        ap (λ t. times s (slots t)) same-tree,
      ))

  -- an answer that leaves a good pool for each range does so for any end
  good_with_range : (o : Option Range) (answer : Range → Served Pool Entry) →
      ((k : Range) → good c (answer k).left ≡ true) → good c (with_range o p answer).left ≡ true
  good_with_range none answer each = h
  good_with_range (some k) answer each = each k

-- each request of a good pool leaves a good pool: no call makes a sound pool unsound
pub good-serve : (c : ℕ) (request : Request) (p : Pool) → good c p ≡ true → good c (serve c request p).left ≡ true
unfolding serve
good-serve c (inserting d a b v) p h =
    good_with_range c p h (range_to d a b) (λ k. insert_into (find k p.tree) p.free k v p)
    (λ k. good_insert_into c p h (find k p.tree) p.free k v refl refl)
good-serve c (deleting d a b) p h =
    good_with_range c p h (range_to d a b) (λ k. delete_from (find k p.tree) k p)
    (λ k. good_delete_from c p h (find k p.tree) k refl)
good-serve c (deleting_end side) p h = good_delete_end_from c p h side p.tree refl
good-serve c clearing p h = good-fresh c
good-serve c (querying d a b) p h =
    good_with_range c p h (range_to d a b) (λ q. names p (hits q p.tree)) (λ k. h)

-- an answer is 0, or leaves all as it was and names nothing
data Answered {S H : Type 0} (s : S) : Served S H → Type 0 where
  accepted : {answer : Served S H} → answer.number ≡ 0 → Answered s answer
  kept : {n : ℕ} → Answered s (unchanged n s)

-- so is each answer of a pool
answered_with-range : {S H : Type 0} (o : Option Range) (s : S) (answer : Range → Served S H) →
    ((k : Range) → Answered s (answer k)) → Answered s (with_range o s answer)
answered_with-range none s answer each = kept
answered_with-range (some k) s answer each = each k

answered_insert : (o : Option Entry) (free : List ℕ) (k : Range) (v : ℕ) (p : Pool) →
    Answered p (insert_into o free k v p)
answered_insert (some e) free k v p = kept
answered_insert none [] k v p = kept
answered_insert none (x ∷ free) k v p = accepted refl

answered_delete : (o : Option Entry) (k : Range) (p : Pool) → Answered p (delete_from o k p)
answered_delete none k p = kept
answered_delete (some e) k p = accepted refl

answered_end : (side : Side) (t : Tree) (p : Pool) → Answered p (delete_end_from side t p)
answered_end side leaf p = kept
answered_end side (node e l r) p = accepted refl

answered : (c : ℕ) (request : Request) (p : Pool) → Answered p (serve c request p)
unfolding serve
answered c (inserting d a b v) p =
    answered_with-range (range_to d a b) p _ (λ k. answered_insert (find k p.tree) p.free k v p)
answered c (deleting d a b) p = answered_with-range (range_to d a b) p _ (λ k. answered_delete (find k p.tree) k p)
answered c (deleting_end side) p = answered_end side p.tree p
answered c clearing p = accepted refl
answered c (querying d a b) p = answered_with-range (range_to d a b) p _ (λ q. accepted refl)

-- "nothing changed": every answer but 0, so 1 and 2 and each refusal, leaves the very same pool and names nothing
pub serve-kept : (c : ℕ) (request : Request) (p : Pool) → ((serve c request p).number ≡ 0 → ⊥) →
    serve c request p ≡ unchanged (serve c request p).number p
serve-kept c request p h = go (answered c request p) h
  where
    go : {answer : Served Pool Entry} → Answered p answer → (answer.number ≡ 0 → ⊥) →
        answer ≡ unchanged answer.number p
    go (accepted e) n = absurd (n e)
    go kept n = refl

-- "Refusals are the numbers from 10 up"
pub refusal_not_zero : (n : ℕ) → is_refusal n ≡ true → n ≡ 0 → ⊥
refusal_not_zero n h e = omega (arith, leb-true 10 n h)

-- so a refused request leaves the very same pool
pub serve-refused : (c : ℕ) (request : Request) (p : Pool) → is_refusal (serve c request p).number ≡ true →
    (serve c request p).left ≡ p
serve-refused c request p h =
    ap (λ (s : Served Pool Entry). s.left) (serve-kept c request p (refusal_not_zero (serve c request p).number h))

-- a query leaves the very same pool
pub served_query-kept : (c : ℕ) (d : End) (a b : ℕ) (p : Pool) → (serve c (querying d a b) p).left ≡ p
unfolding serve
served_query-kept c d a b p = go (range_to d a b)
  where
    go : (o : Option Range) → (with_range o p (λ q. names p (hits q p.tree))).left ≡ p
    go none = refl
    go (some q) = refl

-- "Clear leaves the words that formatting leaves", of any pool
pub clear_fresh : (c : ℕ) (p : Pool) → serve c clearing p ≡ changed (fresh c)
unfolding serve
clear_fresh c p = refl
