-- Slots that stand once: what the tests `within`, `each_once` and `good` say, as facts for every slot number. From them it
-- follows by counting that the entries of a good pool and its free slots are as many as its slots, and that a fresh pool
-- is good. Assumes nothing.
use Prim.Native.Nat.{ℕ, zero, suc, ◌+◌, ◌≤◌, ◌<◌, max}
use mathlib.Core.Bool.{true, ◌&&◌}
use mathlib.Core.List.{List, [], ◌∷◌, ◌++◌}
use mathlib.Core.Logic.{⊎_elim}
use mathlib.Core.Path.{◌≡◌, refl, sym, ap, ◌∙◌}
use native.Mathlib.Omega.{arith}
use lib.ListN.{length, length-append, length-map}
use borrow.Author.Tests.{eqb-true, eq-eqb, leb-true, le-leb}
use Rattle.rules.specs.Tree.{Entry, Tree, leaf, node, levels, size, entries}
use Rattle.rules.specs.Pool.{Pool, slots, times, within, each_once, good, ascending, balanced, count_up, fresh}
use Rattle.rules.proofs.Tests.{eq_cases, le_cases, and_true, true_and}
use Rattle.rules.proofs.Times.{times-one, times-apart, times-cons, times-append}

-- whatever stands in a list that passes the test is a slot number
pub within-slot : (c s : ℕ) (xs : List ℕ) → within c xs ≡ true → 1 ≤ times s xs → (1 ≤ s) × (s ≤ c)
within-slot c s [] h n = absurd (omega arith)
within-slot c s (x ∷ xs) h n =
    let both = and_true _ _ h in
    let ends = and_true _ _ both.0 in
    ⊎_elim (λ y. omega (arith, y.0, leb-true 1 x ends.0, leb-true x c ends.1))
    (λ d. within-slot c s xs both.1 (omega (arith, times-cons s x xs, times-apart s x d.0))) (eq_cases s x)

-- and a list of slot numbers passes it
pub slot-within : (c : ℕ) (xs : List ℕ) → ((s : ℕ) → 1 ≤ times s xs → (1 ≤ s) × (s ≤ c)) → within c xs ≡ true
slot-within c [] h = refl
slot-within c (x ∷ xs) h =
    let here = h x (omega (arith, times-cons x x xs, times-one x)) in
    true_and (true_and (le-leb 1 x here.0) (le-leb x c here.1))
    (slot-within c xs (λ s n. h s (omega (arith, times-cons s x xs))))

-- each slot number stands once in a list that passes the test
pub once-slot : (c s : ℕ) (xs : List ℕ) → each_once c xs ≡ true → 1 ≤ s → s ≤ c → times s xs ≡ 1
once-slot zero s xs h low high = absurd (omega arith)
once-slot (suc c) s xs h low high =
    let both = and_true _ _ h in
    ⊎_elim (λ y. rw y.0 (eqb-true _ _ both.0)) (λ d. once-slot c s xs both.1 low (omega (arith, d.0)))
    (eq_cases s (suc c))

-- and a list in which each stands once passes it
pub slot-once : (c : ℕ) (xs : List ℕ) → ((s : ℕ) → 1 ≤ s → s ≤ c → times s xs ≡ 1) → each_once c xs ≡ true
slot-once zero xs h = refl
slot-once (suc c) xs h =
    true_and (eq-eqb _ _ (h (suc c) (omega arith) (omega arith))) (slot-once c xs (λ s low high. h s low (omega arith)))

-- how often a slot number stands in a pool's tree and free chain
abbrev pub claims : ℕ → Pool → ℕ
claims s p = times s (slots p.tree) + times s p.free

-- a good pool of c slots: in strict order, balanced, each slot number once and no other number
pub record Good (c : ℕ) (p : Pool) : Type 0 where
  pub in_order : ascending (entries p.tree) ≡ true
  pub even : balanced p.tree ≡ true
  pub once : (s : ℕ) → 1 ≤ s → s ≤ c → claims s p ≡ 1
  pub no_other : (s : ℕ) → 1 ≤ claims s p → (1 ≤ s) × (s ≤ c)

-- the slots that a pool's tree and its free chain hold
abbrev claimed : Pool → List ℕ
claimed p = slots p.tree ++ p.free

claimed-times : (s : ℕ) (p : Pool) → times s (claimed p) ≡ claims s p
claimed-times s p = times-append s (slots p.tree) p.free

-- the four tests of a pool
four_tests : (c : ℕ) (p : Pool) → good c p ≡ true
    → (ascending (entries p.tree) ≡ true) × (balanced p.tree ≡ true) × (within c (claimed p) ≡ true)
    × (each_once c (claimed p) ≡ true)
unfolding good
four_tests c p h =
    let both = and_true (ascending (entries p.tree) && balanced p.tree) _ h in
    let shaped = and_true _ _ both.0 in
    let placed = and_true (within c (claimed p)) (each_once c (claimed p)) both.1 in
    (shaped.0, shaped.1, placed.0, placed.1)

-- a pool that passes the test is good
pub good-says : (c : ℕ) (p : Pool) → good c p ≡ true → Good c p
good-says c p h =
    let tests = four_tests c p h in
    record {
      in_order = tests.0;
      even = tests.1;
      once = λ s low high. sym (claimed-times s p) ∙ once-slot c s (claimed p) tests.3 low high;
      no_other = λ s n. within-slot c s (claimed p) tests.2 (rw (claimed-times s p) n);
    }

-- and a good pool passes it
pub says-good : {c : ℕ} {p : Pool} → Good c p → good c p ≡ true
unfolding good
says-good {c} {p} g =
    true_and (true_and g.in_order g.even)
    (true_and (slot-within c (claimed p) (λ s n. g.no_other s (rw (claimed-times s p) at n)))
    (slot-once c (claimed p) (λ s low high. claimed-times s p ∙ g.once s low high)))

module _ {c : ℕ} {p : Pool} (g : Good c p) where
  -- in a good pool no number stands twice
  pub at_most_once : (s : ℕ) → claims s p ≤ 1
  at_most_once s =
      ⊎_elim (λ y. let in_range = g.no_other s y.0 in omega (arith, g.once s in_range.0 in_range.1))
      (λ n. omega (arith, n.0)) (le_cases 1 (claims s p))

  -- and one that is no slot's does not stand there
  pub outside_absent : (s : ℕ) → ((1 ≤ s) × (s ≤ c) → ⊥) → claims s p ≡ 0
  outside_absent s h =
      ⊎_elim (λ y. absurd (h (g.no_other s y.0))) (λ n. omega (arith, n.0)) (le_cases 1 (claims s p))

-- how many of the numbers 1 to n a list holds, each as often as it stands there
abbrev total : ℕ → List ℕ → ℕ
total zero xs = 0
total (suc n) xs = times (suc n) xs + total n xs

-- a list holds one more of them than what follows its first, where that is one of them
total-nil : (n : ℕ) → total n [] ≡ 0
total-nil zero = refl
total-nil (suc n) = rw (total-nil n) refl

total-above : (n x : ℕ) (xs : List ℕ) → n < x → total n (x ∷ xs) ≡ total n xs
total-above zero x xs h = refl
total-above (suc n) x xs h =
    omega (arith, total-above n x xs (omega arith), times-cons (suc n) x xs, times-apart (suc n) x (λ e. omega arith))

total-cons : (n x : ℕ) (xs : List ℕ) → 1 ≤ x → x ≤ n → total n (x ∷ xs) ≡ suc (total n xs)
total-cons zero x xs low high = absurd (omega arith)
total-cons (suc n) x xs low high =
    ⊎_elim (λ y. rw y.1 (omega (arith, total-above n x xs (omega (arith, y.0)))))
    (λ d. rw d.1 (omega (arith, total-cons n x xs low (omega (arith, d.0))))) (eq_cases (suc n) x)

-- so where all of a list are among them the total is its length, and where each stands once it is c
total-within : (c : ℕ) (xs : List ℕ) → within c xs ≡ true → total c xs ≡ length xs
total-within c [] h = total-nil c
total-within c (x ∷ xs) h =
    let both = and_true _ _ h in
    let ends = and_true _ _ both.0 in
    total-cons c x xs (leb-true 1 x ends.0) (leb-true x c ends.1) ∙ ap suc (total-within c xs both.1)

total-once : (c : ℕ) (xs : List ℕ) → each_once c xs ≡ true → total c xs ≡ c
total-once zero xs h = refl
total-once (suc c) xs h =
    let both = and_true _ _ h in
    omega (arith, eqb-true (times (suc c) xs) 1 both.0, total-once c xs both.1)

-- as many numbers stand in a list of each slot once as there are slots
pub once-length : (c : ℕ) (xs : List ℕ) → within c xs ≡ true → each_once c xs ≡ true → length xs ≡ c
once-length c xs h k = sym (total-within c xs h) ∙ total-once c xs k

length-entries : (t : Tree) → length (entries t) ≡ size t
length-entries leaf = refl
length-entries (node e l r) =
    rw length-append (omega (arith, length-entries l, length-entries r))

-- "Size counts entries": a tree has as many slots as its size
pub size-slots : (t : Tree) → length (slots t) ≡ size t
size-slots t = length-map (entries t) (λ (e : Entry). e.slot) ∙ length-entries t

-- "the free chain .. holds every other slot": entries and free slots are together as many as the slots. So a pool is
-- full exactly where its free chain is none.
pub all_slots : (c : ℕ) (p : Pool) → good c p ≡ true → size p.tree + length p.free ≡ c
all_slots c p h =
    let tests = four_tests c p h in
    omega (
      arith,
      once-length c (claimed p) tests.2 tests.3,
      length-append (slots p.tree) p.free,
      size-slots p.tree,
    )

-- a tree has at least as many entries as levels
pub levels-size : (t : Tree) → levels t ≤ size t
levels-size leaf = omega arith
levels-size (node e l r) = deeper (levels-size l) (levels-size r)
  where
    deeper : {a b m n : ℕ} → a ≤ m → b ≤ n → suc (max a b) ≤ suc (m + n)
    deeper h k = omega arith

-- of the numbers that are counted up each stands there once, and no other
count_up-other : (n a s : ℕ) → 1 ≤ times s (count_up n a) → (a ≤ s) × (s < a + n)
count_up-other zero a s h = absurd (omega arith)
count_up-other (suc n) a s h =
    ⊎_elim (λ y. omega (arith, y.0))
    (λ d.
    let rest = times-cons s a (count_up n (suc a)) in
    omega (arith, count_up-other n (suc a) s (omega (arith, times-apart s a d.0))))
    (eq_cases s a)

count_up-once : (n a s : ℕ) → a ≤ s → s < a + n → times s (count_up n a) ≡ 1
count_up-once zero a s low high = absurd (omega arith)
count_up-once (suc n) a s low high =
    let rest = times-cons s a (count_up n (suc a)) in
    ⊎_elim
    (λ y.
    ⊎_elim (λ more. absurd (omega (arith, y.0, count_up-other n (suc a) s more.0)))
    (λ last. rw y.1 (omega (arith, last.0))) (le_cases 1 (times s (count_up n (suc a)))))
    (λ d. omega (arith, times-apart s a d.0, count_up-once n (suc a) s (omega (arith, d.0)) (omega arith)))
    (eq_cases s a)

-- "Formatting links 1, 2, ... c as free": a fresh pool is good
pub good-fresh : (c : ℕ) → good c (fresh c) ≡ true
good-fresh c =
    says-good
    (record {
      in_order = refl;
      even = refl;
      once = λ s low high. omega (arith, count_up-once c 1 s low (omega arith));
      no_other = λ s h. omega (arith, count_up-other c 1 s (omega arith));
    })
