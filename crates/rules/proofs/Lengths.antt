-- Right lengths of a pool: document 01, "length is 4 + 6c", "c from 1 to 4,095". A right length is that of a number of
-- slots, and each such number of slots has its length; the words of a pool have it. Assumes nothing.
use Prim.Native.Nat.{ℕ, zero, suc, ◌+◌, ◌*◌, ◌≤◌}
use mathlib.Core.Bool.{true, false}
use mathlib.Core.Path.{◌≡◌, refl}
use native.Mathlib.Omega.{arith}
use lib.ListN.{length, length-append}
use borrow.Author.Tests.{eqb-true, eq-eqb, leb-true, le-leb}
use Rattle.rules.specs.Limits.{most_slots, header_words, slot_words}
use Rattle.rules.specs.Tree.{Tree, leaf, node}
use Rattle.rules.specs.Pool.{Pool, slot_of, slots_from, words, capacity, right_length}
use Rattle.rules.proofs.Tests.{and_true, true_and}

-- what a right length n is, with the slots that it gives room for
pub record Roomy (n : ℕ) : Type 0 where
  pub exact : n ≡ header_words + slot_words * capacity n
  pub some_slot : 1 ≤ capacity n
  pub not_above : capacity n ≤ most_slots

-- a length that passes the test is that of 1 to 4,095 slots
pub roomy : (n : ℕ) → right_length n ≡ true → Roomy n
unfolding right_length
roomy n h =
    let both = and_true _ _ h in
    let ends = and_true _ _ both.1 in
    record { exact = eqb-true _ _ both.0; some_slot = leb-true _ _ ends.0; not_above = leb-true _ _ ends.1 }

-- the length of c slots gives room for just these
pub capacity_of : (c : ℕ) → capacity (header_words + slot_words * c) ≡ c
unfolding capacity
capacity_of c = omega arith

-- the lengths of 1 to 4,095 slots pass the test
pub right_length_of : (c : ℕ) → 1 ≤ c → c ≤ most_slots → right_length (header_words + slot_words * c) ≡ true
unfolding right_length
right_length_of c low high =
    rw (capacity_of c)
    (true_and (eq-eqb (header_words + slot_words * c) _ refl)
    (true_and (le-leb 1 c low) (le-leb c most_slots high)))

-- each slot has six words
pub length-slot_of : (t : Tree) (after : ℕ) → length (slot_of t after) ≡ slot_words
length-slot_of leaf after = refl
length-slot_of (node e l r) after = refl

-- so n slots have six words each
pub length-slots_from : (n s : ℕ) (p : Pool) → length (slots_from n s p) ≡ slot_words * n
length-slots_from zero s p = refl
length-slots_from (suc n) s p =
    simp (length-append, length-slot_of, length-slots_from n (suc s) p) (omega arith)

-- "4 header words, then 6 for each slot"
pub length-words : (c : ℕ) (p : Pool) → length (words c p) ≡ header_words + slot_words * c
unfolding words
length-words c p = rw (length-slots_from c 1 p) (omega arith)

-- "Lengths 4, 15 and 24,575 give 10; 10 and 24,574 are right lengths."
pub wrong_lengths : (right_length 4 ≡ false) × (right_length 15 ≡ false) × (right_length 24575 ≡ false)
unfolding right_length capacity
wrong_lengths = (refl, refl, refl)

pub right_lengths : (right_length 10 ≡ true) × (right_length 24574 ≡ true)
unfolding right_length capacity
right_lengths = (refl, refl)
