-- Words by place: which word of a pool stands where, and that a run of words is that of a pool as soon as each place has
-- the word that the pool fixes for it. Assumes nothing.
use Prim.Native.Nat.{ℕ, zero, suc, ◌+◌, ◌-◌, ◌*◌, ◌/◌, ◌%◌, ◌≤◌, ◌<◌}
use mathlib.Core.List.{List, ◌∷◌}
use mathlib.Core.Path.{◌≡◌, refl, sym, ◌∙◌}
use native.Mathlib.Nat.{zero-add, add-zero, add-suc, suc-add}
use native.Mathlib.Omega.{arith}
use lib.ListN.{length, get_or, drop, length-drop, get_or-append}
use lib.Seq.{get_or-append-add, drop-cons, ext_get_or}
use Rattle.rules.specs.Limits.{header_words, slot_words}
use Rattle.rules.specs.Tree.{size, root}
use Rattle.rules.specs.Pool.{Pool, first, slot_at, slots_from, words}
use Rattle.rules.specs.Stored.{slot_word}
use Rattle.rules.proofs.Lengths.{length-slot_of, length-slots_from}

-- the words of the k-th slot of a run of slots
word_from : (n s k i : ℕ) (p : Pool) → k < n → i < slot_words
    → get_or (slots_from n s p) (slot_words * k + i) 0 ≡ get_or (slot_at (s + k) p) i 0
word_from zero s k i p h j = absurd (omega arith)
word_from (suc n) s zero i p h j =
    let fits : i < length (slot_at s p) = rw length-slot_of j in
    rw (zero-add, add-zero) (get_or-append (slot_at s p) (slots_from n (suc s) p) 0 i fits)
word_from (suc n) s (suc k) i p h j =
    let place : slot_words * suc k + i ≡ length (slot_at s p) + (slot_words * k + i) = rw length-slot_of (omega arith) in
    rw (place, get_or-append-add, add-suc, ← suc-add s k) (word_from n (suc s) k i p (omega arith) j)

-- slot s of a pool of c slots has the words of slot s
pub slot_words_of : (c s i : ℕ) (p : Pool) → 1 ≤ s → s ≤ c → i < slot_words
    → slot_word (slots_from c 1 p) s i ≡ get_or (slot_at s p) i 0
unfolding slot_word
slot_words_of c s i p low high j =
    let number : 1 + (s - 1) ≡ s = omega arith in
    rw number at (word_from c 1 (s - 1) i p (omega arith) j)

-- two runs of slots are the same where their words are
pub same_slots : (c : ℕ) (ss us : List ℕ) → length ss ≡ slot_words * c → length us ≡ slot_words * c
    → ((s i : ℕ) → 1 ≤ s → s ≤ c → i < slot_words → slot_word ss s i ≡ slot_word us s i) → ss ≡ us
unfolding slot_word
same_slots c ss us h k same = ext_get_or 0 ss us (omega arith) at_place
  where
    at_place : (j : ℕ) → j < length ss → get_or ss j 0 ≡ get_or us j 0
    at_place j b =
        let place : slot_words * (suc (j / slot_words) - 1) + j % slot_words ≡ j = omega arith in
        rw place at (same (suc (j / slot_words)) (j % slot_words) (omega arith) (omega arith) (omega arith))

-- the header and the words after it
pub split_header : (ws : List ℕ) → header_words ≤ length ws
    → ws ≡ get_or ws 0 0 ∷ get_or ws 1 0 ∷ get_or ws 2 0 ∷ get_or ws 3 0 ∷ drop header_words ws
split_header ws h =
    cc (
      drop-cons ws 0 0 (omega arith),
      drop-cons ws 1 0 (omega arith),
      drop-cons ws 2 0 (omega arith),
      drop-cons ws 3 0 (omega arith),
    )

-- "Header: root, first free slot, live count, zero."
pub record Headed (ws : List ℕ) (p : Pool) : Type 0 where
  pub root_word : get_or ws 0 0 ≡ root p.tree
  pub free_word : get_or ws 1 0 ≡ first p.free
  pub live_word : get_or ws 2 0 ≡ size p.tree
  pub zero_word : get_or ws 3 0 ≡ 0

-- the header of a pool's words is the pool's
pub headed : (c : ℕ) (p : Pool) → Headed (words c p) p
unfolding words
headed c p = record { root_word = refl; free_word = refl; live_word = refl; zero_word = refl }

-- so are the words of its slots
pub word_of : (c s i : ℕ) (p : Pool) → 1 ≤ s → s ≤ c → i < slot_words
    → slot_word (drop header_words (words c p)) s i ≡ get_or (slot_at s p) i 0
unfolding words
word_of c s i p low high j = slot_words_of c s i p low high j

-- and by their places the words of a pool are known
pub words_by_place : (c : ℕ) (p : Pool) (ws : List ℕ) → length ws ≡ header_words + slot_words * c → Headed ws p
    → ((s i : ℕ) → 1 ≤ s → s ≤ c → i < slot_words → slot_word (drop header_words ws) s i ≡ get_or (slot_at s p) i 0)
    → ws ≡ words c p
unfolding words
words_by_place c p ws h head same =
    let rest : drop header_words ws ≡ slots_from c 1 p =
    same_slots c (drop header_words ws) (slots_from c 1 p) (rw length-drop (omega arith)) (length-slots_from c 1 p)
    (λ s i low high j. same s i low high j ∙ sym (slot_words_of c s i p low high j)) in
    cc (split_header ws (omega arith))
