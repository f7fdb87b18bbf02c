-- A slot of which all words are stored: it has these words, and every other slot is kept. So a freed slot is free.
-- Assumes nothing.
use Prim.Native.Nat.{ℕ, suc, ◌+◌, ◌-◌, ◌*◌, ◌≤◌, ◌<◌}
use mathlib.Core.List.{List, [], ◌∷◌, ◌++◌, append_assoc}
use mathlib.Core.Path.{◌≡◌, refl, ap, ◌∙◌}
use mathlib.Core.Logic.{⊎_elim}
use native.Mathlib.Omega.{arith}
use lib.ListN.{length, get_or, take, drop, get_or-append}
use lib.Seq.{length-take-le, get_or-take, get_or-drop, get_or-append-add, sets-eq, length-sets}
use Rattle.rules.specs.Limits.{slot_words}
use Rattle.rules.specs.Tree.{leaf}
use Rattle.rules.specs.Pool.{slot_of}
use Rattle.rules.specs.Stored.{slot_word, Within, Freed, Kept}
use Rattle.rules.proofs.Tests.{lt_cases}
use Rattle.rules.proofs.Times.{times-other}
use Rattle.rules.proofs.Stored.{slot-freed}
use Rattle.node.specs.Node.{with_words}
use Rattle.node.proofs.Trees.{within-kept}
use Rattle.pool.specs.Around.{with_slot}

module _ (ss : List ℕ) (s : ℕ) (vs : List ℕ) (w : Within ss s) (six : length vs ≡ slot_words) where
  -- the words before the slot, its own, and those after it
  parted : with_slot ss s vs ≡ take (slot_words * (s - 1)) ss ++ (vs ++ drop (slot_words * s) ss)
  unfolding with_slot
  parted =
      let from_one = w.from_one in
      let inside = w.inside in
      let after : slot_words * (s - 1) + length vs ≡ slot_words * s = omega arith in
      rw (sets-eq vs ss (slot_words * (s - 1)) (omega arith), after, append_assoc)

  -- before the slot there are as many words as its number says
  begins : length (take (slot_words * (s - 1)) ss) ≡ slot_words * (s - 1)
  begins = let inside = w.inside in length-take-le (slot_words * (s - 1)) ss (omega arith)

  -- the slot has these words
  slot_stored : (i : ℕ) → i < slot_words → slot_word (with_slot ss s vs) s i ≡ get_or vs i 0
  unfolding slot_word
  slot_stored i h =
      let place : slot_words * (s - 1) + i ≡ length (take (slot_words * (s - 1)) ss) + i = rw begins refl in
      let fits : i < length vs = rw six h in
      rw (parted, place, get_or-append-add)
      (get_or-append vs (drop (slot_words * s) ss) 0 i fits)

  -- the slots before it are as they were
  before : (u i : ℕ) → 1 ≤ u → i < slot_words → u < s → slot_word (with_slot ss s vs) u i ≡ slot_word ss u i
  unfolding slot_word
  before u i from-u h lower =
      let place : slot_words * (u - 1) + i < slot_words * (s - 1) = omega arith in
      let fits : slot_words * (u - 1) + i < length (take (slot_words * (s - 1)) ss) = rw begins place in
      let rest = vs ++ drop (slot_words * s) ss in
      rw parted
      (get_or-append (take (slot_words * (s - 1)) ss) rest 0 (slot_words * (u - 1) + i) fits
      ∙ get_or-take (slot_words * (s - 1)) ss (slot_words * (u - 1) + i) 0 place)

  -- and the slots after it
  beyond : (u i : ℕ) → s < u → slot_word (with_slot ss s vs) u i ≡ slot_word ss u i
  unfolding slot_word
  beyond u i higher =
      let from_one = w.from_one in
      let far : ℕ = slot_words * (u - 1) + i - slot_words * s in
      let place : slot_words * (u - 1) + i ≡ length (take (slot_words * (s - 1)) ss) + (length vs + far) =
      omega (arith, begins) in
      let there : slot_words * s + far ≡ slot_words * (u - 1) + i = omega arith in
      let front = take (slot_words * (s - 1)) ss in
      let rest = drop (slot_words * s) ss in
      rw parted
      (ap (λ n. get_or (front ++ (vs ++ rest)) n 0) place
      ∙ get_or-append-add front (vs ++ rest) (length vs + far) 0
      ∙ get_or-append-add vs rest far 0
      ∙ get_or-drop (slot_words * s) ss far 0
      ∙ ap (λ n. get_or ss n 0) there)

  -- so every other slot is kept
  pub slot_kept : Kept (s ∷ []) ss (with_slot ss s vs)
  unfolding with_slot
  slot_kept =
      record {
        long = length-sets ss (slot_words * (s - 1)) vs;
        same = λ u i from_one small absent.
            ⊎_elim (λ lower. before u i from_one small lower.0)
            (λ higher.
            beyond u i (let other = times-other u s absent in omega (arith, higher.0)))
            (lt_cases u s);
      }

-- a slot with the words of none is free
pub freed : (ss : List ℕ) (s next : ℕ) → Within ss s → Freed (with_slot ss s (slot_of leaf next)) s next
freed ss s next w =
    slot-freed (within-kept (slot_kept ss s (slot_of leaf next) w refl) w)
    (record { reads = slot_stored ss s (slot_of leaf next) w refl })

-- three words stored in a slot, and then its other three, are all its words
pub stored-twice : (ss : List ℕ) (s a b c d e f : ℕ)
    → with_words (with_words ss s 0 a b c) s 3 d e f ≡ with_slot ss s (a ∷ b ∷ c ∷ d ∷ e ∷ f ∷ [])
unfolding with_words with_slot
stored-twice ss s a b c d e f =
    let at : ℕ = slot_words * (s - 1) in
    let none : at + 0 ≡ at = omega arith in
    let one : at + 1 ≡ suc at = omega arith in
    let two : at + 2 ≡ suc (suc at) = omega arith in
    let three : at + 3 ≡ suc (suc (suc at)) = omega arith in
    let four : at + 3 + 1 ≡ suc (suc (suc (suc at))) = omega arith in
    let five : at + 3 + 2 ≡ suc (suc (suc (suc (suc at)))) = omega arith in
    rw (none, one, two, four, five, three)
