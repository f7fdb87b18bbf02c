-- Free chains: what a write to other slots keeps of them, and the chain that is made from its end by freeing each slot
-- in front of it. Assumes nothing.
use Prim.Native.Nat.{ℕ, zero, suc, ◌-◌, ◌/◌, ◌≤◌, ◌<◌}
use mathlib.Core.List.{List}
use mathlib.Core.Logic.{⊎_elim}
use mathlib.Core.Path.{◌≡◌, refl, ◌∙◌}
use native.Mathlib.Omega.{arith}
use lib.ListN.{length}
use Rattle.rules.specs.Limits.{slot_words}
use Rattle.rules.specs.Tree.{leaf}
use Rattle.rules.specs.Pool.{times, first, slot_of, count_up}
use Rattle.rules.specs.Stored.{Within, Freed, Chained, ends, goes_on, Kept}
use Rattle.rules.proofs.Tests.{eq_cases}
use Rattle.rules.proofs.Times.{times-front, times-cons, times-apart}
use Rattle.node.proofs.Trees.{within-kept}
use Rattle.pool.specs.Around.{with_slot}
use Rattle.pool.proofs.Freed.{freed, slot_kept}

-- a free slot that was not written to is free as before
pub freed-kept : {xs ss after : List ℕ} {s next : ℕ} → Kept xs ss after → times s xs ≡ 0 → Freed ss s next
    → Freed after s next
freed-kept {s = s} p absent f =
    let from_one = f.at.from_one in
    record {
      at = within-kept p f.at;
      start_word = p.same s 0 from_one (omega arith) absent ∙ f.start_word;
      end_word = p.same s 1 from_one (omega arith) absent ∙ f.end_word;
      value_word = p.same s 2 from_one (omega arith) absent ∙ f.value_word;
      max_word = p.same s 3 from_one (omega arith) absent ∙ f.max_word;
      links_word = p.same s 4 from_one (omega arith) absent ∙ f.links_word;
      shape_word = p.same s 5 from_one (omega arith) absent ∙ f.shape_word;
    }

-- and so is a chain none of whose slots was
pub chained-kept : {xs ss after free : List ℕ} → Kept xs ss after
    → ((s : ℕ) → 1 ≤ times s free → times s xs ≡ 0) → Chained ss free → Chained after free
chained-kept p apart ends = ends
chained-kept {xs} p apart (goes_on {s = s} {xs = free} f rest) =
    goes_on (freed-kept p (apart s (omega (arith, times-front s free))) f)
    (chained-kept p (λ u h. apart u (omega (arith, times-cons u s free))) rest)

-- of numbers that are counted up none is below the first
count_up-from : (n a s : ℕ) → 1 ≤ times s (count_up n a) → a ≤ s
count_up-from zero a s h = absurd (omega arith)
count_up-from (suc n) a s h =
    ⊎_elim (λ y. omega (arith, y.0))
    (λ d.
    let rest = times-cons s a (count_up n (suc a)) in
    omega (arith, count_up-from n (suc a) s (omega (arith, times-apart s a d.0))))
    (eq_cases s a)

-- the slots after s are chained in their order, as many as there are, and the first of them is `next`
pub record Linked (entry ss : List ℕ) (next s : ℕ) : Type 0 where
  pub long : length ss ≡ length entry
  pub low : s ≤ length entry / slot_words
  pub next_is : next ≡ first (count_up (length entry / slot_words - s) (suc s))
  pub chained : Chained ss (count_up (length entry / slot_words - s) (suc s))

-- at first they are none
pub linked-none : (ss : List ℕ) → Linked ss ss 0 (length ss / slot_words)
linked-none ss =
    let none : length ss / slot_words - length ss / slot_words ≡ 0 = omega arith in
    record { long = refl; low = omega arith; next_is = rw none refl; chained = rw none ends }

-- the next slot to be freed is there
pub linked-within : {entry ss : List ℕ} {next s : ℕ} → Linked entry ss next s → 0 < s → Within ss s
linked-within l h = record { from_one = h; inside = omega arith }

-- and comes in front of them
pub linked-more : {entry ss : List ℕ} {next s : ℕ} → Linked entry ss next s → 0 < s
    → Linked entry (with_slot ss s (slot_of leaf next)) s (s - 1)
linked-more {entry} {ss} {next} {s} l h =
    let w = linked-within l h in
    let c : ℕ = length entry / slot_words in
    let low = l.low in
    let kept = slot_kept ss s (slot_of leaf next) w refl in
    let more : c - (s - 1) ≡ suc (c - s) = omega arith in
    let from : suc (s - 1) ≡ s = omega arith in
    record {
      long = kept.long ∙ l.long;
      low = omega arith;
      next_is = rw (more, from) refl;
      chained =
          rw (more, from)
          (goes_on {s = s} {xs = count_up (c - s) (suc s)} (rw (← l.next_is) (freed ss s next w))
          (chained-kept kept
          (λ u n. times-apart u s (λ e. let far = count_up-from (c - s) (suc s) u n in omega arith))
          l.chained));
    }

-- in the end they are all
pub linked-all : {entry ss : List ℕ} {next s : ℕ} → Linked entry ss next s → s ≤ 0
    → Chained ss (count_up (length entry / slot_words) 1)
linked-all {entry} {s = s} l h =
    let all : length entry / slot_words - s ≡ length entry / slot_words = omega arith in
    let from : suc s ≡ 1 = omega arith in
    rw (all, from) at l.chained
