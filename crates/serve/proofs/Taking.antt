-- A removal from a sound pool: what its calls are given, and that the answer is the rules'. Assumes nothing.
use Prim.Native.Nat.{ℕ, suc, ◌+◌, ◌*◌, ◌≤◌}
use mathlib.Core.Bool.{true}
use mathlib.Core.List.{List, [], ◌∷◌}
use mathlib.Core.Option.{some}
use mathlib.Core.Path.{◌≡◌, refl, sym, ◌∙◌}
use native.Mathlib.Omega.{arith}
use lib.ListN.{length, get_or, take, drop, length-drop}
use Rattle.rules.specs.Limits.{header_words, slot_words}
use Rattle.rules.specs.Range.{Range, excluded, range_to}
use Rattle.rules.specs.Tree.{Entry, Tree, leaf, node, levels, size}
use Rattle.rules.specs.Balance.{Side}
use Rattle.rules.specs.Edit.{find, delete, shed}
use Rattle.rules.specs.Pool.{Pool, pool, words, capacity, good, times, slots, Holds}
use Rattle.rules.specs.Request.{deleting, deleting_end, serve, delete_from, delete_end_from}
use Rattle.rules.specs.Stored.{goes_on, Rooted, Left}
use Rattle.rules.proofs.Times.{times-one}
use Rattle.rules.proofs.Searching.{adds_delete, adds_shed, adds-size}
use Rattle.rules.proofs.Serving.{good-serve}
use Rattle.rules.proofs.Stored.{holds_laid, holds-rooted}
use Rattle.node.proofs.Few.{inside}
use Rattle.node.proofs.Trees.{stored-kept}
use Rattle.pool.specs.Around.{Released}
use Rattle.pool.proofs.Chains.{chained-kept}
use Rattle.tree.specs.Edits.{Standing, Deletes, end_slot}
use Rattle.tree.specs.declared.Removed.{Removed}
use Rattle.tree.proofs.Hanging.{not_node}
use Rattle.tree.proofs.Deleting.{times_deleted}
use Rattle.tree.proofs.Shedding.{times_ended}
use Rattle.serve.specs.Answers.{Answers}
use Rattle.request.specs.Answers.{outcome_number}
use Rattle.request.specs.declared.Outcome.TheVariants.{Done, Absent}
use Rattle.serve.proofs.Laying.{same_words, header-kept, left-words, claimed-once, in_order, holds-standing}

-- A tree was left without one slot, which is then released: the words are those of the smaller pool.
module _ {ws between after : List ℕ} {top slot : ℕ} {p : Pool} {u : Tree} (h : Holds ws p)
    (head : take header_words between ≡ take header_words ws) (smaller : Left (drop header_words ws) (drop header_words between) top u)
    (counts : (y : ℕ) → times y (slots p.tree) ≡ times y (slot ∷ []) + times y (slots u))
    (one_less : size p.tree ≡ suc (size u)) (long : length between ≡ length ws) (released : Released between after top slot)
    (is_good : good (capacity (length ws)) (pool u (slot ∷ p.free)) ≡ true) where
  -- the slots of the smaller tree and those of the chain are none of the released one
  pub released_words : after ≡ words (capacity (length ws)) (pool u (slot ∷ p.free))
  released_words =
      let laid = holds_laid h in
      let same = header-kept in
      let was_free = same 1 ws between (omega arith) head ∙ laid.head.free_word in
      let was_live = same 2 ws between (omega arith) head ∙ laid.head.live_word in
      let was_zero = same 3 ws between (omega arith) head ∙ laid.head.zero_word in
      left-words h (released.long ∙ long) is_good
      (record {
        head =
            record {
              root_word = released.header.root_word ∙ sym smaller.rooted.rooted;
              free_word = released.header.free_word;
              live_word = released.header.live_word ∙ omega arith;
              zero_word = released.header.last_word ∙ was_zero;
            };
        stored =
            stored-kept released.kept (λ y n. omega (arith, counts y, claimed-once h y)) smaller.rooted.stored;
        chained =
            goes_on (rw was_free at released.freed)
            (chained-kept released.kept (λ y n. omega (arith, counts y, claimed-once h y))
            (chained-kept smaller.kept (λ y n. omega (arith, counts y, claimed-once h y)) laid.chained));
      })

-- what a release is given: the slot is one of these words, and there is one entry to count off
module _ {ws : List ℕ} (between : List ℕ) {top slot : ℕ} {p : Pool} {u : Tree} (h : Holds ws p) (head : take header_words between ≡ take header_words ws)
    (smaller : Left (drop header_words ws) (drop header_words between) top u)
    (counts : (y : ℕ) → times y (slots p.tree) ≡ times y (slot ∷ []) + times y (slots u))
    (one_less : size p.tree ≡ suc (size u)) where
  pub releasable : (1 ≤ slot) × (header_words + slot_words * slot ≤ length between) × (1 ≤ get_or between 2 0)
  releasable =
      let laid = holds_laid h in
      let is = header-kept 2 ws between (omega arith) head ∙ laid.head.live_word in
      let long = smaller.kept.long in
      let there = (inside laid.stored).slot_in slot (omega (arith, counts slot, times-one slot)) in
      (there.0, omega (arith, length-drop header_words between, length-drop header_words ws), omega arith)

-- a delete of an absent range
pub answers-absent : {ws after : List ℕ} {p : Pool} {gone : Removed} (k : Range) → Holds ws p → take header_words after ≡ take header_words ws
    → ((t : Tree) → Standing (drop header_words ws) (get_or ws 0 0) t → Deletes gone (drop header_words ws) (drop header_words after) k t)
    → gone.slot ≡ 0
    → Answers ws after (outcome_number Absent) (delete_from (find k p.tree) k p)
answers-absent {ws} {after} {p} k h head done is =
    let told = (done p.tree (holds-standing h)).absent is in
    rw (told.0, same_words ws after head told.1) (record { number_is = refl; words_are = h.all_words })

-- what a delete that found the range left
pub record Took (p : Pool) (slot : ℕ) (u : Tree) : Type 0 where
  pub counts : (y : ℕ) → times y (slots p.tree) ≡ times y (slot ∷ []) + times y (slots u)
  pub one_less : size p.tree ≡ suc (size u)

pub took_range : {ws : List ℕ} {p : Pool} {e : Entry} {slot : ℕ} (k : Range) → Holds ws p → find k p.tree ≡ some e
    → e.slot ≡ slot
    → Took p slot (delete k p.tree)
took_range {ws} {p} {e} k h found is =
    record {
      counts = λ y. rw (← is) (times_deleted y k p.tree found);
      one_less = adds-size (delete k p.tree) p.tree (adds_delete k p.tree (in_order h) found);
    }

pub answers-gone : {ws after : List ℕ} {p : Pool} {e : Entry} {slot : ℕ} (k : Range) → Holds ws p → find k p.tree ≡ some e
    → e.slot ≡ slot
    → (good (capacity (length ws)) (pool (delete k p.tree) (slot ∷ p.free)) ≡ true
    → after ≡ words (capacity (length ws)) (pool (delete k p.tree) (slot ∷ p.free)))
    → Answers ws after (outcome_number Done) (delete_from (find k p.tree) k p)
unfolding serve range_to
answers-gone {ws} {after} {p} {e} k h found is left =
    let c = capacity (length ws) in
    let is_good = rw (found, is) at (good-serve c (deleting excluded k.start k.end) p h.is_good) in
    rw found (record { number_is = refl; words_are = rw is (left is_good) })

-- a removal of an end of no tree
pub answers_no_end : {ws : List ℕ} (s : Side) (p : Pool) → Holds ws p → get_or ws 0 0 ≡ 0
    → Answers ws ws (outcome_number Absent) (delete_end_from s p.tree p)
answers_no_end {ws} s p h empty = go p.tree (holds-rooted h)
  where
    go : (t : Tree) → Rooted (drop header_words ws) (get_or ws 0 0) t → Answers ws ws (outcome_number Absent) (delete_end_from s t p)
    go leaf r = record { number_is = refl; words_are = h.all_words }
    go (node e l r) t = absurd (not_node t empty)

-- and of one
pub took_end : {p : Pool} {slot : ℕ} (s : Side) → 1 ≤ levels p.tree → slot ≡ end_slot s p.tree
    → Took p slot (shed s p.tree)
took_end {p} s tall is = go p.tree refl tall is
  where
    go : (t : Tree) {slot : ℕ} → p.tree ≡ t → 1 ≤ levels t → slot ≡ end_slot s t → Took p slot (shed s t)
    go leaf same tall is = absurd (omega arith)
    go (node e l r) same tall is =
        record {
          counts = λ y. rw (same, is) (times_ended y s (node e l r) tall);
          one_less = rw same (adds-size (shed s (node e l r)) (node e l r) (adds_shed s e l r));
        }

pub answers-end : {ws after : List ℕ} {slot : ℕ} (s : Side) (p : Pool) → Holds ws p → 1 ≤ levels p.tree
    → slot ≡ end_slot s p.tree
    → (good (capacity (length ws)) (pool (shed s p.tree) (slot ∷ p.free)) ≡ true
    → after ≡ words (capacity (length ws)) (pool (shed s p.tree) (slot ∷ p.free)))
    → Answers ws after (outcome_number Done) (delete_end_from s p.tree p)
unfolding serve
answers-end {ws} {after} {slot} s p h tall is left = go p.tree refl tall is left
  where
    go : (t : Tree) → p.tree ≡ t → 1 ≤ levels t → slot ≡ end_slot s t
        → (good (capacity (length ws)) (pool (shed s t) (slot ∷ p.free)) ≡ true
        → after ≡ words (capacity (length ws)) (pool (shed s t) (slot ∷ p.free)))
        → Answers ws after (outcome_number Done) (delete_end_from s t p)
    go leaf same tall is left = absurd (omega arith)
    go (node e l r) same tall is left =
        let c = capacity (length ws) in
        let is_good = rw (same, ← is) at (good-serve c (deleting_end s) p h.is_good) in
        record { number_is = refl; words_are = rw (← is) (left is_good) }
