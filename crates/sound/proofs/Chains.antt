-- The free chain, slot by slot: what is chained from slot k on, none of it claimed, is slot k and what is chained from
-- its link on once k is claimed. So a walk along it finds exactly the chain. Assumes nothing.
use Prim.Native.Nat.{ℕ, suc, ◌-◌, ◌*◌, ◌/◌, ◌≤◌}
use mathlib.Core.Bool.{true, false, ◌&&◌, ◌||◌}
use mathlib.Core.List.{List, [], ◌∷◌}
use mathlib.Core.Logic.{⊎_elim}
use mathlib.Core.Path.{◌≡◌, refl, sym, ◌∙◌}
use native.Mathlib.Omega.{arith}
use lib.Dec.{eqb, ltb}
use lib.ListN.{length, get_or, set}
use borrow.Author.Tests.{eq-eqb, ne_eqb, eqb-true, eqb-false, ltb-true, ltb-false}
use Rattle.rules.specs.Limits.{slot_words}
use Rattle.rules.specs.Pool.{first}
use Rattle.rules.specs.Stored.{slot_word, Within, Freed, Chained, ends, goes_on}
use Rattle.rules.proofs.Tests.{eq_cases, and_true, true_and}
use Rattle.rules.proofs.Times.{times-one, times-cons}
use Rattle.clauses.specs.Slot.{zeros_here}
use Rattle.sound.specs.Claims.{Decides, Room, Flags, Unclaimed, Chain}
use Rattle.sound.proofs.Marks.{claim_flags, claim_one}
use Rattle.sound.proofs.Decisions.{not_both, refuted}

-- a slot of zeros is free, with its link next
zeros_freed : {ss : List ℕ} {k : ℕ} → Within ss k → zeros_here ss k ≡ true → Freed ss k (slot_word ss k 4)
unfolding zeros_here
zeros_freed {ss} {k} w h =
    let five = and_true _ _ h in
    let three = and_true _ _ five.0 in
    let two = and_true _ _ three.0 in
    let one = and_true _ _ two.0 in
    record {
      at = w;
      start_word = eqb-true _ _ one.0;
      end_word = eqb-true _ _ one.1;
      value_word = eqb-true _ _ two.1;
      max_word = eqb-true _ _ three.1;
      links_word = refl;
      shape_word = eqb-true _ _ five.1;
    }

-- and a free slot has zeros
freed_zeros : {ss : List ℕ} {k after : ℕ} → Freed ss k after → zeros_here ss k ≡ true
unfolding zeros_here
freed_zeros f =
    true_and
    (true_and
    (true_and (true_and (eq-eqb _ _ f.start_word) (eq-eqb _ _ f.end_word)) (eq-eqb _ _ f.value_word))
    (eq-eqb _ _ f.max_word))
    (eq-eqb _ _ f.shape_word)

-- no chain begins in no slot, and it is none
chain-none : {ss ms : List ℕ} → Flags ms → Chain ss ms 0 0
chain-none flags =
    record {
      chain = [];
      chained = ends;
      from = refl;
      long = refl;
      unclaimed = record { once = λ s. omega (arith, flags.flag s) };
    }

none-chain : {ss ms : List ℕ} {n : ℕ} → Chain ss ms 0 n → n ≡ 0
none-chain {ss} p = sym p.long ∙ go p.chained p.from
  where
    go : {xs : List ℕ} → Chained ss xs → first xs ≡ 0 → length xs ≡ 0
    go ends z = refl
    go (goes_on f c) z = absurd (omega (arith, f.at.from_one))

-- and a chain of none begins in no slot
chain-first : {ss ms : List ℕ} {k : ℕ} → Chain ss ms k 0 → k ≡ 0
chain-first {ss} p = sym p.from ∙ go p.chained p.long
  where
    go : {xs : List ℕ} → Chained ss xs → length xs ≡ 0 → first xs ≡ 0
    go ends z = refl
    go (goes_on f c) z = absurd (omega arith)

-- a chain from slot k on: k is a free slot that is not claimed, and the rest is chained from its link on
record Onward (ss ms : List ℕ) (k n : ℕ) : Type 0 where
  at : Within ss k
  some : 1 ≤ n
  free : eqb (get_or ms k 0) 0 && zeros_here ss k ≡ true
  rest : Chain ss (set ms k 1) (slot_word ss k 4) (n - 1)

module _ {ss ms : List ℕ} {k : ℕ} (room : Room ss) (flags : Flags ms) (low : 1 ≤ k) where
  chain_on : {n : ℕ} → slot_words * k ≤ length ss → 1 ≤ n → eqb (get_or ms k 0) 0 && zeros_here ss k ≡ true
      → Chain ss (set ms k 1) (slot_word ss k 4) (n - 1) → Chain ss ms k n
  chain_on {n} inside some free p =
      let tests = and_true (eqb (get_or ms k 0) 0) (zeros_here ss k) free in
      let one = claim_one ms k flags (omega (arith, room.room)) (eqb-true (get_or ms k 0) 0 tests.0) in
      let freed = zeros_freed (record { from_one = low; inside = inside }) tests.1 in
      record {
        chain = k ∷ p.chain;
        chained = goes_on {s = k} {xs = p.chain} (rw p.from freed) p.chained;
        from = refl;
        long = omega (arith, p.long);
        unclaimed =
            record { once = λ s. omega (arith, p.unclaimed.once s, one.adds s, times-cons s k p.chain) };
      }

  onward_from : {n : ℕ} {xs : List ℕ} → Freed ss k (first xs) → Chained ss xs → suc (length xs) ≡ n
      → Unclaimed ms (k ∷ xs) → Onward ss ms k n
  onward_from {n} {xs} f c long u =
      let free : get_or ms k 0 ≡ 0 = omega (arith, u.once k, times-cons k k xs, times-one k) in
      let one = claim_one ms k flags (omega (arith, room.room, f.at.inside)) free in
      record {
        at = f.at;
        some = omega arith;
        free = true_and (eq-eqb (get_or ms k 0) 0 free) (freed_zeros f);
        rest =
            record {
              chain = xs;
              chained = c;
              from = sym f.links_word;
              long = omega arith;
              unclaimed = record { once = λ s. omega (arith, u.once s, one.adds s, times-cons s k xs) };
            };
      }

  onward : {n : ℕ} {xs : List ℕ} → Chained ss xs → first xs ≡ k → length xs ≡ n → Unclaimed ms xs → Onward ss ms k n
  onward ends is long u = absurd (omega arith)
  onward (goes_on {s = x} {xs = xs} f c) is long u = onward_from (rw is at f) c long (rw is at u)

-- after some turns the slots from k on are chained exactly where all from the first on were
pub record Turned (ss ms : List ℕ) (from n : ℕ) (now : List ℕ) (k rest : ℕ) : Type 0 where
  pub flags : Flags now
  pub forth : Chain ss ms from n → Chain ss now k rest
  pub back : Chain ss now k rest → Chain ss ms from n

-- before the first turn
pub turn_none : {ss ms : List ℕ} {from n : ℕ} → Flags ms → Turned ss ms from n ms from n
turn_none flags = record { flags = flags; forth = λ p. p; back = λ p. p }

module _ {ss ms now : List ℕ} {from n k rest : ℕ} (room : Room ss) (turned : Turned ss ms from n now k rest) where
  -- a turn at slot k
  module _ (low : 1 ≤ k) where
    pub turn_on : slot_words * k ≤ length ss → 1 ≤ rest → eqb (get_or now k 0) 0 && zeros_here ss k ≡ true
        → Turned ss ms from n (set now k 1) (slot_word ss k 4) (rest - 1)
    turn_on inside some free =
        record {
          flags = claim_flags now k turned.flags (omega (arith, room.room));
          forth = λ p.
              let q = turned.forth p in
              (onward room turned.flags low q.chained q.from q.long q.unclaimed).rest;
          back = λ p. turned.back (chain_on room turned.flags low inside some free p);
        }

    -- the walk has come to a slot that was claimed already or is not free
    pub turn_not : eqb (get_or now k 0) 0 && zeros_here ss k ≡ false → Decides (Chain ss ms from n) false
    turn_not failed =
        refuted
        (λ p.
        let q = turned.forth p in
        not_both (onward room turned.flags low q.chained q.from q.long q.unclaimed).free failed)

  -- to the end, and then all slots have to be passed
  pub turn_end : k ≡ 0 → Decides (Chain ss ms from n) (eqb rest 0)
  turn_end is =
      record {
        accepted = λ yes. turned.back (rw (is, eqb-true rest 0 yes) (chain-none turned.flags));
        refused = λ failed p. eqb-false rest 0 failed (none-chain (rw is at (turned.forth p)));
      }

  -- to the end though there are slots left, or to a number that is no slot's
  pub turn_out : 1 ≤ rest → eqb k 0 || ltb (length ss / 6) k ≡ true → Decides (Chain ss ms from n) false
  turn_out some out =
      ⊎_elim (λ e. rw (ne_eqb rest 0 (λ z. omega (arith, some, z))) at (turn_end e.0))
      (λ d.
      refuted
      (λ p.
      let q = turned.forth p in
      let o = onward room turned.flags (omega (arith, d.0)) q.chained q.from q.long q.unclaimed in
      omega (arith, o.at.inside, ltb-true (length ss / 6) k (rw d.1 at out))))
      (eq_cases k 0)

  -- else it goes on
  pub turn_in : eqb k 0 || ltb (length ss / 6) k ≡ false → (1 ≤ k) × (slot_words * k ≤ length ss)
  turn_in h =
      ⊎_elim (λ y. absurd (not_both (rw y.1 refl) h))
      (λ d. (omega (arith, d.0), omega (arith, ltb-false (length ss / 6) k (rw d.1 at h))))
      (eq_cases k 0)

  -- or through all slots, and then no other may follow
  pub turn_through : rest ≡ 0 → Decides (Chain ss ms from n) (eqb k 0)
  turn_through is =
      record {
        accepted = λ yes. turned.back (rw (is, eqb-true k 0 yes) (chain-none turned.flags));
        refused = λ failed p. eqb-false k 0 failed (chain-first (rw is at (turned.forth p)));
      }
