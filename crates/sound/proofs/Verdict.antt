-- What a look at slot k finds, from what it found of the slot itself and of its children: a tree that is grown there,
-- all its slots now claimed, or that there is none. Assumes nothing.
use Prim.Native.Nat.{ℕ, suc, ◌+◌, ◌*◌, ◌≤◌, ◌<◌, max}
use mathlib.Core.Bool.{Bool, true, false, ◌&&◌}
use mathlib.Core.List.{List, ◌++◌}
use mathlib.Core.Path.{◌≡◌, refl, sym, ap, ◌∙◌}
use native.Mathlib.Omega.{arith}
use lib.Dec.{eqb}
use lib.ListN.{get_or, set}
use borrow.Author.Tests.{eq-eqb, ne_eqb, eqb-true}
use Rattle.rules.specs.Limits.{most_slots}
use Rattle.rules.specs.Tree.{Tree, leaf, node, entries, root}
use Rattle.rules.specs.Pool.{ascending, times, slots}
use Rattle.rules.specs.Held.{entry_at}
use Rattle.rules.specs.Stored.{slot_word, Stored, none, live}
use Rattle.rules.proofs.Tests.{and_true, true_and}
use Rattle.rules.proofs.Times.{times-one, times-node}
use Rattle.node.specs.Node.{levels_at}
use Rattle.clauses.specs.Slot.{bound}
use Rattle.fitting.specs.Fits.{left_in, right_in, fits_here}
use Rattle.sound.specs.Claims.{Flags, Unclaimed, Claimed, Ready, Judged}
use Rattle.sound.proofs.Decisions.{not_both}
use Rattle.sound.proofs.Marks.{claim_flags, claim_one, claim_none, unclaimed-before}
use Rattle.fitting.proofs.Nodes.{Fitting, fits-says, says-fits}
use Rattle.sound.proofs.Grows.{Parts, grown_node, grown_parts, stored-once}

-- slot k passed the look at itself: it was not claimed, and it fits
pub record Passed (ss ms : List ℕ) (k : ℕ) : Type 0 where
  pub free : get_or ms k 0 ≡ 0
  pub fitting : Fitting ss k

pub passes : {ss ms : List ℕ} {k : ℕ} {free fit : Bool} → free ≡ eqb (get_or ms k 0) 0 → fit ≡ fits_here ss k
    → free && fit ≡ true → Passed ss ms k
passes {ss} {ms} {k} {free} {fit} is_free is-fit both =
    let each = and_true free fit both in
    record {
      free = eqb-true (get_or ms k 0) 0 (sym is_free ∙ each.0);
      fitting = fits-says ss k (sym is-fit ∙ each.1);
    }

-- two numbers are below one more than the larger
below-max : (a b : ℕ) → (a < suc (max a b)) × (b < suc (max a b))
below-max a b = (omega arith, omega arith)

-- in no slot there is no tree, and the order is that of the entries around it
pub judged_none : {ss ms : List ℕ} {k before after : ℕ} {passed : Bool} → Ready ss ms k before after → k ≡ 0
    → passed ≡ ascending (bound ss before ++ bound ss after) → Judged ss k before after ms ms passed
judged_none {ss} {ms} {k} {before} {after} ready is_none is =
    rw is_none
    (record {
      accepted = λ yes. (
        leaf,
        record {
          rooted =
              record {
                room = ready.room.room;
                stored = none;
                distinct = record { once = λ s. omega arith };
                rooted = refl;
              };
          even = refl;
          in_order = sym is ∙ yes;
        },
        claim_none ready.flags,
      );
      refused = λ no t g u. not_both (order_of g.rooted.stored g.rooted.rooted g.in_order) (sym is ∙ no);
    })
  where
    order_of : {t : Tree} → Stored ss t → root t ≡ 0
        → ascending (bound ss before ++ (entries t ++ bound ss after)) ≡ true
        → ascending (bound ss before ++ bound ss after) ≡ true
    order_of none z h = h
    order_of (live b links p q) z h = absurd (omega (arith, b.at.from_one))

-- a slot is claimed and looked at
module _ {ss ms : List ℕ} {k before after : ℕ} (low : 1 ≤ k) (ready : Ready ss ms k before after) where
  small : k ≤ most_slots
  small = omega (arith, ready.at, ready.room.room)

  flags : Flags ms
  flags = ready.flags

  -- the slot of a grown tree none of which is claimed is not claimed
  free_root : {t : Tree} → Parts ss k before after t → Unclaimed ms (slots t) → get_or ms k 0 ≡ 0
  free_root p u = omega (arith, u.once k, p.counts k, times-one k)

  -- where the slot was claimed already or does not fit, no tree is grown there
  pub judged_here : {left : List ℕ} {free fit : Bool} → free ≡ eqb (get_or ms k 0) 0 → fit ≡ fits_here ss k
      → free && fit ≡ false → Judged ss k before after ms left false
  judged_here is_free is-fit failed =
      record {
        accepted = λ yes. absurd (not_both yes refl);
        refused = λ is t g u.
            let p = grown_parts low g in
            not_both
            (true_and (is_free ∙ eq-eqb (get_or ms k 0) 0 (free_root p u)) (is-fit ∙ says-fits p.fitting))
            failed;
      }

  -- nor where none is on the left
  pub judged_left : {mid end left : List ℕ} {l : ℕ} → mid ≡ set ms k 1 → l ≡ left_in ss k
      → Judged ss l before k mid end false → Judged ss k before after ms left false
  judged_left is_mid is-left failed =
      record {
        accepted = λ yes. absurd (not_both yes refl);
        refused = λ is t g u.
            let p = grown_parts low g in
            failed.refused refl p.left (rw is-left p.left_grown)
            (rw is_mid
            (unclaimed-before (claim_one ms k flags small (free_root p u)) (λ s. omega (arith, p.counts s)) u));
      }

  module _ (passed : Passed ss ms k) where
    fitting : Fitting ss k
    fitting = passed.fitting

    levels_here : levels_at ss k ≡ suc (max (levels_at ss (left_in ss k)) (levels_at ss (right_in ss k)))
    levels_here = rw (ne_eqb k 0 (λ z. omega arith)) (ap suc fitting.height_is)

    -- its children are lower
    left_lower : levels_at ss (left_in ss k) < levels_at ss k
    left_lower = rw levels_here (below-max (levels_at ss (left_in ss k)) (levels_at ss (right_in ss k))).0

    right_lower : levels_at ss (right_in ss k) < levels_at ss k
    right_lower = rw levels_here (below-max (levels_at ss (left_in ss k)) (levels_at ss (right_in ss k))).1

    -- so the measure falls, which is twice the levels, and one more on the left
    pub left_falls : {l t : ℕ} → l ≡ left_in ss k → 2 * levels_at ss k ≤ t → 2 * levels_at ss l + 1 < t
    left_falls is-left high = rw is-left (omega (arith, left_lower))

    pub right_falls : {r : ℕ} → r ≡ right_in ss k → levels_at ss r < levels_at ss k
    right_falls is_right = rw is_right right_lower

    -- and each can be looked at
    pub ready_left : {mid : List ℕ} {l : ℕ} → mid ≡ set ms k 1 → l ≡ left_in ss k → Ready ss mid l before k
    ready_left is_mid is-left =
        rw (is-left, is_mid)
        (record {
          room = ready.room;
          flags = claim_flags ms k flags small;
          at = fitting.left_at;
          before_at = ready.before_at;
          after_at = ready.at;
          low = omega (arith, left_lower, ready.low);
        })

    pub ready_right : {mid end : List ℕ} {l r : ℕ} → Judged ss l before k mid end true → r ≡ right_in ss k
        → Ready ss end r k after
    ready_right on_left is_right =
        rw is_right
        (record {
          room = ready.room;
          flags = (on_left.accepted refl).2.flags;
          at = fitting.right_at;
          before_at = ready.at;
          after_at = ready.after_at;
          low = omega (arith, right_lower, ready.low);
        })

    -- where a tree is grown on the left, it is as on the right
    judged_on : {end left : List ℕ} {verdict : Bool} → Judged ss (left_in ss k) before k (set ms k 1) end true
        → Judged ss (right_in ss k) k after end left verdict → Judged ss k before after ms left verdict
    judged_on {end} {left} on_left on-right =
        let one = claim_one ms k flags small passed.free in
        let a = on_left.accepted refl in
        record {
          accepted = λ yes.
              let b = on-right.accepted yes in
              let t : Tree = node (entry_at ss k) a.0 b.0 in
              let claimed : Claimed (slots t) ms left =
              record {
                flags = b.2.flags;
                adds = λ s.
                    omega
                    (arith, one.adds s, a.2.adds s, b.2.adds s, times-node s (entry_at ss k) a.0 b.0);
              }
              in (
                t,
                grown_node (record { from_one = low; inside = ready.at }) fitting a.1 b.1
                    (record { once = λ s. omega (arith, claimed.adds s, claimed.flags.flag s) }),
                claimed,
              );
          refused = λ no t g u.
              let p = grown_parts low g in
              let same =
              stored-once ready.room.room a.1.rooted.stored p.left_grown.rooted.stored
              (a.1.rooted.rooted ∙ sym p.left_grown.rooted.rooted)
              in
              let alike : (s : ℕ) → times s (slots a.0) ≡ times s (slots p.left) =
              λ s. ap (λ x. times s (slots x)) same
              in
              on-right.refused no p.right p.right_grown
              (record { once = λ s. omega (arith, u.once s, p.counts s, one.adds s, a.2.adds s, alike s) });
        }

    pub judged_right : {mid end left : List ℕ} {l r : ℕ} {verdict : Bool} → mid ≡ set ms k 1 → l ≡ left_in ss k
        → r ≡ right_in ss k → Judged ss l before k mid end true → Judged ss r k after end left verdict
        → Judged ss k before after ms left verdict
    judged_right is_mid is-left is_right on_left on-right =
        judged_on (rw (is_mid, is-left) at on_left) (rw is_right at on-right)

    -- a slot without children has none on either side, and only the order around it is left to look at
    module _ {mid : List ℕ} (childless : slot_word ss k 4 ≡ 0) (is_mid : mid ≡ set ms k 1) where
      none_left : 0 ≡ left_in ss k
      none_left = omega arith

      none_right : 0 ≡ right_in ss k
      none_right = omega arith

      below_left : {ordered : Bool} → ordered ≡ ascending (bound ss before ++ bound ss k)
          → Judged ss 0 before k mid mid ordered
      below_left is = judged_none (ready_left is_mid none_left) refl is

      pub judged_first : {left : List ℕ} → false ≡ ascending (bound ss before ++ bound ss k)
          → Judged ss k before after ms left false
      judged_first is = judged_left is_mid none_left (below_left is)

      pub judged_second : {ordered : Bool} → true ≡ ascending (bound ss before ++ bound ss k)
          → ordered ≡ ascending (bound ss k ++ bound ss after) → Judged ss k before after ms mid ordered
      judged_second first is =
          let on_left = below_left first in
          judged_right is_mid none_left none_right on_left (judged_none (ready_right on_left none_right) refl is)
