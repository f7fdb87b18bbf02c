-- The whole pool: words of a right length hold one exactly where the header passes its test, a tree is grown from the
-- root, and every other slot is chained from the first free one. Assumes nothing.
use Prim.Native.Nat.{ℕ, ◌+◌, ◌-◌, ◌*◌, ◌/◌, ◌≤◌}
use mathlib.Core.Bool.{Bool, true, false}
use mathlib.Core.List.{List, ◌++◌, append-nil}
use mathlib.Core.Logic.{⊎_elim}
use mathlib.Core.Path.{◌≡◌, sym, ap, ◌∙◌}
use native.Mathlib.Omega.{arith}
use lib.ListN.{length, get_or, drop, length-drop, length-append}
use Rattle.rules.specs.Limits.{header_words, slot_words}
use Rattle.rules.specs.Tree.{Tree, size, entries}
use Rattle.rules.specs.Pool.{Pool, pool, times, slots, capacity, right_length, Holds}
use Rattle.rules.proofs.Tests.{le_cases}
use Rattle.rules.proofs.Times.{times-append}
use Rattle.rules.proofs.Lengths.{roomy}
use Rattle.rules.proofs.Height.{levels-bound}
use Rattle.rules.proofs.Once.{Good, good-says, says-good, at_most_once, all_slots, size-slots}
use Rattle.rules.proofs.Stored.{holds_laid, holds-rooted, laid_holds}
use Rattle.node.proofs.Few.{inside}
use Rattle.node.proofs.Trees.{at_root}
use Rattle.clauses.specs.Slot.{header_here}
use Rattle.sound.specs.Claims.{Decides, IsSound, Room, Flags, Unclaimed, Claimed, Grown, Ready, Judged, Chain}
use Rattle.clauses.proofs.Bounds.{bound-none}
use Rattle.clauses.proofs.Heads.{RightHeader, header-says, says-header}
use Rattle.sound.proofs.Counts.{chained-inside, all_once}
use Rattle.sound.proofs.Decisions.{not_both, refuted}
use Rattle.sound.proofs.Grows.{stored-once}

module _ (ws : List ℕ) (right : right_length (length ws) ≡ true) where
  -- the words after the header are six for each slot
  slots_long : length (drop header_words ws) ≡ slot_words * capacity (length ws)
  slots_long = rw length-drop (omega (arith, (roomy (length ws) right).exact))

  pub slots_room : Room (drop header_words ws)
  slots_room = record { room = omega (arith, slots_long, (roomy (length ws) right).not_above) }

  module _ {p : Pool} (held : Holds ws p) where
    is_good : Good (capacity (length ws)) p
    is_good = good-says (capacity (length ws)) p held.is_good

    -- the tree of a held pool is grown from the root
    pub held_grown : Grown (drop header_words ws) (get_or ws 0 0) 0 0 p.tree
    held_grown =
        record {
          rooted = holds-rooted held;
          even = is_good.even;
          in_order = rw (bound-none (drop header_words ws), append-nil (entries p.tree)) is_good.in_order;
        }

    -- its header passes the test
    pub held_header : RightHeader ws (drop header_words ws)
    held_header =
        let laid = holds_laid held in
        let at = at_root (holds-rooted held) in
        let count = all_slots (capacity (length ws)) p held.is_good in
        record {
          root_at = omega (arith, at.inside);
          zero_word = laid.head.zero_word;
          live_word = laid.head.live_word ∙ sym at.size_is;
          few = omega (arith, laid.head.live_word, count, slots_long);
          low = omega (arith, at.levels_is, levels-bound p.tree is_good.even at.few);
        }

  -- no slot is claimed before the check
  module _ {ms : List ℕ} (blank : (s : ℕ) → get_or ms s 0 ≡ 0) where
    -- a held pool's tree and its chain are claimed by nothing else
    held_unclaimed : {p : Pool} → Holds ws p → Unclaimed ms (slots p.tree)
    held_unclaimed held = record { once = λ s. omega (arith, blank s, at_most_once (is_good held) s) }

    held_chain : {p : Pool} {t : Tree} {mid : List ℕ} → Holds ws p → Grown (drop header_words ws) (get_or ws 0 0) 0 0 t
        → Claimed (slots t) ms mid
        → Chain (drop header_words ws) mid (get_or ws 1 0) (length (drop header_words ws) / slot_words - get_or ws 2 0)
    held_chain {p} {t} held g claimed =
        let laid = holds_laid held in
        let whole = holds-rooted held in
        let same = stored-once slots_room.room g.rooted.stored whole.stored
        (g.rooted.rooted ∙ sym whole.rooted)
        in
        let alike : (s : ℕ) → times s (slots t) ≡ times s (slots p.tree) = λ s. ap (λ x. times s (slots x)) same in
        record {
          chain = p.free;
          chained = laid.chained;
          from = sym laid.head.free_word;
          long = omega (arith, all_slots (capacity (length ws)) p held.is_good, laid.head.live_word, slots_long);
          unclaimed =
              record {
                once = λ s. omega (arith, claimed.adds s, blank s, alike s, at_most_once (is_good held) s);
              };
        }

    -- a tree grown from the root and a chain of all other slots are a pool
    module _ {t : Tree} {mid : List ℕ} (head : RightHeader ws (drop header_words ws))
        (g : Grown (drop header_words ws) (get_or ws 0 0) 0 0 t) (claimed : Claimed (slots t) ms mid)
        (c : Chain (drop header_words ws) mid (get_or ws 1 0)
        (length (drop header_words ws) / slot_words - get_or ws 2 0)) where
      live_size : get_or ws 2 0 ≡ size t
      live_size = head.live_word ∙ (at_root g.rooted).size_is

      once_each : (s : ℕ) → times s (slots t ++ c.chain) ≤ 1
      once_each s =
          omega (arith, times-append s (slots t) c.chain, c.unclaimed.once s, claimed.adds s, blank s)

      slot_each : (s : ℕ) → 1 ≤ times s (slots t) + times s c.chain → (1 ≤ s) × (s ≤ capacity (length ws))
      slot_each s h =
          ⊎_elim (λ y. let at = (inside g.rooted.stored).slot_in s y.0 in omega (arith, at, slots_long))
          (λ n.
          let at = (chained-inside c.chained).slot_in s (omega (arith, n.0)) in
          omega (arith, at, slots_long))
          (le_cases 1 (times s (slots t)))

      pool_good : Good (capacity (length ws)) (pool t c.chain)
      pool_good =
          record {
            in_order = rw (bound-none (drop header_words ws), append-nil (entries t)) at g.in_order;
            even = g.even;
            once = λ s low high.
                sym (times-append s (slots t) c.chain)
                ∙ all_once (capacity (length ws)) s (slots t ++ c.chain) once_each
                (λ u h. slot_each u (omega (arith, times-append u (slots t) c.chain)))
                (omega (
                  arith,
                  length-append (slots t) c.chain,
                  size-slots t,
                  live_size,
                  c.long,
                  head.few,
                  slots_long,
                ))
                low
                high;
            no_other = slot_each;
          }

      pool_held : IsSound ws
      pool_held = (
        pool t c.chain,
        laid_holds right (says-good pool_good)
            (record {
              head =
                  record {
                    root_word = sym g.rooted.rooted;
                    free_word = sym c.from;
                    live_word = live_size;
                    zero_word = head.zero_word;
                  };
              stored = g.rooted.stored;
              chained = c.chained;
            }),
      )

-- a pool has its header
pub header-lent : (n : ℕ) → right_length n ≡ true → header_words ≤ n
header-lent n right = omega (arith, (roomy n right).exact)

-- The steps of the check, over the words after the header as it is lent them.
module _ (ws ss : List ℕ) (right : right_length (length ws) ≡ true) (part : ss ≡ drop header_words ws) where
  pub lent_room : Room ss
  lent_room = rw part (slots_room ws right)

  -- where the header is not right, no pool is held
  pub refused_header : header_here ws ss ≡ false → Decides (IsSound ws) false
  refused_header failed =
      refuted (λ h. not_both (says-header (held_header ws right h.1)) (rw part at failed))

  -- where it is, the root can be looked at, and as many slots are left as are not live
  pub root_ready : {ms : List ℕ} → Flags ms → header_here ws ss ≡ true → Ready ss ms (get_or ws 0 0) 0 0
  root_ready flags head =
      let h = header-says ws ss head in
      record {
        room = lent_room;
        flags = flags;
        at = omega (arith, h.root_at);
        before_at = omega arith;
        after_at = omega arith;
        low = h.low;
      }

  pub live_few : header_here ws ss ≡ true → get_or ws 2 0 ≤ length ss / slot_words
  live_few head = (header-says ws ss head).few

  -- no slot is claimed before the tree is looked at
  module _ {ms : List ℕ} (blank : (s : ℕ) → get_or ms s 0 ≡ 0) where
    -- where no tree is grown from the root, no pool is held
    pub refused_tree : {mid : List ℕ} {found : Bool} → Judged ss (get_or ws 0 0) 0 0 ms mid found → found ≡ false
        → Decides (IsSound ws) false
    refused_tree judged None-found =
        refuted
        (λ h.
        judged.refused None-found h.0.tree (rw part (held_grown ws right h.1))
        (held_unclaimed ws right blank h.1))

    -- and where one is, a pool is held exactly where all other slots are chained
    pub decided : {mid : List ℕ} {found passed : Bool} → header_here ws ss ≡ true
        → Judged ss (get_or ws 0 0) 0 0 ms mid found → found ≡ true
        → Decides (Chain ss mid (get_or ws 1 0) (length ss / slot_words - get_or ws 2 0)) passed
        → Decides (IsSound ws) passed
    decided head judged is_found chain =
        let a = judged.accepted is_found in
        let grown = rw part at a.1 in
        record {
          accepted = λ yes.
              pool_held ws right blank (header-says ws (drop header_words ws) (rw part at head)) grown a.2
              (rw part at (chain.accepted yes));
          refused = λ failed h. chain.refused failed (rw part (held_chain ws right blank h.1 grown a.2));
        }
