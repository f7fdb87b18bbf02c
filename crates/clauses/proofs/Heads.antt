-- The test of the header, as facts of its words. Assumes nothing.
use Prim.Native.Nat.{ℕ, ◌/◌, ◌≤◌}
use mathlib.Core.Bool.{true}
use mathlib.Core.List.{List}
use mathlib.Core.Path.{◌≡◌}
use lib.ListN.{length, get_or}
use borrow.Author.Tests.{eqb-true, eq-eqb, leb-true, le-leb}
use Rattle.rules.specs.Limits.{most_pending, slot_words}
use Rattle.rules.proofs.Tests.{and_true, true_and}
use Rattle.node.specs.Node.{levels_at, size_at}
use Rattle.clauses.specs.Slot.{header_here}

-- the header passes its test
pub record RightHeader (ws ss : List ℕ) : Type 0 where
  pub root_at : get_or ws 0 0 ≤ length ss / slot_words
  pub zero_word : get_or ws 3 0 ≡ 0
  pub live_word : get_or ws 2 0 ≡ size_at ss (get_or ws 0 0)
  pub few : get_or ws 2 0 ≤ length ss / slot_words
  pub low : levels_at ss (get_or ws 0 0) ≤ most_pending

pub header-says : (ws ss : List ℕ) → header_here ws ss ≡ true → RightHeader ws ss
unfolding header_here
header-says ws ss h =
    let all = and_true _ _ h in
    let high = and_true _ _ all.1 in
    let count = and_true _ _ high.0 in
    let words = and_true _ _ count.0 in
    record {
      root_at = leb-true _ _ all.0;
      zero_word = eqb-true _ _ words.0;
      live_word = eqb-true _ _ words.1;
      few = leb-true _ _ count.1;
      low = leb-true _ _ high.1;
    }

pub says-header : {ws ss : List ℕ} → RightHeader ws ss → header_here ws ss ≡ true
unfolding header_here
says-header h =
    true_and (le-leb _ _ h.root_at)
    (true_and
    (true_and (true_and (eq-eqb _ _ h.zero_word) (eq-eqb _ _ h.live_word)) (le-leb _ _ h.few))
    (le-leb _ _ h.low))
