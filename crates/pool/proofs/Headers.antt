-- The header: what its stores leave of all words, and that the words after it may change while it stays.
-- Assumes nothing.
use Prim.Native.Nat.{ℕ, ◌+◌, ◌*◌, ◌≤◌}
use mathlib.Core.List.{List, [], ◌∷◌}
use mathlib.Core.Path.{◌≡◌, refl, ◌∙◌}
use native.Mathlib.Omega.{arith}
use lib.ListN.{length, get_or, drop, length-drop}
use lib.Seq.{length-sets}
use Rattle.rules.specs.Limits.{header_words, slot_words}
use Rattle.rules.specs.Stored.{Within}
use Rattle.pool.specs.Around.{with_header, Header}
use Rattle.pool.proofs.Parts.{with_part, front_at}

-- a slot of the pool is a slot of the words after the header
pub slot-there : (ws : List ℕ) {s : ℕ} → 1 ≤ s → header_words + slot_words * s ≤ length ws
    → Within (drop header_words ws) s
slot-there ws from_one inside = record { from_one = from_one; inside = rw length-drop (omega arith) }

-- the three words stand in the header, and its fourth is as it was
pub header-stored : (ws : List ℕ) (root free live : ℕ) → header_words ≤ length ws
    → Header (with_header ws root free live) root free live (get_or ws 3 0)
unfolding with_header
header-stored (a ∷ b ∷ c ∷ d ∷ ss) root free live h =
    record { root_word = refl; free_word = refl; live_word = refl; last_word = refl }
header-stored [] root free live h = absurd (omega arith)
header-stored (a ∷ []) root free live h = absurd (omega arith)
header-stored (a ∷ b ∷ []) root free live h = absurd (omega arith)
header-stored (a ∷ b ∷ c ∷ []) root free live h = absurd (omega arith)

-- the words after the header are as they were
pub slots_stay : (ws : List ℕ) (root free live : ℕ)
    → drop header_words (with_header ws root free live) ≡ drop header_words ws
unfolding with_header
slots_stay [] root free live = refl
slots_stay (a ∷ []) root free live = refl
slots_stay (a ∷ b ∷ []) root free live = refl
slots_stay (a ∷ b ∷ c ∷ ss) root free live = refl

-- so is their number
pub header-long : (ws : List ℕ) (root free live : ℕ) → length (with_header ws root free live) ≡ length ws
unfolding with_header
header-long ws root free live = length-sets ws 0 (root ∷ free ∷ live ∷ [])

-- the header stays where other words come after it
pub header_part : {ws : List ℕ} {root free live last : ℕ} (ss : List ℕ) → header_words ≤ length ws
    → Header ws root free live last → Header (with_part header_words ws ss) root free live last
header_part {ws} ss long h =
    record {
      root_word = front_at header_words ws ss long 0 0 (omega arith) ∙ h.root_word;
      free_word = front_at header_words ws ss long 1 0 (omega arith) ∙ h.free_word;
      live_word = front_at header_words ws ss long 2 0 (omega arith) ∙ h.live_word;
      last_word = front_at header_words ws ss long 3 0 (omega arith) ∙ h.last_word;
    }
