-- What is left in the header and in a freed slot, in all words of a pool.
use Rattle.std.specs.Prelude.{ℕ, ◌+◌, ◌-◌, ◌*◌, List, [], ◌∷◌, ◌≡◌, length, get_or, drop}
use Rattle.std.proofs.lemmas.List.Edits.{sets}
use Rattle.rules.specs.Limits.{header_words, slot_words}
use Rattle.rules.specs.Stored.{Freed, Kept}

-- the words with these as the words of slot s
unfoldable pub with_slot : List ℕ → ℕ → List ℕ → List ℕ
with_slot ss s vs = sets ss (slot_words * (s - 1)) vs

-- all words with these as the first three of the header
unfoldable pub with_header : List ℕ → ℕ → ℕ → ℕ → List ℕ
with_header ws root free live = sets ws 0 (root ∷ free ∷ live ∷ [])

-- "Header: root, first free slot, live count", of which the fourth word is `last`
pub record Header (ws : List ℕ) (root free live last : ℕ) : Type 0 where
  pub root_word : get_or ws 0 0 ≡ root
  pub free_word : get_or ws 1 0 ≡ free
  pub live_word : get_or ws 2 0 ≡ live
  pub last_word : get_or ws 3 0 ≡ last

-- "A removal frees the removed entry's own slot, which becomes the first free"
pub record Released (ws after : List ℕ) (top slot : ℕ) : Type 0 where
  pub long : length after ≡ length ws
  pub header : Header after top slot (get_or ws 2 0 - 1) (get_or ws 3 0)
  pub freed : Freed (drop header_words after) slot (get_or ws 1 0)
  pub kept : Kept (slot ∷ []) (drop header_words ws) (drop header_words after)

-- "An insert takes the first free slot"
pub record Claimed (ws after : List ℕ) (top next : ℕ) : Type 0 where
  pub long : length after ≡ length ws
  pub header : Header after top next (get_or ws 2 0 + 1) (get_or ws 3 0)
  pub same_slots : drop header_words after ≡ drop header_words ws
