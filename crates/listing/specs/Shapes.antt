-- The lines of a whole tree: the words of a slot, what a node tells, and what is noted of it.
use Rattle.std.specs.Prelude.{◌≡◌, ℕ, ◌+◌, ◌-◌, ◌*◌, ◌/◌, ◌%◌, ◌≤◌, List, [], ◌∷◌, ◌++◌, length, slice_get, slice_index, slice_range, nat_eq, if◌then◌else◌, Option, Some, None, MatchOption}
use Rattle.rules.specs.Limits.{most_slots, header_words, slot_words, half}
use Rattle.rules.specs.Entries.{size_of}
use Rattle.lines.specs.declared.notes.Notes.{Notes}
use Rattle.lines.specs.Counting.{one_difference, with_compared, differing_words}
use Rattle.lines.specs.Noted.{with_node}

-- where the words of a slot begin
abbrev pub place : ℕ → ℕ
place slot = header_words + slot_words * (slot - 1)

-- the pool has this slot
pub record Has (pool : List ℕ) (slot : ℕ) : Type 0 where
  pub numbered : 1 ≤ slot
  pub limited : slot ≤ most_slots
  pub within : place slot + slot_words ≤ length pool

-- the words of a slot, if the pool has it
abbrev pub Found : List ℕ → ℕ → Option (List ℕ) → Type 0
Found pool slot found =
    MatchOption found (Has pool slot → ⊥)
    (λ ws. Has pool slot × (ws ≡ slice_range pool (place slot) (place slot + slot_words)))

-- 1 where there is a child in this slot
abbrev pub present : ℕ → ℕ
present slot = (if nat_eq slot 0 then 0 else 1)

-- what the words of a slot tell of its node: start, end, value, max, height, size, and which children there are
abbrev pub node_of : List ℕ → List ℕ
node_of ws =
    slice_index ws 0
    ∷ slice_index ws 1
    ∷ slice_index ws 2
    ∷ slice_index ws 3
    ∷ slice_index ws 5 % half
    ∷ slice_index ws 5 / half
    ∷ present (slice_index ws 4 % half)
    ∷ present (slice_index ws 4 / half)
    ∷ []

-- what is noted after a node is compared with its line: its children are pending, the left one is the next
abbrev pub after_node : List ℕ → List ℕ → Notes → Notes
after_node ws numbers n =
    with_node (slice_index ws 4 % half)
    (with_node (slice_index ws 4 / half)
    (record n { counts = with_compared 8 (differing_words (node_of ws) numbers) n.counts }))

-- what is noted after the size is compared: the root is pending
abbrev pub after_size : List ℕ → ℕ → Notes → Notes
after_size pool due n =
    record n { counts = with_compared 1 (differing_words ((size_of pool).told ∷ []) (due ∷ [])) n.counts }

-- what is noted before and after the line of a tree: the size is compared, and the root is pending, if the pool has a word
pub record TreeNoted (pool : List ℕ) (due : ℕ) (before after : Notes) : Type 0 where
  pub none : slice_get pool 0 ≡ None → after ≡ after_size pool due before
  pub root : (slot : ℕ) → slice_get pool 0 ≡ Some slot → after ≡ with_node slot (after_size pool due before)

-- what is noted before and after the line of a node: the latest pending one is compared. Where none is pending, or the pool
-- has no such slot, that is a difference
pub record NodeNoted (pool numbers : List ℕ) (before after : Notes) : Type 0 where
  pub none : before.pending ≡ [] → after ≡ record before { counts = one_difference before.counts }
  pub node : (front : List ℕ) (slot : ℕ) → before.pending ≡ front ++ slot ∷ [] → Has pool slot
      → after ≡ after_node (slice_range pool (place slot) (place slot + slot_words)) numbers (record before { pending = front })
  pub lost : (front : List ℕ) (slot : ℕ) → before.pending ≡ front ++ slot ∷ [] → (Has pool slot → ⊥)
      → after ≡ record before { counts = one_difference before.counts; pending = front }
