-- Trees: document 01, "Tree rules": entries, height, size and max.
use Rattle.std.specs.Prelude.{ℕ, zero, suc, ◌+◌, max, List, [], ◌∷◌, ◌++◌, ℤ, pos, negsuc}
use Rattle.rules.specs.Range.{Range}

-- what is kept for one stretch of track: the slot that holds it, its range and its job number
pub record Entry : Type 0 where
  pub slot : ℕ
  pub range : Range
  pub value : ℕ

pub data Tree : Type 0 where
  leaf : Tree
  node : Entry → Tree → Tree → Tree

-- the height, counted from 0 for none: one more than 01's number, which `height` gives
abbrev pub levels : Tree → ℕ
levels leaf = 0
levels (node e l r) = suc (max (levels l) (levels r))

-- "Height: none is -1, a leaf 0, else 1 plus the larger child's."
abbrev pub height_of_levels : ℕ → ℤ
height_of_levels zero = negsuc 0
height_of_levels (suc n) = pos n

abbrev pub height : Tree → ℤ
height t = height_of_levels (levels t)

-- "Size counts entries."
abbrev pub size : Tree → ℕ
size leaf = 0
size (node e l r) = suc (size l + size r)

-- "Max is the largest end in the subtree, inverted entries included."
abbrev pub max_end : Tree → ℕ
max_end leaf = 0
max_end (node e l r) = max e.range.end (max (max_end l) (max_end r))

-- the entries from the first in order to the last
abbrev pub entries : Tree → List Entry
entries leaf = []
entries (node e l r) = entries l ++ e ∷ entries r

-- the slot of the root, 0 for none: "Slots are numbered from 1; 0 means none."
abbrev pub root : Tree → ℕ
root leaf = 0
root (node e l r) = e.slot
