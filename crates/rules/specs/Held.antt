-- The pool that given words hold, as a function. It needs no belief: `proofs/Held.antt` shows that it answers `some p`
-- exactly where the words hold p, and that they hold one pool at most.
use Rattle.std.specs.Prelude.{ℕ, zero, suc, ◌/◌, ◌%◌, Bool, true, false, cond, ◌&&◌, List, [], ◌∷◌, eqb, length, get_or, drop}
use Rattle.std.proofs.Math.Option.{Option, none, some}
use Rattle.rules.specs.Limits.{header_words, half}
use Rattle.rules.specs.Range.{range}
use Rattle.rules.specs.Tree.{Entry, Tree, leaf, node}
use Rattle.rules.specs.Pool.{Pool, pool, words, good, capacity, right_length}
use Rattle.rules.specs.Stored.{slot_word}

-- the entry in slot s; the slots are the words after the header
abbrev pub entry_at : List ℕ → ℕ → Entry
entry_at ss s = record { slot = s; range = range (slot_word ss s 0) (slot_word ss s 1); value = slot_word ss s 2 }

-- the tree from slot s on, n links deep at most
unfoldable pub tree_at : ℕ → List ℕ → ℕ → Tree
tree_at zero ss s = leaf
tree_at (suc n) ss s =
    elim (eqb s 0) [
      | true ↦ leaf
      | false ↦ node (entry_at ss s) (tree_at n ss (slot_word ss s 4 % half)) (tree_at n ss (slot_word ss s 4 / half))
    ]

-- the chain from slot s on, n links long at most
unfoldable pub chain_at : ℕ → List ℕ → ℕ → List ℕ
chain_at zero ss s = []
chain_at (suc n) ss s = elim (eqb s 0) [ true ↦ [] | false ↦ s ∷ chain_at n ss (slot_word ss s 4) ]

abbrev pub all_same : List ℕ → List ℕ → Bool
all_same [] [] = true
all_same [] (y ∷ ys) = false
all_same (x ∷ xs) [] = false
all_same (x ∷ xs) (y ∷ ys) = eqb x y && all_same xs ys

-- the pool that the words would hold, by their links
unfoldable pub reading : List ℕ → Pool
reading ws =
    pool (tree_at (capacity (length ws)) (drop header_words ws) (get_or ws 0 0))
    (chain_at (capacity (length ws)) (drop header_words ws) (get_or ws 1 0))

-- and whether they do
unfoldable pub held : List ℕ → Option Pool
held ws =
    cond (right_length (length ws)
    && (good (capacity (length ws)) (reading ws) && all_same ws (words (capacity (length ws)) (reading ws))))
    (some (reading ws))
    none
