-- What the check asks of two slots in order, of a free slot and of the header: tests on words. What they say together is
-- shown in the proofs of `sound`; nothing here is needed to read what the check promises.
use Rattle.std.specs.Prelude.{ℕ, ◌/◌, Bool, cond, ◌&&◌, List, [], ◌∷◌, leb, eqb, length, get_or}
use Rattle.rules.specs.Limits.{most_pending, slot_words}
use Rattle.rules.specs.Tree.{Entry}
use Rattle.rules.specs.Held.{entry_at}
use Rattle.rules.specs.Stored.{slot_word}
use Rattle.node.specs.Node.{levels_at, size_at}

-- the entry in slot s as a list, none for 0
unfoldable pub bound : List ℕ → ℕ → List Entry
bound ss s = cond (eqb s 0) [] (entry_at ss s ∷ [])

-- "A free slot has zeros, except that links holds the next free slot."
unfoldable pub zeros_here : List ℕ → ℕ → Bool
zeros_here ss k =
    (((eqb (slot_word ss k 0) 0 && eqb (slot_word ss k 1) 0) && eqb (slot_word ss k 2) 0) && eqb (slot_word ss k 3) 0)
    && eqb (slot_word ss k 5) 0

-- the root is a slot or none and not too high; "the live count is the root's size; header word 3 is zero"
unfoldable pub header_here : List ℕ → List ℕ → Bool
header_here ws ss =
    leb (get_or ws 0 0) (length ss / slot_words)
    && (((eqb (get_or ws 3 0) 0 && eqb (get_or ws 2 0) (size_at ss (get_or ws 0 0)))
    && leb (get_or ws 2 0) (length ss / slot_words))
    && leb (levels_at ss (get_or ws 0 0)) most_pending)
