-- What the check asks of a slot with its children: tests on words. What they say together is shown in the proofs of `sound`;
-- nothing here is needed to read what the check promises.
use Rattle.std.specs.Prelude.{ℕ, ◌+◌, ◌*◌, ◌%◌, ◌/◌, max, Bool, ◌&&◌, List, leb, eqb, length}
use Rattle.rules.specs.Limits.{slot_words, half}
use Rattle.rules.specs.Stored.{slot_word}
use Rattle.node.specs.Node.{levels_at, size_at, max_at}

-- "height .. exact" and "all factors from -1 to 1", over the children l and r
unfoldable pub exact_height : List ℕ → ℕ → ℕ → ℕ → Bool
exact_height ss k l r =
    (leb (levels_at ss l) (levels_at ss r + 1) && leb (levels_at ss r) (levels_at ss l + 1))
    && eqb (slot_word ss k 5 % half) (max (levels_at ss l) (levels_at ss r))

-- "size .. exact"
unfoldable pub exact_size : List ℕ → ℕ → ℕ → ℕ → Bool
exact_size ss k l r = eqb (slot_word ss k 5 / half) (size_at ss l + size_at ss r + 1)

-- both, by the words: the shape w over two children with the shapes l and r
unfoldable pub exact_shape : ℕ → ℕ → ℕ → Bool
exact_shape w l r =
    ((leb (l % half) (r % half + 1) && leb (r % half) (l % half + 1))
    && eqb (w % half) (max (l % half) (r % half) + 1))
    && eqb (w / half) (l / half + r / half + 1)

-- "max exact"
unfoldable pub exact_max : List ℕ → ℕ → ℕ → ℕ → Bool
exact_max ss k l r = eqb (slot_word ss k 3) (max (slot_word ss k 1) (max (max_at ss l) (max_at ss r)))

-- height, size and max exact over the children l and r
unfoldable pub exact_over : List ℕ → ℕ → ℕ → ℕ → Bool
exact_over ss k l r = (exact_height ss k l r && exact_size ss k l r) && exact_max ss k l r

-- the children of slot k
abbrev pub left_in : List ℕ → ℕ → ℕ
left_in ss k = slot_word ss k 4 % half

abbrev pub right_in : List ℕ → ℕ → ℕ
right_in ss k = slot_word ss k 4 / half

-- both children are slots or none, and all three are exact over them
unfoldable pub fits_here : List ℕ → ℕ → Bool
fits_here ss k =
    (leb (slot_words * left_in ss k) (length ss) && leb (slot_words * right_in ss k) (length ss))
    && exact_over ss k (left_in ss k) (right_in ss k)
