-- What an edit of a child is given and leaves where the node above it is settled: in the words of the slots.
use Rattle.std.specs.Prelude.{ℕ, suc, ◌+◌, ◌*◌, ◌%◌, ◌/◌, ◌≤◌, ◌<◌, max, cond, List, ◌≡◌, eqb}
use Rattle.rules.specs.Limits.{half}
use Rattle.rules.specs.Tree.{Entry, Tree, levels, size, max_end}
use Rattle.rules.specs.Balance.{Side, near, far, join}
use Rattle.rules.specs.Stored.{slot_word, Left}
use Rattle.node.specs.Node.{max_at, Hung}
use Rattle.settle.specs.declared.Settled.{Settled}
use Rattle.settle.specs.declared.Standing.{Standing}
use Rattle.settle.specs.declared.Standing.TheVariants.{Level, Moved, TooHigh, TooLow}

-- the max of slot k, over children l and r, when an entry with that end has gone: the old one, unless it was that end
abbrev pub max_without : List ℕ → ℕ → ℕ → ℕ → ℕ → ℕ
max_without ss k l r end =
    cond (eqb (slot_word ss k 3) end) (max (slot_word ss k 1) (max (max_at ss l) (max_at ss r))) (slot_word ss k 3)

-- 1 for two numbers that are different, and 0 else
abbrev pub differs : ℕ → ℕ → ℕ
differs n m = cond (eqb n m) 0 1

-- an answer's root is the low half of its word, and the high half is 1 where the number of levels is another one
abbrev pub root_of : Settled → ℕ
root_of r = r.word % half

abbrev pub moved_of : Settled → ℕ
moved_of r = r.word / half

-- the answer with a root and a mark, and those with the marks 0 and 1
abbrev pub marked : ℕ → ℕ → Settled
marked root mark = record { word = root + half * mark }

abbrev pub still : ℕ → Settled
still root = record { word = root }

abbrev pub moved : ℕ → Settled
moved root = record { word = root + half * 1 }

-- The tree t is left in the place of one that had n levels. The answer has its root, and whether it has another number of
-- levels.
pub record Settles (r : Settled) (ss after : List ℕ) (n : ℕ) (t : Tree) : Type 0 where
  pub left : Left ss after (root_of r) t
  pub moved_is : moved_of r ≡ differs n (levels t)

-- The entry e in slot k was stored over t on the side and v on the other, which differed by one level at most. On the side
-- u is now in the slot a.
pub record Over (s : Side) (ss : List ℕ) (k a : ℕ) (e : Entry) (t u v : Tree) : Type 0 where
  pub hung : Hung ss k a (far s (slot_word ss k 4 % half) (slot_word ss k 4 / half)) e u v
  pub max_was : slot_word ss k 3 ≡ max_end (join s e t v)
  pub shape_was : slot_word ss k 5 ≡ max (levels t) (levels v) + half * suc (size t + size v)
  pub low : levels t ≤ suc (levels v)
  pub high : levels v ≤ suc (levels t)

-- how the node then stands, by the numbers of levels of t, u and v
pub data Stands (t u v : ℕ) : Standing → Type 0 where
  level : u ≤ suc v → v ≤ suc u → max t v ≡ max u v → Stands t u v Level
  moved_too : u ≤ suc v → v ≤ suc u → (max t v ≡ max u v → ⊥) → Stands t u v Moved
  too_high : suc v < u → Stands t u v TooHigh
  too_low : suc u < v → Stands t u v TooLow

-- The node stays on top of u and v, which differ by one level at most. These are then its links, and by so many levels it is
-- higher or lower than it was.
pub record Stays (s : Side) (ss : List ℕ) (k a links by : ℕ) (t u v : Tree) : Type 0 where
  pub links_is : links ≡ near s a (far s (slot_word ss k 4 % half) (slot_word ss k 4 / half)) + half * far s a (far s (slot_word ss k 4 % half) (slot_word ss k 4 / half))
  pub low : levels u ≤ suc (levels v)
  pub high : levels v ≤ suc (levels u)
  pub by_is : by ≡ differs (max (levels t) (levels v)) (max (levels u) (levels v))

-- and u is t with one more entry, which has that end, and with one more level at most
pub record Gaining (s : Side) (ss : List ℕ) (k a end : ℕ) (e : Entry) (t u v : Tree) : Type 0 where
  pub over : Over s ss k a e t u v
  pub size_is : size u ≡ suc (size t)
  pub max_is : max_end u ≡ max end (max_end t)
  pub least : levels t ≤ levels u
  pub most : levels u ≤ suc (levels t)

-- and u is t with one entry less, which had that end, and with one level less at most
pub record Losing (s : Side) (ss : List ℕ) (k a end : ℕ) (e : Entry) (t u v : Tree) : Type 0 where
  pub over : Over s ss k a e t u v
  pub size_is : size t ≡ suc (size u)
  pub max_is : max_end t ≡ max end (max_end u)
  pub least : levels t ≤ suc (levels u)
  pub most : levels u ≤ levels t
