-- What a search, insert and the removals are given and leave, in the words of the slots.
use Rattle.std.specs.Prelude.{ℕ, ◌+◌, ◌≤◌, true, List, ◌≡◌, Option, Some, None}
use Rattle.std.proofs.Math.Option.{none, some}
use Rattle.rules.specs.Range.{Range, Order, less, same, more}
use Rattle.rules.specs.Tree.{Entry, Tree, leaf, node, levels}
use Rattle.rules.specs.Balance.{Side}
use Rattle.rules.specs.Edit.{find, insert, delete, shed, outermost}
use Rattle.rules.specs.Pool.{times, slots, balanced}
use Rattle.rules.specs.Stored.{Within, Rooted}
use Rattle.tree.specs.declared.Removed.{Removed}
use Rattle.balance.specs.declared.Side as code
use Rattle.balance.specs.declared.Side.TheVariants.{Left, Right}
use Rattle.settle.specs.declared.Settled.{Settled}
use Rattle.settle.specs.Settling.{still, Settles}

-- the order that sends a search to a side, and the one that ends it
abbrev pub way_of : Option code.Side → Order
way_of None = same
way_of (Some Left) = less
way_of (Some Right) = more

-- the balanced tree t is rooted in slot k
pub record Standing (ss : List ℕ) (k : ℕ) (t : Tree) : Type 0 where
  pub rooted : Rooted ss k t
  pub is_balanced : balanced t ≡ true

-- and `new` is a slot that is none of its own
pub record Inserting (ss : List ℕ) (k new : ℕ) (t : Tree) : Type 0 where
  pub standing : Standing ss k t
  pub within : Within ss new
  pub absent : times new (slots t) ≡ 0

-- "an equal range keeps the old value and the new one is dropped": where none is answered, the range was there and nothing
-- changed, and else the rules' tree is left
abbrev pub Inserts : Option Settled → List ℕ → List ℕ → Entry → Tree → Type 0
Inserts None ss after x t = ((old : Entry) × (find x.range t ≡ some old)) × (after ≡ ss)
Inserts (Some top) ss after x t = (find x.range t ≡ none) × Settles top ss after (levels t) (insert x t)

-- the slot of the outermost entry on a side, 0 for none
abbrev pub end_slot : Side → Tree → ℕ
end_slot s leaf = 0
end_slot s (node e l r) = (outermost s e (node e l r)).slot

-- the tree without its outermost entry on the side is left, and the slot answered is that entry's
pub record Sheds (side : Side) (r : Removed) (ss after : List ℕ) (t : Tree) : Type 0 where
  pub settles : Settles r.top ss after (levels t) (shed side t)
  pub slot_is : r.slot ≡ end_slot side t

-- two trees rooted in a and b that share no slot, and the second is balanced
pub record Pair (ss : List ℕ) (a b : ℕ) (t u : Tree) : Type 0 where
  pub left : Rooted ss a t
  pub right : Standing ss b u
  pub once : (s : ℕ) → times s (slots t) + times s (slots u) ≤ 1

-- where 0 is answered for the slot, the range was not there, nothing changed and no root is answered, and else the rules'
-- tree is left, and the slot answered is that of the entry that went
pub record Deletes (r : Removed) (ss after : List ℕ) (key : Range) (t : Tree) : Type 0 where
  pub absent : r.slot ≡ 0 → (find key t ≡ none) × (after ≡ ss) × (r.top ≡ still 0)
  pub gone : (r.slot ≡ 0 → ⊥)
      → ((e : Entry) × (find key t ≡ some e) × (e.slot ≡ r.slot)) × Settles r.top ss after (levels t) (delete key t)
