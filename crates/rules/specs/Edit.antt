-- Insert and the three removals: document 01, "Tree rules".
use Rattle.std.specs.Prelude.{Bool, true, false}
use Rattle.std.proofs.Math.Option.{Option, none, some}
use Rattle.rules.specs.Range.{Range, order, choose}
use Rattle.rules.specs.Tree.{Entry, Tree, leaf, node}
use Rattle.rules.specs.Balance.{Side, left, near, far, balance, balanced_join}

-- the entry with that very range
abbrev pub find : Range → Tree → Option Entry
find k leaf = none
find k (node e l r) = choose (order k e.range) (find k l) (some e) (find k r)

-- whether an entry was found
abbrev pub is_some : Option Entry → Bool
is_some none = false
is_some (some e) = true

-- "Insert goes down by the order; an equal range keeps the old value and the new one is dropped.
-- Each ancestor is updated, then balanced."
abbrev pub insert : Entry → Tree → Tree
insert k leaf = node k leaf leaf
insert k (node e l r) =
    choose (order k.range e.range) (balance e (insert k l) r) (node e l r) (balance e l (insert k r))

-- the outermost entry on a side of a tree, or the given one where the tree is none
abbrev pub outermost : Side → Entry → Tree → Entry
outermost s k leaf = k
outermost s k (node e l r) = near s (outermost s e l) (outermost s e r)

-- what is left of a tree whose child on the side is `a`, and without its outermost entry `shorter`
abbrev pub without_end : Side → Entry → Tree → Tree → Tree → Tree
without_end s e leaf b shorter = b
without_end s e (node f l r) b shorter = balanced_join s e shorter b

-- "Delete-min and delete-max remove the first and the last in order": the outermost entry on the side is taken off.
-- "Every node above the removed position .. is updated, then balanced, lowest first."
abbrev pub shed : Side → Tree → Tree
shed s leaf = leaf
shed s (node e l r) = without_end s e (near s l r) (far s l r) (near s (shed s l) (shed s r))

-- "with no left child, the right child takes the place; else with no right child, the left does; with both, the
-- smallest entry of the right subtree is installed at the place and removed below."
abbrev pub close : Tree → Tree → Tree
close leaf r = r
close (node e a b) leaf = node e a b
close (node e a b) (node f c d) = balance (outermost left f c) (node e a b) (shed left (node f c d))

-- "Every node above the removed position, the installed entry included, is updated, then balanced, lowest first."
abbrev pub delete : Range → Tree → Tree
delete k leaf = leaf
delete k (node e l r) =
    choose (order k e.range) (balance e (delete k l) r) (close l r) (balance e l (delete k r))
