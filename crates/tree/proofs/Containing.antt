-- Whether a tree in slots has a range. Assumes nothing.
use Prim.Native.Nat.{ℕ, ◌<◌}
use mathlib.Core.Bool.{Bool, true, false}
use mathlib.Core.List.{List}
use mathlib.Core.Path.{◌≡◌, refl, ap, ◌∙◌}
use Rattle.rules.specs.Range.{Range, range, same, order}
use Rattle.rules.specs.Tree.{Tree, leaf, node}
use Rattle.rules.specs.Balance.{Side, near}
use Rattle.rules.specs.Edit.{find, is_some}
use Rattle.rules.specs.Stored.{slot_word, Rooted}
use Rattle.node.specs.Node.{levels_at}
use Rattle.node.proofs.Trees.{at-node}
use Rattle.tree.proofs.Hanging.{find-way, not_none, not_node, range-read, near_rooted, falls, Turn, turns}

-- in no tree there is nothing
pub none-there : {ss : List ℕ} {k : ℕ} (key : Range) (t : Tree) → k ≡ 0 → Rooted ss k t → false ≡ is_some (find key t)
none-there key leaf h p = refl
none-there key (node e l r) h p = absurd (not_node p h)

-- the range in slot k itself
pub is_there : {ss : List ℕ} {k : ℕ} (key : Range) (t : Tree) → (k ≡ 0 → ⊥) → Rooted ss k t
    → order key (range (slot_word ss k 0) (slot_word ss k 1)) ≡ same
    → true ≡ is_some (find key t)
is_there key leaf h p o = absurd (not_none p h)
is_there key (node e l r) h p o =
    let equal : order key e.range ≡ same = rw (range-read (at-node p)) at o in
    rw equal refl

-- what is found in the child that the search turns to is what is found
pub there_in_child : {s : Side} (key : Range) {ss : List ℕ} {k a b : ℕ} {found : Bool} → Turn s key ss k a b
    → (t : Tree) → Rooted ss k t
    → ((u : Tree) → Rooted ss a u → found ≡ is_some (find key u))
    → found ≡ is_some (find key t)
there_in_child key w leaf p below = absurd (not_none p w.there)
there_in_child {s} key w (node e l r) p below =
    let at = at-node p in
    below (near s l r) (near_rooted s at w.near_is w.far_is) ∙ ap is_some (find-way s key e l r (turns w at))

-- the search of the child may be called
pub seeks_below : {s : Side} (key : Range) {ss : List ℕ} {k a b : ℕ} → Turn s key ss k a b → (t : Tree) → Rooted ss k t
    → (levels_at ss a < levels_at ss k) × ((u : Tree) × Rooted ss a u)
seeks_below key w leaf p = absurd (not_none p w.there)
seeks_below {s} key w (node e l r) p =
    let child = near_rooted s (at-node p) w.near_is w.far_is in
    (falls s p child, (near s l r, child))
