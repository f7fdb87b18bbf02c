-- One entry more, or one less: what that does to size and max, whatever the order of the tree and whether or not it is
-- balanced. Assumes nothing.
use Prim.Native.Nat.{ℕ, suc, ◌+◌, max}
use mathlib.Core.List.{List}
use mathlib.Core.Option.{Option, none, some}
use mathlib.Core.Path.{◌≡◌, refl, sym, ap, ◌∙◌}
use native.Mathlib.Omega.{arith}
use lib.ListN.{length, length-append}
use Rattle.rules.specs.Range.{Range}
use Rattle.rules.specs.Tree.{Entry, Tree, node, size, max_end, entries}
use Rattle.rules.specs.Balance.{Side, left, right, join, balanced_join}
use Rattle.rules.specs.Edit.{find, insert, outermost, shed, close, delete}
use Rattle.rules.proofs.Ways.{Down, no_tree, at_root, to_left, to_right, down}
use Rattle.rules.proofs.Lists.{Adds, here, further, adds-at_end}
use Rattle.rules.proofs.Inorder.{entries-shed, entries-close, size-balance, max_end-balance}
use Rattle.rules.proofs.Inorder.{size-length, largest_end, largest_end-append, max-largest_end}
use Rattle.rules.proofs.Searching.{adds-size}

-- u is t with one entry more, whose end is `end`
pub record OneMore (end : ℕ) (t u : Tree) : Type 0 where
  pub size_is : size u ≡ suc (size t)
  pub max_is : max_end u ≡ max end (max_end t)

-- one more on a side is one more in the node over both
pub more-beside : {n : ℕ} (s : Side) (e : Entry) {t u : Tree} (v : Tree) → OneMore n t u → OneMore n (join s e t v) (join s e u v)
more-beside left e v h =
    let s = h.size_is in
    let m = h.max_is in
    record { size_is = omega arith; max_is = omega arith }
more-beside right e v h =
    let s = h.size_is in
    let m = h.max_is in
    record { size_is = omega arith; max_is = omega arith }

-- and balance neither adds nor takes any
balanced-more : {n : ℕ} (s : Side) (e : Entry) {t : Tree} (u v : Tree) → OneMore n t (join s e u v)
    → OneMore n t (balanced_join s e u v)
balanced-more left e u v h =
    record { size_is = size-balance e u v ∙ h.size_is; max_is = max_end-balance e u v ∙ h.max_is }
balanced-more right e u v h =
    record { size_is = size-balance e v u ∙ h.size_is; max_is = max_end-balance e v u ∙ h.max_is }

balanced-less : {n : ℕ} (s : Side) (e : Entry) {t : Tree} (u v : Tree) → OneMore n (join s e u v) t
    → OneMore n (balanced_join s e u v) t
balanced-less {n} left e u v h =
    record { size_is = h.size_is ∙ ap suc (sym (size-balance e u v)); max_is = h.max_is ∙ ap (max n) (sym (max_end-balance e u v)) }
balanced-less {n} right e u v h =
    record { size_is = h.size_is ∙ ap suc (sym (size-balance e v u)); max_is = h.max_is ∙ ap (max n) (sym (max_end-balance e v u)) }

-- what is found is not none
pub found_not_none : {o : Option Entry} {x : Entry} → o ≡ some x → o ≡ none → ⊥
found_not_none p q = let z : ◌≡◌ {A = ℕ} 0 1 = cc in omega arith

-- and is one thing
pub found-one : {o : Option Entry} {x y : Entry} → o ≡ some x → o ≡ some y → x ≡ y
found-one p q = cc

-- an insert of a new range adds its entry
insert_along : (x : Entry) {t : Tree} → Down x.range t → find x.range t ≡ none
    → OneMore x.range.end t (insert x t)
insert_along x no_tree h = record { size_is = refl; max_is = omega arith }
insert_along x (at_root {e} p) h = absurd (found_not_none {x = e} (rw p refl) h)
insert_along x (to_left {e} {l} {r} p d) h =
    rw p (balanced-more left e (insert x l) r (more-beside left e r (insert_along x d (rw p at h))))
insert_along x (to_right {e} {l} {r} p d) h =
    rw p (balanced-more right e (insert x r) l (more-beside right e l (insert_along x d (rw p at h))))

pub insert-more : (x : Entry) (t : Tree) → find x.range t ≡ none → OneMore x.range.end t (insert x t)
insert-more x t h = insert_along x (down x.range t) h

-- the largest end of a list with one more
adds_largest : {x : Entry} {xs ys : List Entry} → Adds x xs ys → largest_end ys ≡ max x.range.end (largest_end xs)
adds_largest here = refl
adds_largest (further a) = let deeper = adds_largest a in omega arith

-- so trees whose entries are one more
adds-more : {x : Entry} (t u : Tree) → Adds x (entries t) (entries u) → OneMore x.range.end t u
adds-more {x} t u a =
    record {
      size_is = adds-size t u a;
      max_is = max-largest_end u ∙ adds_largest a ∙ ap (max x.range.end) (sym (max-largest_end t));
    }

-- "Delete-min and delete-max remove the first and the last in order": one less, the outermost
pub shed-less : (s : Side) (e : Entry) (l r : Tree)
    → OneMore (outermost s e (node e l r)).range.end (shed s (node e l r)) (node e l r)
shed-less s e l r =
    let x = outermost s e (node e l r) in
    let rest = shed s (node e l r) in
    adds-more {x = x} rest (node e l r) (rw (entries-shed s e l r) (adds-at_end s x (entries rest)))

-- where an entry goes and its children close up, it is the one less
pub close-less : (e : Entry) (l r : Tree) → OneMore e.range.end (close l r) (node e l r)
close-less e l r =
    let sized : size (close l r) ≡ size l + size r =
    size-length (close l r) ∙ ap length (entries-close l r) ∙ length-append (entries l) (entries r)
    ∙ rw (← size-length l, ← size-length r) refl
    in
    let most : max_end (close l r) ≡ max (max_end l) (max_end r) =
    max-largest_end (close l r) ∙ ap largest_end (entries-close l r) ∙ largest_end-append (entries l) (entries r)
    ∙ rw (← max-largest_end l, ← max-largest_end r) refl
    in
    record { size_is = omega arith; max_is = omega arith }

-- a delete takes out what is found
delete_along : (k : Range) {t : Tree} {x : Entry} → Down k t → find k t ≡ some x → OneMore x.range.end (delete k t) t
delete_along k {x = x} no_tree h = absurd (found_not_none {x = x} h refl)
delete_along k {x = x} (at_root {e} {l} {r} p) h =
    let one : e ≡ x = found-one (rw p refl) h in
    rw p (rw (← one) (close-less e l r))
delete_along k (to_left {e} {l} {r} p d) h =
    rw p (balanced-less left e (delete k l) r (more-beside left e r (delete_along k d (rw p at h))))
delete_along k (to_right {e} {l} {r} p d) h =
    rw p (balanced-less right e (delete k r) l (more-beside right e l (delete_along k d (rw p at h))))

pub delete-less : (k : Range) (t : Tree) {x : Entry} → find k t ≡ some x → OneMore x.range.end (delete k t) t
delete-less k t h = delete_along k (down k t) h
