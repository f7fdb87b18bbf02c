-- The rows of a tree, as the history has them: each edit of a tree in strict order does to its rows what the history's
-- own rules do. Assumes nothing.
use mathlib.Core.Bool.{true, false}
use mathlib.Core.List.{List, [], ◌∷◌, ◌++◌, map}
use mathlib.Core.Path.{◌≡◌, refl, sym, ◌∙◌, ap}
use lib.ListN.{length, length-map}
use Rattle.rules.specs.Range.{Range, same, order}
use Rattle.rules.specs.Tree.{Entry, Tree, node, size, entries}
use Rattle.rules.specs.Balance.{Side, left, right}
use Rattle.rules.specs.Edit.{find, is_some, insert, outermost, shed, delete}
use Rattle.rules.specs.Pool.{ascending}
use Rattle.rules.specs.Request.{changed}
use Rattle.rules.specs.History.{Row, holds, added, removed, all_but_last, remove_end}
use Rattle.rules.proofs.Order.{same-equal}
use Rattle.rules.proofs.Ways.{Along, run_out, in_front, upon, past, along}
use Rattle.rules.proofs.Lists.{All, all_nil, all_cons, Over, over_under, Ascending, ascending_cons}
use Rattle.rules.proofs.Lists.{ascending→Ascending, at_end}
use Rattle.rules.proofs.Places.{put_in, cut_out, look_up}
use Rattle.rules.proofs.Inorder.{entries-shed, size-length}
use Rattle.rules.proofs.Searching.{find_look_up, entries_insert, entries_delete}

-- the row of an entry: its range and value, without its slot
abbrev pub row_of : Entry → Row
row_of e = record { range = e.range; value = e.value }

-- and the rows of a tree, in order
abbrev pub rows_of : Tree → List Row
rows_of t = map row_of (entries t)

-- as many rows as the tree's size
pub length-rows : (t : Tree) → length (rows_of t) ≡ size t
length-rows t = length-map (entries t) row_of ∙ sym (size-length t)

-- put in: one row more, at its place
pub rows-put_in : (k : Entry) {es : List Entry} → Along k.range es →
    map row_of (put_in k es) ≡ added (row_of k) (map row_of es)
rows-put_in k run_out = refl
rows-put_in k (in_front p) = rw p
rows-put_in k (upon p) = rw p
rows-put_in k (past {x = x} p w) = rw p (ap (row_of x ∷◌) (rows-put_in k w))

-- a range before all of a list is none of its rows'
removed-over : (k : Range) {es : List Entry} → All (Over k) es → removed k (map row_of es) ≡ map row_of es
removed-over k all_nil = refl
removed-over k (all_cons {x = x} p a) = rw p (ap (row_of x ∷◌) (removed-over k a))

holds-over : (k : Range) {es : List Entry} → All (Over k) es → holds k (map row_of es) ≡ false
holds-over k all_nil = refl
holds-over k (all_cons p a) = rw p (holds-over k a)

-- what comes after an entry comes after its very range
over-same : (k : Range) (e : Entry) {es : List Entry} → order k e.range ≡ same → All (Over e.range) es →
    All (Over k) es
over-same k e h a = rw (same-equal k e.range h) a

-- cut out: the rows but those with that range
pub rows-cut_out : (k : Range) {es : List Entry} → Along k es → Ascending es →
    map row_of (cut_out k es) ≡ removed k (map row_of es)
rows-cut_out k run_out a = refl
rows-cut_out k (in_front {x = x} p) (ascending_cons a b) =
    rw p (ap (row_of x ∷◌) (sym (removed-over k (over_under k x p a))))
rows-cut_out k (upon {x = x} p) (ascending_cons a b) = rw p (sym (removed-over k (over-same k x p a)))
rows-cut_out k (past {x = x} p w) (ascending_cons a b) = rw p (ap (row_of x ∷◌) (rows-cut_out k w b))

-- a row is held exactly where an entry is found
pub holds-look_up : (k : Range) {es : List Entry} → Along k es → Ascending es →
    holds k (map row_of es) ≡ is_some (look_up k es)
holds-look_up k run_out a = refl
holds-look_up k (in_front {x = x} p) (ascending_cons a b) = rw p (holds-over k (over_under k x p a))
holds-look_up k (upon p) a = rw p
holds-look_up k (past p w) (ascending_cons a b) = rw p (holds-look_up k w b)

-- the rows without an end
all_but_last-end : (y x : Entry) (xs : List Entry) →
    all_but_last (row_of y) (map row_of (xs ++ x ∷ [])) ≡ row_of y ∷ map row_of xs
all_but_last-end y x [] = refl
all_but_last-end y x (z ∷ xs) = ap (row_of y ∷◌) (all_but_last-end z x xs)

remove_end-rows : (s : Side) (x : Entry) (xs : List Entry) →
    remove_end s (map row_of (at_end s x xs)) ≡ changed (map row_of xs)
remove_end-rows left x xs = refl
remove_end-rows right x [] = refl
remove_end-rows right x (y ∷ xs) = ap changed (all_but_last-end y x xs)

-- delete-min and delete-max of a tree: the history's removal of an end
pub rows-shed : (s : Side) (e : Entry) (l r : Tree) →
    remove_end s (rows_of (node e l r)) ≡ changed (rows_of (shed s (node e l r)))
rows-shed s e l r =
    ap (λ es. remove_end s (map row_of es)) (entries-shed s e l r)
    ∙ remove_end-rows s (outermost s e (node e l r)) (entries (shed s (node e l r)))

-- Below, the tree's entries are in strict order.
module _ (k : Range) (t : Tree) (h : ascending (entries t) ≡ true) where
  -- a row is held exactly where an entry is found
  pub holds_rows : holds k (rows_of t) ≡ is_some (find k t)
  holds_rows =
      rw (find_look_up k t h) (holds-look_up k (along k (entries t)) (ascending→Ascending (entries t) h))

  -- delete: the rows but those with that range
  pub rows_delete : rows_of (delete k t) ≡ removed k (rows_of t)
  rows_delete = rw (entries_delete k t h) (rows-cut_out k (along k (entries t)) (ascending→Ascending (entries t) h))

-- insert: one row more, at its place
pub rows-insert : (k : Entry) (t : Tree) → ascending (entries t) ≡ true →
    rows_of (insert k t) ≡ added (row_of k) (rows_of t)
rows-insert k t h = rw (entries_insert k t h) (rows-put_in k (along k.range (entries t)))
