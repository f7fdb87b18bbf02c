-- An insert and the removals name nothing. Assumes nothing.
use Prim.Native.Nat.{ℕ}
use mathlib.Core.List.{List, [], ◌∷◌}
use mathlib.Core.Option.{Option, none, some}
use mathlib.Core.Path.{◌≡◌, refl}
use Rattle.rules.specs.Range.{Range, End, range_to}
use Rattle.rules.specs.Tree.{Entry, Tree, leaf, node}
use Rattle.rules.specs.Balance.{Side}
use Rattle.rules.specs.Edit.{find}
use Rattle.rules.specs.Pool.{Pool}
use Rattle.rules.specs.Request.{Served, inserting, deleting, serve, insert_into, delete_from, delete_end_from, with_range}

-- an answer without hits, for each range or without one
ranged_hitless : (o : Option Range) (p : Pool) (answer : Range → Served Pool Entry) → ((k : Range) → (answer k).hits ≡ [])
    → (with_range o p answer).hits ≡ []
ranged_hitless none p answer each = refl
ranged_hitless (some k) p answer each = each k

pub insert_hitless : (c : ℕ) (d : End) (a b v : ℕ) (p : Pool) → (serve c (inserting d a b v) p).hits ≡ []
unfolding serve
insert_hitless c d a b v p =
    ranged_hitless (range_to d a b) p (λ k. insert_into (find k p.tree) p.free k v p)
    (λ k. go (find k p.tree) p.free k)
  where
    go : (o : Option Entry) (free : List ℕ) (k : Range) → (insert_into o free k v p).hits ≡ []
    go (some e) free k = refl
    go none [] k = refl
    go none (s ∷ free) k = refl

pub delete_hitless : (c : ℕ) (d : End) (a b : ℕ) (p : Pool) → (serve c (deleting d a b) p).hits ≡ []
unfolding serve
delete_hitless c d a b p =
    ranged_hitless (range_to d a b) p (λ k. delete_from (find k p.tree) k p) (λ k. go (find k p.tree) k)
  where
    go : (o : Option Entry) (k : Range) → (delete_from o k p).hits ≡ []
    go none k = refl
    go (some e) k = refl

pub end_hitless : (s : Side) (p : Pool) → (delete_end_from s p.tree p).hits ≡ []
end_hitless s p = go p.tree
  where
    go : (t : Tree) → (delete_end_from s t p).hits ≡ []
    go leaf = refl
    go (node e l r) = refl
