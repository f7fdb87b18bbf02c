-- What a host asks of a pool, and what a sound pool answers: document 01, "What each entry answers".
use Rattle.std.specs.Prelude.{ℕ, List, [], ◌∷◌, leb, Bool}
use Rattle.std.proofs.Math.Option.{Option, none, some}
use Rattle.rules.specs.Range.{Range, End, range_to}
use Rattle.rules.specs.Tree.{Entry, Tree, leaf, node}
use Rattle.rules.specs.Balance.{Side}
use Rattle.rules.specs.Edit.{find, insert, delete, shed, outermost}
use Rattle.rules.specs.Query.{hits}
use Rattle.rules.specs.Pool.{Pool, pool, fresh}

-- the requests: an end is excluded or included; the outermost entry on the left is the first, on the right the last
pub data Request : Type 0 where
  inserting : End → ℕ → ℕ → ℕ → Request
  deleting : End → ℕ → ℕ → Request
  deleting_end : Side → Request
  clearing : Request
  querying : End → ℕ → ℕ → Request

-- an answer: its number, what is left, and what a query names
pub record Served (S H : Type 0) : Type 0 where
  pub number : ℕ
  pub left : S
  pub hits : List H

-- "nothing changed"
abbrev pub unchanged : {S H : Type 0} → ℕ → S → Served S H
unchanged n s = record { number = n; left = s; hits = [] }

-- "edit made"
abbrev pub changed : {S H : Type 0} → S → Served S H
changed s = record { number = 0; left = s; hits = [] }

-- what a query names, of what stays as it is
abbrev pub names : {S H : Type 0} → S → List H → Served S H
names s hits = record { number = 0; left = s; hits = hits }

-- "Refusals are the numbers from 10 up; 1 and 2 are none."
abbrev pub is_refusal : ℕ → Bool
is_refusal n = leb 10 n

-- "12 | included end is 2^64 - 1"; else the answer for the range
abbrev pub with_range : {S H : Type 0} → Option Range → S → (Range → Served S H) → Served S H
with_range none s answer = unchanged 12 s
with_range (some k) s answer = answer k

-- "1 | insert: range already there", then "13 | no free slot and the range is new";
-- "An insert takes the first free slot."
abbrev pub insert_into : Option Entry → List ℕ → Range → ℕ → Pool → Served Pool Entry
insert_into (some e) free k v p = unchanged 1 p
insert_into none [] k v p = unchanged 13 p
insert_into none (s ∷ free) k v p =
    changed (pool (insert (record { slot = s; range = k; value = v }) p.tree) free)

-- "2 | delete of an absent range"; "A removal frees the removed entry's own slot, which becomes the first free;
-- every other entry keeps its slot number."
abbrev pub delete_from : Option Entry → Range → Pool → Served Pool Entry
delete_from none k p = unchanged 2 p
delete_from (some e) k p = changed (pool (delete k p.tree) (e.slot ∷ p.free))

-- "2 | .. delete-min or delete-max of an empty tree"
abbrev pub delete_end_from : Side → Tree → Pool → Served Pool Entry
delete_end_from s leaf p = unchanged 2 p
delete_end_from s (node e l r) p =
    changed (pool (shed s (node e l r)) ((outermost s e (node e l r)).slot ∷ p.free))

-- the answer of a sound pool of c slots. "Clear leaves the words that formatting leaves."
unfoldable pub serve : ℕ → Request → Pool → Served Pool Entry
serve c (inserting d a b v) p = with_range (range_to d a b) p (λ k. insert_into (find k p.tree) p.free k v p)
serve c (deleting d a b) p = with_range (range_to d a b) p (λ k. delete_from (find k p.tree) k p)
serve c (deleting_end s) p = delete_end_from s p.tree p
serve c clearing p = changed (fresh c)
serve c (querying d a b) p =
    with_range (range_to d a b) p (λ q. names p (hits q p.tree))
