-- The history of demand 3: which ranges are held, with their values, by the requests and the range rules alone.
use Rattle.std.specs.Prelude.{ℕ, Bool, false, cond, ◌||◌, List, [], ◌∷◌, leb, length}
use Rattle.rules.specs.Range.{Range, order, choose, is_same, range_to}
use Rattle.rules.specs.Balance.{Side, near}
use Rattle.rules.specs.Query.{overlapping}
use Rattle.rules.specs.Request.{Request, inserting, deleting, deleting_end, clearing, querying}
use Rattle.rules.specs.Request.{Served, unchanged, changed, names, with_range}
use Rattle.rules.specs.Record.{Reading, whole, unknown, cut_short, kinds, reads}
use Rattle.rules.specs.Feed.{Feeding, feed_turns}

-- a range that went in, with the value it went in with
pub record Row : Type 0 where
  pub range : Range
  pub value : ℕ

-- whether the range went in and was not removed
abbrev pub holds : Range → List Row → Bool
holds k [] = false
holds k (x ∷ rows) = is_same (order k x.range) || holds k rows

-- one row more, at its place in the order
abbrev pub added : Row → List Row → List Row
added k [] = k ∷ []
added k (x ∷ rows) = choose (order k.range x.range) (k ∷ x ∷ rows) (x ∷ rows) (x ∷ added k rows)

-- the rows but those with that range
abbrev pub removed : Range → List Row → List Row
removed k [] = []
removed k (x ∷ rows) = cond (is_same (order k x.range)) (removed k rows) (x ∷ removed k rows)

abbrev pub all_but_last : Row → List Row → List Row
all_but_last x [] = []
all_but_last x (y ∷ rows) = x ∷ all_but_last y rows

-- "1 | insert: range already there", "13 | no free slot and the range is new"
abbrev pub add : ℕ → Row → List Row → Served (List Row) Row
add c k rows =
    cond (holds k.range rows) (unchanged 1 rows)
    (cond (leb c (length rows)) (unchanged 13 rows) (changed (added k rows)))

-- "2 | delete of an absent range"
abbrev pub remove : Range → List Row → Served (List Row) Row
remove k rows = cond (holds k rows) (changed (removed k rows)) (unchanged 2 rows)

-- "2 | .. delete-min or delete-max of an empty tree"
abbrev pub remove_end : Side → List Row → Served (List Row) Row
remove_end s [] = unchanged 2 []
remove_end s (x ∷ rows) = changed (near s rows (all_but_last x rows))

-- the answer to a request where the rows went in before, and there is room for c
unfoldable pub account : ℕ → Request → List Row → Served (List Row) Row
account c (inserting d a b v) rows =
    with_range (range_to d a b) rows (λ k. add c (record { range = k; value = v }) rows)
account c (deleting d a b) rows = with_range (range_to d a b) rows (λ k. remove k rows)
account c (deleting_end s) rows = remove_end s rows
account c clearing rows = changed []
account c (querying d a b) rows =
    with_range (range_to d a b) rows (λ q. names rows (overlapping (λ (x : Row). x.range) q rows))

-- the calls that may write to a pool; a request stands for its own entry
pub data Event : Type 0 where
  formatting : Event
  asking : Request → Event
  applying : List ℕ → Event
  feeding : List ℕ → Event

abbrev pub account_read : ℕ → Reading → List Row → Served (List Row) Row
account_read c unknown rows = unchanged 14 rows
account_read c cut_short rows = unchanged 15 rows
account_read c (whole request taken) rows = account c request rows

abbrev pub account_fed : Feeding (List Row) → Served (List Row) Row
account_fed f = record { number = f.number; left = f.left; hits = [] }

-- the number that a call is answered with, and the rows after it
unfoldable pub account_event : ℕ → Event → List Row → Served (List Row) Row
account_event c formatting rows = changed []
account_event c (asking request) rows = account c request rows
account_event c (applying bytes) rows = account_read c (reads kinds bytes) rows
account_event c (feeding bytes) rows = account_fed (feed_turns (account c) (length bytes) bytes rows)

-- the rows after all calls since a formatting, the latest first
abbrev pub history : ℕ → List Event → List Row
history c [] = []
history c (event ∷ earlier) = (account_event c event (history c earlier)).left
