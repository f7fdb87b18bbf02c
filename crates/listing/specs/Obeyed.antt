-- A line that has ended: what is noted of it, which of its numbers each entry is asked with, and which its answers are
-- compared with. The numbers of a line are in the order of the format.
use Rattle.std.specs.Prelude.{◌≡◌, ℕ, ◌+◌, ◌*◌, List, [], ◌∷◌, Bool, true, false, Option, Some, None, MatchOption, length, take, nat_lt, if◌then◌else◌, slice_index}
use Rattle.rules.specs.Limits.{most_slots, header_words, slot_words}
use Rattle.lines.specs.declared.kind.Kind.{Kind}
use Rattle.lines.specs.declared.kind.Kind.TheVariants.{Pool, Query, QueryIncluded, Row, Tree, Node, End}
use Rattle.lines.specs.declared.notes.Query.{Query as Asked}
use Rattle.lines.specs.declared.notes.Notes.{Notes}
use Rattle.lines.specs.Arrays.{padded}
use Rattle.lines.specs.Counting.{with_line, with_compared, differing_words}
use Rattle.lines.specs.Lines.{Begun, Read}
use Rattle.lines.specs.Noted.{settled}
use Rattle.listing.specs.Editing.{made, told_of, recorded}
use Rattle.listing.specs.Queries.{asked, after_query, RowNoted}
use Rattle.listing.specs.Shapes.{TreeNoted, NodeNoted}

-- the query of a line: its first two numbers are the range
abbrev pub query_of : Bool → List ℕ → Asked
query_of included ns = record { start = slice_index ns 0; end = slice_index ns 1; included = included }

-- what is noted after the line of a query: its third number is how many hits there are
abbrev pub with_query : Asked → List ℕ → List ℕ → List ℕ → Notes → Notes
with_query q ns pool rows n = after_query q (slice_index ns 2) (asked q pool rows) (asked q pool []) n

-- what is noted after the line of an edit
abbrev pub with_edit : Kind → List ℕ → List ℕ → Notes → Notes
with_edit kind ns pool n =
    record n { counts = with_compared 3 (differing_words (told_of (made kind ns pool)) (recorded kind ns)) n.counts }

-- what is noted before and after a line of a kind with these numbers is obeyed on a pool and the rows of a query
abbrev pub Obeyed : Kind → List ℕ → List ℕ → List ℕ → Notes → Notes → Type 0
Obeyed Query ns pool rows before after = after ≡ with_query (query_of false ns) ns pool rows before
Obeyed QueryIncluded ns pool rows before after = after ≡ with_query (query_of true ns) ns pool rows before
Obeyed Row ns pool rows before after =
    RowNoted pool rows (slice_index ns 0 ∷ slice_index ns 1 ∷ slice_index ns 2 ∷ []) before after
Obeyed Tree ns pool rows before after = TreeNoted pool (slice_index ns 0) before after
Obeyed Node ns pool rows before after = NodeNoted pool ns before after
Obeyed End ns pool rows before after = after ≡ before
Obeyed kind ns pool rows before after = after ≡ with_edit kind ns pool before

-- the words of the pool after a line of a kind is obeyed: only an edit changes them
abbrev pub pool_after : Kind → List ℕ → List ℕ → List ℕ
pool_after Query ns pool = pool
pool_after QueryIncluded ns pool = pool
pool_after Row ns pool = pool
pool_after Tree ns pool = pool
pool_after Node ns pool = pool
pool_after End ns pool = pool
pool_after kind ns pool = (made kind ns pool).words

-- the words of the rows after it: only a query fills them
abbrev pub rows_after : Kind → List ℕ → List ℕ → List ℕ → List ℕ
rows_after Query ns pool rows = (asked (query_of false ns) pool rows).run
rows_after QueryIncluded ns pool rows = (asked (query_of true ns) pool rows).run
rows_after kind ns pool rows = rows

-- how many words a pool of so many slots has: none where there is no such pool
abbrev pub pool_words : ℕ → ℕ
pool_words slots = (if nat_lt most_slots slots then 0 else header_words + slot_words * slots)

-- one more line is counted, by its kind if it has one
abbrev pub counted : Option Kind → Notes → Notes
counted kind n = record n { counts = with_line kind n.counts }

-- what is noted of a line with these numbers before it is obeyed: what is due ends with any line but a row or a node, and a
-- fresh pool has words of its own
abbrev pub noted : Option Kind → List ℕ → Notes → Notes
noted (Some Row) ns n = counted (Some Row) n
noted (Some Node) ns n = counted (Some Node) n
noted (Some Pool) ns n = record (settled (counted (Some Pool) n)) { words = pool_words (slice_index ns 0) }
noted kind ns n = settled (counted kind n)

-- the pool in the room: so many words, or none where the room has fewer
abbrev pub pool_in : ℕ → List ℕ → List ℕ
pool_in words room = (if nat_lt (length room) words then [] else take words room)

-- what is noted before and after a line ends: its kind is read, it is noted, and obeyed if it has a kind
pub record Ended (line : Begun) (room rows : List ℕ) (before after : Notes) : Type 0 where
  pub kind : Option Kind
  pub read : Read line kind
  pub obeyed : MatchOption kind (after ≡ noted None (padded 8 line.numbers) before)
      (λ k. Obeyed k (padded 8 line.numbers) (pool_in (noted (Some k) (padded 8 line.numbers) before).words room) rows
      (noted (Some k) (padded 8 line.numbers) before) after)
