-- What is counted, and where.
use Rattle.std.specs.Prelude.{ℕ, ◌+◌, ◌-◌, ◌^◌, ◌==◌, List, min, not, Option, None, Some, slice_set, slice_index, count_by}
use Rattle.std.specs.List.{zip}
use Rattle.std.proofs.Math.ListN.{replicate}
use Rattle.lines.specs.declared.kind.Kind.{Kind}
use Rattle.lines.specs.declared.kind.Kind.TheVariants.{Pool, Insert, InsertIncluded, Delete, DeleteIncluded, DeleteMin, DeleteMax, Clear, Query, QueryIncluded, Row, Tree, Node, End}
use Rattle.lines.specs.declared.counts.Counts.{Counts}

-- so many more of what is counted: a count stays at the largest word
abbrev pub more : ℕ → ℕ → ℕ
more n count = min (count + n) (2 ^ 64 - 1)

-- where the lines of a kind are counted
abbrev pub place_of : Kind → ℕ
place_of Pool = 0
place_of Insert = 1
place_of InsertIncluded = 2
place_of Delete = 3
place_of DeleteIncluded = 4
place_of DeleteMin = 5
place_of DeleteMax = 6
place_of Clear = 7
place_of Query = 8
place_of QueryIncluded = 9
place_of Row = 10
place_of Tree = 11
place_of Node = 12
place_of End = 13

-- the counts before the first line
abbrev pub nothing : Counts
nothing = record { lines = replicate 14 0; others = 0; compared = 0; differences = 0 }

-- the counts after one more line of a kind, or of none
abbrev pub with_line : Option Kind → Counts → Counts
with_line (Some kind) c = record c { lines = slice_set c.lines (place_of kind) (more 1 (slice_index c.lines (place_of kind))) }
with_line None c = record c { others = more 1 c.others }

-- the counts after one more difference
abbrev pub one_difference : Counts → Counts
one_difference c = record c { differences = more 1 c.differences }

-- at how many places the words of two lists differ
abbrev pub differing_words : List ℕ → List ℕ → ℕ
differing_words told recorded = count_by (λ p. not (p.0 == p.1)) (zip told recorded)

-- the counts after so many numbers were compared, of which so many differ
abbrev pub with_compared : ℕ → ℕ → Counts → Counts
with_compared n d c = record c { compared = more n c.compared; differences = more d c.differences }
