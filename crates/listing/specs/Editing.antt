-- The lines that edit a pool: which entry a line asks, what it tells, and what is recorded of it. The numbers of a line
-- are in the order of the format.
use Rattle.std.specs.Prelude.{ℕ, ◌+◌, List, [], ◌∷◌, slice_index, ℤ, pos, negsuc}
use Rattle.rules.specs.Range.{excluded, included}
use Rattle.rules.specs.Balance.{left, right}
use Rattle.rules.specs.Request.{inserting, deleting, deleting_end, clearing}
use Rattle.rules.specs.Entries.{Edited, format, edit, size_of, height_of}
use Rattle.lines.specs.declared.kind.Kind.{Kind}
use Rattle.lines.specs.declared.kind.Kind.TheVariants.{Insert, InsertIncluded, Delete, DeleteIncluded, DeleteMin, DeleteMax, Clear}

-- the number, and the words of the pool after the edit. A line that is no other edit formats the pool
abbrev pub made : Kind → List ℕ → List ℕ → Edited
made Insert ns ws = edit (inserting excluded (slice_index ns 0) (slice_index ns 1) (slice_index ns 2)) ws
made InsertIncluded ns ws = edit (inserting included (slice_index ns 0) (slice_index ns 1) (slice_index ns 2)) ws
made Delete ns ws = edit (deleting excluded (slice_index ns 0) (slice_index ns 1)) ws
made DeleteIncluded ns ws = edit (deleting included (slice_index ns 0) (slice_index ns 1)) ws
made DeleteMin ns ws = edit (deleting_end left) ws
made DeleteMax ns ws = edit (deleting_end right) ws
made Clear ns ws = edit clearing ws
made _ ns ws = format ws

-- the levels of a tree of this height
abbrev pub levels_of : ℤ → ℕ
levels_of (pos n) = n + 1
levels_of (negsuc n) = 0

-- what is told of an edit: its number, and the size and the levels after it
abbrev pub told_of : Edited → List ℕ
told_of after = after.number ∷ (size_of after.words).told ∷ levels_of (height_of after.words).told ∷ []

-- what is recorded of it. A clear is recorded without its number, and a fresh pool without all three: they are 0
abbrev pub recorded : Kind → List ℕ → List ℕ
recorded Insert ns = slice_index ns 3 ∷ slice_index ns 4 ∷ slice_index ns 5 ∷ []
recorded InsertIncluded ns = slice_index ns 3 ∷ slice_index ns 4 ∷ slice_index ns 5 ∷ []
recorded Delete ns = slice_index ns 2 ∷ slice_index ns 3 ∷ slice_index ns 4 ∷ []
recorded DeleteIncluded ns = slice_index ns 2 ∷ slice_index ns 3 ∷ slice_index ns 4 ∷ []
recorded DeleteMin ns = slice_index ns 0 ∷ slice_index ns 1 ∷ slice_index ns 2 ∷ []
recorded DeleteMax ns = slice_index ns 0 ∷ slice_index ns 1 ∷ slice_index ns 2 ∷ []
recorded Clear ns = 0 ∷ slice_index ns 0 ∷ slice_index ns 1 ∷ []
recorded _ ns = 0 ∷ 0 ∷ 0 ∷ []
