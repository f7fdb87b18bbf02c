-- The format of a list: which letter a line of each kind begins with, and how many numbers it has.
use Rattle.std.specs.Prelude.{◌≡◌, ◌≢◌, ℕ, Option, MatchOption}
use Rattle.lines.specs.declared.kind.Kind.{Kind}
use Rattle.lines.specs.declared.kind.Kind.TheVariants.{Pool, Insert, InsertIncluded, Delete, DeleteIncluded, DeleteMin, DeleteMax, Clear, Query, QueryIncluded, Row, Tree, Node, End}

-- the letter of a kind, by its code
abbrev pub letter_of : Kind → ℕ
letter_of Pool = 102
letter_of Insert = 105
letter_of InsertIncluded = 106
letter_of Delete = 100
letter_of DeleteIncluded = 101
letter_of DeleteMin = 109
letter_of DeleteMax = 120
letter_of Clear = 99
letter_of Query = 113
letter_of QueryIncluded = 112
letter_of Row = 114
letter_of Tree = 115
letter_of Node = 110
letter_of End = 122

-- how many numbers follow it
abbrev pub numbers_of : Kind → ℕ
numbers_of Pool = 1
numbers_of Insert = 6
numbers_of InsertIncluded = 6
numbers_of Delete = 5
numbers_of DeleteIncluded = 5
numbers_of DeleteMin = 3
numbers_of DeleteMax = 3
numbers_of Clear = 2
numbers_of Query = 3
numbers_of QueryIncluded = 3
numbers_of Row = 3
numbers_of Tree = 1
numbers_of Node = 8
numbers_of End = 0

-- the kind that has this letter, or none where no kind has it
abbrev pub Names : ℕ → Option Kind → Type 0
Names letter found = MatchOption found ((kind : Kind) → letter_of kind ≢ letter) (λ kind. letter_of kind ≡ letter)
