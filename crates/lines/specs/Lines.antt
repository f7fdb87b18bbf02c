-- What there is of a line.
use Rattle.std.specs.Prelude.{◌≡◌, ℕ, List, [], length, Bool, false, Option, None, Some, MatchOption}
use Rattle.lines.specs.declared.kind.Kind.{Kind}
use Rattle.lines.specs.Format.{letter_of, numbers_of}

-- its letter, if it has one yet, its numbers, and whether it is not as it should be
pub record Begun : Type 0 where
  pub letter : Option ℕ
  pub numbers : List ℕ
  pub spoilt : Bool

-- a line of which nothing has come
abbrev pub before_a_line : Begun
before_a_line = record { letter = None; numbers = []; spoilt = false }

-- a line of this kind: its letter, as many numbers as it should have, and nothing else
pub record IsOf (line : Begun) (kind : Kind) : Type 0 where
  pub named : line.letter ≡ Some (letter_of kind)
  pub complete : length line.numbers ≡ numbers_of kind
  pub unspoilt : line.spoilt ≡ false

-- the kind of a line, or none where it is of no kind
abbrev pub Read : Begun → Option Kind → Type 0
Read line found = MatchOption found ((kind : Kind) → IsOf line kind → ⊥) (IsOf line)
