-- The word behind the numbers is 0, and one of them from now on. Assumes nothing.
use Rattle.std.proofs.Common.{ℕ, List, [], ◌∷◌, ◌++◌, ap, ◌∙◌}
use Rattle.lines.specs.Lines.{Begun}
use Rattle.lines.proofs.Arrays.{listed_more, more_by_zero}
use Rattle.lines.proofs.line.Line.take_space.Goals as goal

pub invariant_of-self : goal.invariant_of-self
invariant_of-self c =
    listed_more 8 c.self.inside.count c.self.inside.numbers c.self.invariant c.if-self-lt-MOST_NUMBERS.true

pub returns-then-self-lt-MOST_NUMBERS-clause-begun :
    goal.returns-then-self-lt-MOST_NUMBERS-clause-begun
returns-then-self-lt-MOST_NUMBERS-clause-begun c =
    let line = c.self.inside in
    let with_numbers : List ℕ → Begun = λ ns. record { letter = line.letter; numbers = ns; spoilt = line.spoilt } in
    λ _. ap with_numbers (more_by_zero 8 line.count line.numbers c.self.invariant c.if-self-lt-MOST_NUMBERS.true)
    ∙ ap (λ (begun : Begun). record begun { numbers = begun.numbers ++ 0 ∷ [] }) c.self.view_is
