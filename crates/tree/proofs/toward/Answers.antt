-- `toward` answers the way on which the order sends a search. Assumes nothing.
use mathlib.Core.Bool.{true, false}
use mathlib.Core.Path.{◌≡◌, refl, ◌∙◌}
use Rattle.rules.specs.Range.{Order, less, same, more, order, is_less, is_same}
use Rattle.interval.specs.Interval.{range_of}
use Rattle.interval.proofs.Derived as derived
use Rattle.tree.proofs.toward.Goals as goal

-- what the two tests tell of the order
told-same : (o : Order) → true ≡ is_same o → same ≡ o
told-same less h = cc
told-same same h = refl
told-same more h = cc

told-less : (o : Order) → true ≡ is_less o → less ≡ o
told-less less h = refl
told-less same h = cc
told-less more h = cc

told-more : (o : Order) → false ≡ is_same o → false ≡ is_less o → more ≡ o
told-more less h i = cc
told-more same h i = cc
told-more more h i = refl

pub returns-then-eq : goal.returns-then-eq
returns-then-eq c =
    let i = c.args.range in
    let j = c.interval_at-here.result in
    rw (← c.interval_at-here.ensures) (told-same (order (range_of i) (range_of j)) (c.if-eq.ensures ∙ derived.same i j))

pub returns-then-lt : goal.returns-then-lt
returns-then-lt c =
    let i = c.args.range in
    let j = c.interval_at-here.result in
    rw (← c.interval_at-here.ensures) (told-less (order (range_of i) (range_of j)) (c.if-lt.ensures ∙ derived.before i j))

pub returns-else-lt : goal.returns-else-lt
returns-else-lt c =
    let i = c.args.range in
    let j = c.interval_at-here.result in
    rw (← c.interval_at-here.ensures)
    (told-more (order (range_of i) (range_of j)) (c.if-eq.ensures ∙ derived.same i j) (c.if-lt.ensures ∙ derived.before i j))
