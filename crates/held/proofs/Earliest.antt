-- The first hit: what the step from the root hits is the first of all hits. Assumes nothing.
use mathlib.Core.List.{List, []}
use mathlib.Core.Option.{Option, none, some}
use mathlib.Core.Path.{◌≡◌, refl, ap, ◌∙◌}
use Prim.Native.Nat.{ℕ}
use Rattle.rules.specs.Range.{Range}
use Rattle.rules.specs.Tree.{Entry, Tree}
use Rattle.rules.specs.Query.{hits}
use Rattle.rules.specs.Steps.{Pending, at_start, with_hit, Each, InOrder, all_hits}
use Rattle.rules.proofs.Pending.{each_at_start, in_order_down}
use Rattle.rules.proofs.Steps.{start-hits}
use Rattle.walk.specs.Walk.{Walkable, next}
use Rattle.walk.proofs.Onward.{next_over, next-hits}
use Rattle.held.specs.Held.{first_of}

-- without a hit none is to come
none_to_come :
    (q : Range) {p : Pending} → Each InOrder p → (next q p).hit ≡ none → all_hits q (next q p).pending ≡ []
none_to_come q ordered h = ap (all_hits q) (next_over in_order_down q ordered h)

-- the first hit is the first of all
first_is : (o : Option Entry) {es : List Entry} → (o ≡ none → es ≡ []) → o ≡ first_of (with_hit o es)
first_is none last = rw (last refl)
first_is (some e) last = refl

pub first_found : {ss : List ℕ} {k : ℕ} {t : Tree} (q : Range) → Walkable ss k t → (next q (at_start t)).hit ≡ first_of (hits q t)
first_found {t = t} q w =
    let ordered = each_at_start InOrder t w.in_order in
    first_is (next q (at_start t)).hit (none_to_come q ordered) ∙ ap first_of (next-hits q ordered ∙ start-hits q t)
