-- Steps on the stack until one hits or nothing is pending: what is pending then, and that the steps come to an end, since
-- fewer entries are pending after each. Assumes nothing.
use Prim.Native.Nat.{ℕ, ◌+◌, ◌/◌, ◌≤◌, ◌<◌}
use mathlib.Core.Bool.{true, false, cond}
use mathlib.Core.List.{List, [], ◌∷◌, ◌++◌}
use mathlib.Core.Option.{Option, none}
use mathlib.Core.Path.{◌≡◌, refl, sym, ap, ◌∙◌}
use native.Mathlib.Omega.{arith}
use lib.ListN.{length, take}
use Rattle.std.specs.Prelude.{Option as Maybe, None, is_some}
use Rattle.rules.specs.Limits.{most_pending, half}
use Rattle.rules.specs.Range.{Range}
use Rattle.rules.specs.Tree.{Entry, Tree, node, levels, size}
use Rattle.rules.specs.Steps.{Pending, Step, step, Each, each_none, each_more, total}
use Rattle.rules.specs.Stored.{slot_word, Stored, live}
use Rattle.rules.proofs.Pending.{Fits, fits_down}
use Rattle.rules.proofs.Steps.{step_falls}
use Rattle.walk.specs.declared.Place.{Place}
use Rattle.walk.specs.declared.After.{After}
use Rattle.walk.specs.Walk.{stack_of, Waits, Pends, Stands, Hit, no_hit, hit_in, Leaves, until_hit, next, entries_at}
use Rattle.walk.proofs.Taking.{nothing}
use Rattle.walk.proofs.Onward.{next_step, next_falls}

-- one slot more on top
entries_top : (ss ks : List ℕ) (k : ℕ) → entries_at ss (ks ++ k ∷ []) ≡ slot_word ss k 5 / half + entries_at ss ks
entries_top ss [] k = refl
entries_top ss (j ∷ ks) k = omega (arith, entries_top ss ks k)

-- a stored node's shape says its size
stored-size :
    {ss : List ℕ} {e : Entry} {l r : Tree} → Stored ss (node e l r) → levels (node e l r) ≤ most_pending
    → slot_word ss e.slot 5 / half ≡ size (node e l r)
stored-size (live b w x y) low = let shape = w.shape_word in omega arith

-- the slots of the pending trees have the pending trees' entries
stack_total : {ss : List ℕ} {p : Pending} → Each (Waits ss) p → entries_at ss (stack_of p) ≡ total p
stack_total each_none = refl
stack_total {ss} (each_more {e} {l} {r} {p} w each) =
    let fits = w.fits in
    entries_top ss (stack_of p) e.slot ∙ rw (stored-size w.stored (omega arith), stack_total each)

-- and so have the stack's first words
pub entries-total :
    {ss stack : List ℕ} {n : ℕ} {p : Pending} → Pends ss stack n p → entries_at ss (take n stack) ≡ total p
entries-total h = rw h.on_stack (stack_total h.each)

-- each pending tree fits on the stack
pub each_fits : {ss : List ℕ} {p : Pending} → Each (Waits ss) p → Each (Fits most_pending) p
each_fits each_none = each_none
each_fits (each_more w each) = each_more w.fits (each_fits each)

-- where no slot is said, nothing was hit
none-hit : {ss : List ℕ} {k : Maybe ℕ} {o : Option Entry} → Hit ss k o → is_some k ≡ false → o ≡ none
none-hit no_hit z = refl
none-hit (hit_in b) z = let z : ◌≡◌ {A = ℕ} 1 0 = ap (λ b. cond b 1 0) z in absurd (omega arith)

-- and a slot ends the search
hit-ends :
    {ss : List ℕ} {k : Maybe ℕ} {o : Option Entry} (p : Pending) (after : Step) → Hit ss k o → is_some k ≡ true
    → until_hit o p after ≡ record { hit = o; pending = p }
hit-ends p after no_hit z = let z : ◌≡◌ {A = ℕ} 0 1 = ap (λ b. cond b 1 0) z in absurd (omega arith)
hit-ends p after (hit_in b) z = refl

module _ {P : Tree → Pending → Type 0} (q : Range) where
  -- with nothing pending the next hit is that of a step: none
  over : {p : Pending} → Each P p → length p ≡ 0 → next q p ≡ step q p
  unfolding next
  over each_none z = refl
  over (each_more x each) z = absurd (omega arith)

  -- with something pending a step leaves less
  less : {p : Pending} → Each P p → 0 < length p → total (step q p).pending < total p
  less each_none h = absurd (omega arith)
  less (each_more {e} {l} {r} {p} x each) h = step_falls q e l r p

-- a walk on the way to its next hit after p: the steps so far have not hit
pub record Seeks (ss stack : List ℕ) (place : Place) (q : Range) (p : Pending) : Type 0 where
  pub on : Pending
  pub stands : Stands ss stack place on
  pub same : next q p ≡ next q on

module _ {ss stack : List ℕ} {place : Place} {q : Range} where
  -- no step has been made
  pub seek_start : {p : Pending} → Stands ss stack place p → Seeks ss stack place q p
  seek_start {p} h = record { on = p; stands = h; same = refl }

  -- nothing is pending, so there is no next hit
  pub seek_over :
      {p : Pending} → Seeks ss stack place q p → place.pending ≡ 0
      → Leaves ss stack (record { place = place; hit = None }) (next q p)
  seek_over s z =
      let pends = s.stands.pends in
      rw (s.same ∙ over q pends.each (sym pends.counted ∙ z)) (nothing q s.stands z)

  module _
      {after : List ℕ} {a : After} (stepped : (p : Pending) → Stands ss stack place p → Leaves ss after a (step q p)) where
    -- the next hit, from the next step on
    step_same :
        {p : Pending} (s : Seeks ss stack place q p)
        → next q p ≡ until_hit (step q s.on).hit (step q s.on).pending (next q (step q s.on).pending)
    step_same s = s.same ∙ next_step (fits_down most_pending) q (each_fits s.stands.pends.each)

    -- one step more without a hit
    pub seek_on : {p : Pending} → Seeks ss stack place q p → is_some a.hit ≡ false → Seeks ss after a.place q p
    seek_on s z =
        let left = stepped s.on s.stands in
        record {
          on = (step q s.on).pending;
          stands = left.stands;
          same = rw (none-hit left.hits z) at (step_same s);
        }

    -- one step more with a hit
    pub seek_hit : {p : Pending} → Seeks ss stack place q p → is_some a.hit ≡ true → Leaves ss after a (next q p)
    seek_hit s some-hit =
        let left = stepped s.on s.stands in rw (step_same s ∙ hit-ends _ _ left.hits some-hit) left

    -- fewer entries are pending then
    pub seek_less :
        {p : Pending} → Seeks ss stack place q p → 0 < place.pending
        → entries_at ss (take a.place.pending after) < entries_at ss (take place.pending stack)
    seek_less s some-pending =
        let pends = s.stands.pends in
        rw (entries-total (stepped s.on s.stands).stands.pends, entries-total pends)
        (less q pends.each (rw pends.counted at some-pending))

module _ {ss stack after : List ℕ} {place : Place} {a : After} (q : Range) {p : Pending} (s : Stands ss stack place p)
    (left : Leaves ss after a (next q p)) where
  -- after the next hit fewer entries are pending
  pub next_less : 0 < place.pending → entries_at ss (take a.place.pending after) < entries_at ss (take place.pending stack)
  next_less h =
      rw (entries-total left.stands.pends, entries-total s.pends) (go (each_fits s.pends.each) (rw s.pends.counted at h))
    where
      go : {p : Pending} → Each (Fits most_pending) p → 0 < length p → total (next q p).pending < total p
      go each_none h = absurd (omega arith)
      go (each_more x each) h = next_falls (fits_down most_pending) q (each_more x each)

  -- and where something is hit, something was pending
  pub hit-pending : is_some a.hit ≡ true → 0 < place.pending
  unfolding next
  hit-pending h = let counted = s.pends.counted in omega (arith, go s.pends.each left.hits)
    where
      no-slot : {k : Maybe ℕ} → Hit ss k none → is_some k ≡ false
      no-slot no_hit = refl

      go : {p : Pending} → Each (Waits ss) p → Hit ss a.hit (next q p).hit → 0 < length p
      go each_none hit =
          let z : ◌≡◌ {A = ℕ} 0 1 = ap (λ b. cond b 1 0) (sym (no-slot hit) ∙ h) in absurd (omega arith)
      go (each_more x each) hit = omega arith
