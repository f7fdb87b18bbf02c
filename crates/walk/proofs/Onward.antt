-- The next hit: how it goes on from step to step, what it keeps of what a step keeps, and that without a hit nothing is
-- left pending. Assumes nothing.
use Prim.Native.Nat.{ℕ, zero, suc, ◌≤◌, ◌<◌}
use mathlib.Core.List.{[], ◌∷◌}
use mathlib.Core.Option.{Option, none, some}
use mathlib.Core.Path.{◌≡◌, refl, sym, ap, ◌∙◌}
use native.Mathlib.Omega.{arith}
use Rattle.rules.specs.Range.{Range}
use Rattle.rules.specs.Tree.{Entry, Tree, node}
use Rattle.rules.specs.Steps.{Pending, Step, step, with_hit, Each, each_none, each_more, InOrder, all_hits, total}
use Rattle.rules.proofs.Pending.{HandedDown, each_step, in_order_down}
use Rattle.rules.proofs.Steps.{step_hits, step_falls}
use Rattle.walk.specs.Walk.{until_hit, next_within, next}

-- what holds of a step that hit, and of what follows one that did not, holds of the one that ends the search
of_until :
    (Q : Step → Type 0) (s after : Step) → ((e : Entry) → s.hit ≡ some e → Q s) → (s.hit ≡ none → Q after)
    → Q (until_hit s.hit s.pending after)
of_until Q s after h k = go s.hit refl
  where
    go : (o : Option Entry) → s.hit ≡ o → Q (until_hit o s.pending after)
    go none e = k e
    go (some x) e = rw e at (h x e)

-- a walk with nothing pending has no next hit
within_nothing : (q : Range) (n : ℕ) → next_within n q [] ≡ record { hit = none; pending = [] }
within_nothing q zero = refl
within_nothing q (suc n) = within_nothing q n

module _ {P : Tree → Pending → Type 0} (down : HandedDown P) (q : Range) where
  -- a step on what is pending leaves less
  falls : {p : Pending} (n : ℕ) → Each P p → total p ≤ suc n → total (step q p).pending ≤ n
  falls n each_none h = omega arith
  falls n (each_more {e} {l} {r} {p} x each) h = omega (arith, step_falls q e l r p)

  -- as many steps as there are entries pending are enough
  enough : (n m : ℕ) {p : Pending} → Each P p → total p ≤ n → total p ≤ m → next_within n q p ≡ next_within m q p
  enough zero m each_none h k = sym (within_nothing q m)
  enough zero m (each_more x each) h k = absurd (omega arith)
  enough (suc n) zero each_none h k = within_nothing q n
  enough (suc n) zero (each_more x each) h k = absurd (omega arith)
  enough (suc n) (suc m) {p} each h k =
      ap (until_hit (step q p).hit (step q p).pending)
      (enough n m (each_step P down q each) (falls n each h) (falls m each k))

  -- a step that hits ends the search, and else it goes on
  pub next_step :
      {p : Pending} → Each P p
      → next q p ≡ until_hit (step q p).hit (step q p).pending (next q (step q p).pending)
  unfolding next
  next_step {p} each =
      enough (total p) (suc (total p)) each (omega arith) (omega arith)
      ∙ ap (until_hit (step q p).hit (step q p).pending)
      (enough (total p) (total (step q p).pending) (each_step P down q each)
      (falls (total p) each (omega arith))
      (omega arith))

  -- what holds of each step that hits, and of what is pending where none does, holds of the next hit
  of_next :
      (Q : Pending → Step → Type 0)
      → ((p : Pending) (e : Entry) → Each P p → (step q p).hit ≡ some e → Q p (step q p))
      → ((p : Pending) (s : Step) → Each P p → (step q p).hit ≡ none → Q (step q p).pending s → Q p s)
      → Q [] (record { hit = none; pending = [] }) → {p : Pending} → Each P p → Q p (next q p)
  unfolding next
  of_next Q hit on over {p} each = go (total p) each (omega arith)
    where
      go : (n : ℕ) {p : Pending} → Each P p → total p ≤ n → Q p (next_within n q p)
      go zero each_none h = over
      go zero (each_more x each) h = absurd (omega arith)
      go (suc n) {p} each h =
          of_until (Q p) (step q p) _ (λ e some-hit. hit p e each some-hit)
          (λ none-hit. on p _ each none-hit (go n (each_step P down q each) (falls n each h)))

  -- the next hit keeps what a node hands down
  pub each_next : {p : Pending} → Each P p → Each P (next q p).pending
  each_next =
      of_next (λ p s. Each P s.pending) (λ p e each some-hit. each_step P down q each)
      (λ p s each none-hit after. after)
      each_none

  -- it leaves no more entries pending
  next_total : {p : Pending} → Each P p → total (next q p).pending ≤ total p
  next_total =
      of_next (λ p s. total s.pending ≤ total p) (λ p e each some-hit. falls (total p) each (omega arith))
      (λ p s each none-hit after. omega (arith, falls (total p) each (omega arith)))
      (omega arith)

  -- and fewer, where something was
  pub next_falls :
      {e : Entry} {l r : Tree} {p : Pending} → Each P (node e l r ∷ p)
      → total (next q (node e l r ∷ p)).pending < total (node e l r ∷ p)
  next_falls {e} {l} {r} {p} each =
      let less = step_falls q e l r p in
      rw (next_step each)
      (of_until (λ s. total s.pending < total (node e l r ∷ p)) (step q (node e l r ∷ p)) _ (λ x some-hit. less)
      (λ none-hit. omega (arith, next_total (each_step P down q each))))

  -- where there is none, nothing is left pending
  pub next_over : {p : Pending} → Each P p → (next q p).hit ≡ none → (next q p).pending ≡ []
  next_over =
      of_next (λ p s. s.hit ≡ none → s.pending ≡ [])
      (λ p e each some-hit none-hit. let z : ◌≡◌ {A = ℕ} 0 1 = cc in absurd (omega arith))
      (λ p s each none-hit after. after)
      (λ none-hit. refl)

-- what is hit, and then what is left pending, is what was pending
pub next-hits :
    (q : Range) {p : Pending} → Each InOrder p
    → with_hit (next q p).hit (all_hits q (next q p).pending) ≡ all_hits q p
next-hits q =
    of_next in_order_down q (λ p s. with_hit s.hit (all_hits q s.pending) ≡ all_hits q p)
    (λ p e each some-hit. step_hits q each)
    (λ p s each none-hit after. after ∙ (rw none-hit at (step_hits q each)))
    refl
