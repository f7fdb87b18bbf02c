-- Pending trees on the stack: the latest is on top, and one more is left above the others. Assumes nothing.
use Prim.Native.Nat.{ℕ, suc, ◌+◌, ◌-◌, ◌*◌, ◌≤◌, ◌<◌}
use mathlib.Core.Bool.{cond}
use mathlib.Core.List.{List, [], ◌∷◌}
use mathlib.Core.Logic.{⊎_elim}
use mathlib.Core.Path.{◌≡◌, refl, sym, ap, ◌∙◌}
use native.Mathlib.Omega.{arith}
use lib.Dec.{eqb}
use lib.ListN.{length, take, get_or, set, length-append, length-set}
use lib.Seq.{get_or-take, take-take, take_at, get_or_at, take-suc-set}
use Rattle.rules.specs.Limits.{most_slots, most_pending, slot_words}
use Rattle.rules.specs.Tree.{Tree, leaf, levels, root}
use Rattle.rules.specs.Steps.{Pending, leave, at_start, Each, each_none, each_more}
use Rattle.rules.specs.Stored.{Stored, none, live}
use Rattle.rules.proofs.Tests.{eq_cases}
use Rattle.walk.specs.Walk.{stack_of, Waits, Pends, Stands, Walkable}
use Rattle.walk.specs.Inside.{Fitting}

-- a word for each pending tree
stack_length : (p : Pending) → length (stack_of p) ≡ length p
stack_length [] = refl
stack_length (t ∷ p) = rw (length-append, stack_length p) (omega arith)

module _ (stack : List ℕ) (n : ℕ) (t : Tree) (p : Pending) (counted : n ≡ suc (length p))
    (on_stack : take n stack ≡ stack_of (t ∷ p)) where
  -- as many words as are below the top
  below : length (stack_of p) ≡ n - 1
  below = omega (arith, stack_length p)

  -- the latest pending tree's slot is on top
  on_top : get_or stack (n - 1) 0 ≡ root t
  on_top =
      sym (get_or-take n stack (n - 1) 0 (omega arith))
      ∙ ap (λ xs. get_or xs (n - 1) 0) on_stack
      ∙ get_or_at (stack_of p) (root t) [] 0 (n - 1) below

  -- and the others are below it
  pub under_top : take (n - 1) stack ≡ stack_of p
  under_top =
      sym (take-take (n - 1) n stack (omega arith))
      ∙ ap (take (n - 1)) on_stack
      ∙ take_at (stack_of p) (root t ∷ []) (n - 1) below

module _ {ss stack : List ℕ} {n : ℕ} where
  -- no more are pending than there is room for
  pub few_pending : {p : Pending} → Pends ss stack n p → n ≤ most_pending
  few_pending h = go h.each h.counted
    where
      go : {p : Pending} → Each (Waits ss) p → n ≡ length p → n ≤ most_pending
      go each_none counted = omega arith
      go (each_more w each) counted = let fits = w.fits in omega arith

  -- where none is counted, none is pending
  pub none_left : {p : Pending} → Pends ss stack n p → n ≡ 0 → Stands ss stack (record { pending = n; top = 0 }) p
  none_left {p = []} h z = record { pends = h; top_is = refl }
  none_left {p = t ∷ p} h z = let counted = h.counted in absurd (omega arith)

  -- where some are, the latest can be read from the stack
  pub some_left :
      {p : Pending} → Pends ss stack n p → (n ≡ 0 → ⊥)
      → Stands ss stack (record { pending = n; top = get_or stack (n - 1) 0 }) p
  some_left {p = []} h some = absurd (some h.counted)
  some_left {p = t ∷ p} h some = record { pends = h; top_is = on_top stack n t p h.counted h.on_stack }

module _ {ss : List ℕ} {n k : ℕ} {t : Tree} (c : Fitting ss n k t) where
  -- where it fits, so does none
  pub none_fits : Fitting ss n 0 leaf
  none_fits = let fits = c.fits in record { stored = none; slot_is = refl; fits = omega arith }

  -- where it is a tree, there is room for its slot
  pub slot_room : (k ≡ 0 → ⊥) → n < most_pending
  slot_room some = go c.stored c.slot_is c.fits
    where
      go : {t : Tree} → Stored ss t → k ≡ root t → levels t + n ≤ most_pending → n < most_pending
      go none is fits = absurd (some is)
      go (live b w x y) is fits = omega arith

  -- it is left pending above the others, as the latest
  pub left_latest :
      {stack : List ℕ} {m : ℕ} {p : Pending} → (k ≡ 0 → ⊥) → m ≤ n → Pends ss stack m p
      → Stands ss (set stack m k) (record { pending = suc m; top = k }) (leave t p)
  left_latest {stack} {m} {p} some fewer h = go c.stored c.slot_is c.fits
    where
      go : {t : Tree} → Stored ss t → k ≡ root t → levels t + n ≤ most_pending
          → Stands ss (set stack m k) (record { pending = suc m; top = k }) (leave t p)
      go none is fits = absurd (some is)
      go (live b w x y) is fits =
          let long = h.long in
          let counted = h.counted in
          record {
            pends =
                record {
                  room = h.room;
                  long = length-set stack m k ∙ long;
                  counted = ap suc counted;
                  on_stack = take-suc-set stack m k (omega arith) ∙ rw (h.on_stack, is);
                  each = each_more {p = p} (record { stored = live b w x y; fits = omega arith }) h.each;
                };
            top_is = is;
          }

  -- where it is none, nothing is left pending
  pub left_none : {p : Pending} → k ≡ 0 → leave t p ≡ p
  left_none {p} z = go c.stored c.slot_is
    where
      go : {t : Tree} → Stored ss t → k ≡ root t → leave t p ≡ p
      go none is = refl
      go (live b w x y) is = let from_one = b.at.from_one in absurd (omega arith)

-- a stack with nothing pending
pub none-pending :
    {ss stack : List ℕ} → length ss ≤ slot_words * most_slots → length stack ≡ most_pending → Pends ss stack 0 []
none-pending room long = record { room = room; long = long; counted = refl; on_stack = refl; each = each_none }

-- at the start the root is pending, if there is one
pub starts :
    {ss : List ℕ} {k : ℕ} {t : Tree} (stack : List ℕ) → Walkable ss k t → length stack ≡ most_pending
    → Stands ss (set stack 0 k) (record { pending = cond (eqb k 0) 0 (suc 0); top = k }) (at_start t)
starts {ss} {k} {t} stack w long =
    let low = w.low in
    let root : Fitting ss 0 k t =
    record { stored = w.rooted.stored; slot_is = sym w.rooted.rooted; fits = omega arith }
    in
    ⊎_elim
    (λ z. rw (z.1, left_none root z.0)
    (record { pends = none-pending w.rooted.room (length-set stack 0 k ∙ long); top_is = z.0 }))
    (λ s. rw s.1 (left_latest root {stack = stack} s.0 (omega arith) (none-pending w.rooted.room long)))
    (eq_cases k 0)
