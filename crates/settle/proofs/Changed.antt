-- A node whose child on a side has changed: what is read of it, and when what is left is settled. Assumes nothing.
use Prim.Native.Nat.{ℕ, suc, ◌+◌, ◌*◌, ◌%◌, ◌/◌, ◌≤◌, ◌<◌, max}
use mathlib.Core.Bool.{Bool, true}
use mathlib.Core.List.{List}
use mathlib.Core.Logic.{⊎_elim}
use mathlib.Core.Path.{◌≡◌, refl, sym, ap, ◌∙◌}
use native.Mathlib.Omega.{arith}
use lib.Dec.{eqb}
use borrow.Author.Tests.{eq-eqb, ne_eqb, lt-ltb, le-ltb}
use Rattle.std.proofs.lemmas.Bool.{eqb-true}
use Rattle.rules.specs.Limits.{half}
use Rattle.rules.specs.Tree.{Entry, Tree, levels, size}
use Rattle.rules.specs.Balance.{Side, left, right, other, near, far, join, mend, balance, balanced_join}
use Rattle.rules.specs.Stored.{slot_word, Left}
use Rattle.rules.proofs.Tests.{eq_cases}
use Rattle.rules.proofs.Balanced.{Close, balance_still, levels-join}
use Rattle.node.specs.Node.{levels_at, Hung}
use Rattle.node.proofs.Halves.{apart_low}
use Rattle.node.proofs.Trees.{at_root}
use Rattle.node.proofs.Updated.{Fit, fit}
use Rattle.balance.proofs.Sides.{hung-turned}
use Rattle.balance.proofs.Rotated.{near_child, far_child}
use Rattle.settle.specs.Settling.{differs, still, moved, marked, Stands, level, moved_too, too_high, too_low, Stays, Settles, Over}
use Rattle.settle.specs.declared.Standing.TheVariants.{Level, Moved, TooHigh, TooLow}
use Rattle.settle.specs.declared.Settled.{Settled}

-- children that are close are joined as they are
pub still_join : (s : Side) (e : Entry) {a b : Tree} → Close a b → balanced_join s e a b ≡ join s e a b
still_join left e c = balance_still e c
still_join right e c = balance_still e (record { low = c.high; high = c.low })

-- the links of a slot, put together from its children on the sides
pub links_read : (s : Side) (a b w : ℕ) → a ≡ near s (w % half) (w / half) → b ≡ far s (w % half) (w / half)
    → w ≡ near s a b + half * far s a b
links_read left a b w p q = omega arith
links_read right a b w p q = omega arith

-- An answer that is the slot of before: the child kept its slot, and its number of levels.
module _ {below was : ℕ} (small : was < half) (is : below ≡ was) where
  pub slot_kept : below % half ≡ was
  slot_kept = omega arith

  pub level_kept : (n m : ℕ) → below / half ≡ differs n m → m ≡ n
  level_kept n m moved =
      ⊎_elim (λ p. sym p.0) (λ p. let high : differs n m ≡ 1 = rw p.1 refl in absurd (omega arith)) (eq_cases n m)

-- an answer that is said to have the slot of before has it
pub told_still : {told : Bool} {r : Settled} {k : ℕ} → told ≡ eqb r.word k → told ≡ true → r.word ≡ k
told_still {r = r} {k} is told = eqb-true r.word k (sym is ∙ told)

-- the slot of a root fits in half a word
pub root-small : {ss after : List ℕ} {root : ℕ} {t : Tree} → Left ss after root t → root < half
root-small done = let small = (at_root done.rooted).small in omega arith

-- A tree is settled where the answer has its root and whether its number of levels is another one than n: as both are
-- known, as that number is n, as it is not, and as it is read at the root.
module _ {ss after : List ℕ} {root n : ℕ} {t : Tree} (done : Left ss after root t) where
  settles : {r : Settled} → r.word ≡ root + half * differs n (levels t) → Settles r ss after n t
  settles {r} is =
      let small = root-small done in
      let low : r.word % half ≡ root = omega arith in
      record { left = rw low done; moved_is = omega arith }

  pub settles_same : {r : Settled} → levels t ≡ n → r ≡ still root → Settles r ss after n t
  settles_same same is =
      rw is (settles {r = still root} (rw (eq-eqb n (levels t) (sym same)) (omega arith)))

  pub settles_moved : {r : Settled} → (levels t ≡ n → ⊥) → r ≡ moved root → Settles r ss after n t
  settles_moved other is =
      rw is (settles {r = moved root} (rw (ne_eqb n (levels t) (λ z. other (sym z))) refl))

  pub settles_read : {r : Settled} → r ≡ marked root (differs n (levels_at after root)) → Settles r ss after n t
  settles_read is =
      rw is
      (settles {r = marked root (differs n (levels_at after root))}
      (ap (λ (x : ℕ). root + half * differs n x) (at_root done.rooted).levels_is))

-- a child that is too high is mended on its side
mended-join : (s : Side) (e : Entry) (u v : Tree) → suc (levels v) < levels u → mend s e u v ≡ balanced_join s e u v
unfolding balance
mended-join left e u v h = rw (le-ltb (suc (levels u)) (levels v) (omega arith), lt-ltb (suc (levels v)) (levels u) h)
mended-join right e u v h = rw (lt-ltb (suc (levels v)) (levels u) h)

mended-other : (s : Side) (e : Entry) (u v : Tree) → suc (levels u) < levels v → mend (other s) e v u ≡ balanced_join s e u v
unfolding balance
mended-other left e u v h = rw (lt-ltb (suc (levels u)) (levels v) h)
mended-other right e u v h = rw (le-ltb (suc (levels v)) (levels u) (omega arith), lt-ltb (suc (levels u)) (levels v) h)

-- what is told of the levels by how a node stands
when_level : {t u v : ℕ} → Stands t u v Level → (u ≤ suc v) × (v ≤ suc u) × (max t v ≡ max u v)
when_level (level p q r) = (p, q, r)

when_moved : {t u v : ℕ} → Stands t u v Moved → (u ≤ suc v) × (v ≤ suc u) × (max t v ≡ max u v → ⊥)
when_moved (moved_too p q r) = (p, q, r)

pub when_too_high : {t u v : ℕ} → Stands t u v TooHigh → suc v < u
when_too_high (too_high p) = p

pub when_too_low : {t u v : ℕ} → Stands t u v TooLow → suc u < v
when_too_low (too_low p) = p

-- what a mark says of two numbers
differs_none : (n m : ℕ) → 0 ≡ differs n m → n ≡ m
differs_none n m is =
    ⊎_elim (λ p. p.0) (λ p. let high : differs n m ≡ 1 = rw p.1 refl in absurd (omega arith)) (eq_cases n m)

differs_one : (n m : ℕ) → 1 ≡ differs n m → n ≡ m → ⊥
differs_one n m is same = let low : differs n m ≡ 0 = rw (eq-eqb n m same) refl in omega arith

-- two trees hung on a side and the other
pub hung_sides : (s : Side) {ss : List ℕ} {k a b : ℕ} {e : Entry} {t u : Tree} → Hung ss k a b e t u
    → Hung ss k (near s a b) (far s a b) e (near s t u) (far s t u)
hung_sides left h = h
hung_sides right h = hung-turned h

-- A node over a child that has changed: what is read of it.
module _ (s : Side) {ss : List ℕ} {k a b : ℕ} {e : Entry} {t u v : Tree} (o : Over s ss k a e t u v)
    (b_is : b ≡ far_child s ss k) where
  pub hung_over : Hung ss k a b e u v
  hung_over = rw b_is o.hung

  pub fits : Fit ss k a b
  fits = fit hung_over

  -- the slot is small
  pub small : k < half
  small = let room = hung_over.left.room in let at = fits.at.inside in omega arith

  -- the node's levels before, as they are read
  pub height_read : levels_at ss k ≡ suc (max (levels t) (levels v))
  height_read =
      let one = fits.at.from_one in
      let most = o.low in
      let bv = (at_root hung_over.right).low in
      rw (ne_eqb k 0 (λ z. omega arith))
      (ap suc (apart_low (suc (size t + size v)) o.shape_was (omega arith)))

  -- where one child is too high, it is mended on its side
  pub mended_near : suc (levels v) < levels u → {r : Settled} {after : List ℕ}
      → ((f : Entry) (x y : Tree) → Hung ss k a b f x y → 1 ≤ levels x → Settles r ss after (levels_at ss k) (mend s f x y))
      → Settles r ss after (levels (join s e t v)) (balanced_join s e u v)
  mended_near high done =
      rw (levels-join s e t v, ← height_read, ← mended-join s e u v high) (done e u v hung_over (omega arith))

  pub mended_far : suc (levels u) < levels v → {turned : Side} {r : Settled} {after : List ℕ} → turned ≡ other s
      → ((f : Entry) (x y : Tree) → Hung ss k b a f x y → 1 ≤ levels x → Settles r ss after (levels_at ss k) (mend turned f x y))
      → Settles r ss after (levels (join s e t v)) (balanced_join s e u v)
  mended_far high is done =
      rw (levels-join s e t v, ← height_read, ← mended-other s e u v high)
      (rw is at (done e v u (hung-turned hung_over) (omega arith)))

  -- else it stays on top of both, with these links
  pub level_stays : {links : ℕ} → links ≡ near s a b + half * far s a b → Stands (levels t) (levels u) (levels v) Level
      → Stays s ss k a links 0 t u v
  level_stays is stood =
      let w = when_level stood in
      record { links_is = rw (← b_is) is; low = w.0; high = w.1; by_is = rw (eq-eqb _ _ w.2) refl }

  pub moved_stays : {links : ℕ} → links ≡ near s a b + half * far s a b → Stands (levels t) (levels u) (levels v) Moved
      → Stays s ss k a links 1 t u v
  moved_stays is stood =
      let w = when_moved stood in
      record { links_is = rw (← b_is) is; low = w.0; high = w.1; by_is = rw (ne_eqb _ _ w.2) refl }

  module _ {links by : ℕ} (stays : Stays s ss k a links by t u v) where
    joined : balanced_join s e u v ≡ join s e u v
    joined = still_join s e (record { low = stays.low; high = stays.high })

    pub stays_level : by ≡ 0 → {r : Settled} {after : List ℕ} → Left ss after k (join s e u v) → r ≡ still k
        → Settles r ss after (levels (join s e t v)) (balanced_join s e u v)
    stays_level none done is =
        settles_same (rw joined done)
        (rw (joined, levels-join s e u v, levels-join s e t v) (ap suc (sym (differs_none _ _ (sym none ∙ stays.by_is))))) is

    pub stays_moved : by ≡ 1 → {r : Settled} {after : List ℕ} → Left ss after k (join s e u v) → r ≡ moved k
        → Settles r ss after (levels (join s e t v)) (balanced_join s e u v)
    stays_moved one done is =
        settles_moved (rw joined done)
        (λ z.
        let same = rw (joined, levels-join s e u v, levels-join s e t v) at z in
        differs_one _ _ (sym one ∙ stays.by_is) (omega arith))
        is

-- Where the child kept its slot and its number of levels, the links are what they were.
pub kept_stays : (s : Side) {ss : List ℕ} {k : ℕ} {e : Entry} {t u v : Tree} → Over s ss k (near_child s ss k) e t u v
    → levels u ≡ levels t
    → Stays s ss k (near_child s ss k) (slot_word ss k 4) 0 t u v
kept_stays s {ss} {k} {t = t} {u} {v} o same =
    let low = o.low in
    let high = o.high in
    record {
      links_is = links_read s _ _ (slot_word ss k 4) refl refl;
      low = omega arith;
      high = omega arith;
      by_is = rw (eq-eqb (max (levels t) (levels v)) (max (levels u) (levels v)) (omega arith)) refl;
    }
