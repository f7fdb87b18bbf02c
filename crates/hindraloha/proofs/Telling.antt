-- What size, height and `is_empty` tell of a sound pool, from its header and its root. Assumes nothing.
use Prim.Native.Nat.{ℕ, ◌%◌, max}
use mathlib.Core.Bool.{Bool, true, false, cond}
use mathlib.Core.List.{List}
use mathlib.Core.Path.{◌≡◌, refl, sym, ap, ◌∙◌}
use lib.Dec.{eqb}
use lib.IntN.{ℤ, pos, negsuc}
use lib.ListN.{get_or, drop}
use Rattle.std.specs.Prelude.{Result, Err}
use mir.Val.{bool_byte}
use native.Mathlib.Omega.{arith}
use Rattle.rules.specs.Limits.{header_words, half}
use Rattle.rules.specs.Tree.{Tree, leaf, node, levels, size, height}
use Rattle.rules.specs.Pool.{Pool, Holds}
use Rattle.rules.specs.Entries.{Told, check, size_of, height_of, is_empty}
use Rattle.rules.specs.Stored.{slot_word, Within, Rooted}
use Rattle.rules.proofs.Stored.{holds_laid, holds-rooted}
use Rattle.rules.proofs.Reading.{low_half}
use Rattle.node.proofs.Trees.{at-node, at_root}
use Rattle.request.specs.Answers.{zero_or_refusal}
use Rattle.request.specs.declared.Refusal.{Refusal}
use Rattle.guard.proofs.Guarded.{refused_by, answered}
use Rattle.hindraloha.specs.Entries.{told_of}

-- a pool that the check refused, with the answer r
module _ (ws : List ℕ) {B : Type 0} {r : Result B Refusal} {e : Refusal} (is : zero_or_refusal r ≡ check ws) (err : r ≡ Err e) where
  pub size_refused : told_of 0 (Err e) ≡ size_of ws
  unfolding size_of
  size_refused =
      refused_by ws is err (λ m. record { number = m; told = 0 }) (λ c p. record { number = 0; told = size p.tree })

  pub empty_refused : told_of 0 (Err e) ≡ is_empty ws
  unfolding is_empty
  empty_refused =
      refused_by ws is err (λ m. record { number = m; told = 0 })
      (λ c p. record { number = 0; told = cond (eqb (size p.tree) 0) 1 0 })

  pub height_refused : told_of (pos 0) (Err e) ≡ height_of ws
  unfolding height_of
  height_refused =
      refused_by ws is err (λ m. record { number = m; told = pos 0 }) (λ c p. record { number = 0; told = height p.tree })

-- a test as a number
as_number : (b : Bool) → bool_byte b ≡ cond b 1 0
as_number false = refl
as_number true = refl

module _ {ws : List ℕ} {p : Pool} (h : Holds ws p) where
  pub size_told : (n : ℕ) → n ≡ get_or ws 2 0 → ◌≡◌ {A = Told ℕ} (record { number = 0; told = n }) (size_of ws)
  unfolding size_of
  size_told n is =
      (λ i. record { number = 0; told = (is ∙ (holds_laid h).head.live_word) i })
      ∙ answered (λ m. record { number = m; told = 0 }) (λ c p. record { number = 0; told = size p.tree }) h

  empty_by : (t : ℕ) → t ≡ cond (eqb (size p.tree) 0) 1 0 → ◌≡◌ {A = Told ℕ} (record { number = 0; told = t }) (is_empty ws)
  unfolding is_empty
  empty_by t is =
      (λ i. record { number = 0; told = is i })
      ∙ answered (λ m. record { number = m; told = 0 }) (λ c p. record { number = 0; told = cond (eqb (size p.tree) 0) 1 0 }) h

  pub empty_told : (n t : ℕ) → n ≡ get_or ws 2 0 → t ≡ bool_byte (eqb n 0) → ◌≡◌ {A = Told ℕ} (record { number = 0; told = t }) (is_empty ws)
  empty_told n t is told =
      empty_by t (told ∙ ap (λ (m : ℕ). bool_byte (eqb m 0)) (is ∙ (holds_laid h).head.live_word) ∙ as_number (eqb (size p.tree) 0))

  height_by : (z : ℤ) → z ≡ height p.tree → ◌≡◌ {A = Told ℤ} (record { number = 0; told = z }) (height_of ws)
  unfolding height_of
  height_by z is =
      (λ i. record { number = 0; told = is i })
      ∙ answered (λ m. record { number = m; told = pos 0 }) (λ c p. record { number = 0; told = height p.tree }) h

  -- no root, no height
  no_height : (t : Tree) → Rooted (drop header_words ws) (get_or ws 0 0) t → get_or ws 0 0 ≡ 0 → negsuc 0 ≡ height t
  no_height leaf r e = refl
  no_height (node x l r) t e = absurd (let at = (at-node t).at in omega arith)

  pub no_height_told : (k : ℕ) → k ≡ get_or ws 0 0 → k ≡ 0 → ◌≡◌ {A = Told ℤ} (record { number = 0; told = negsuc 0 }) (height_of ws)
  no_height_told k is none = height_by (negsuc 0) (no_height p.tree (holds-rooted h) (sym is ∙ none))

  -- a root holds its height
  some_height : (t : Tree) → Rooted (drop header_words ws) (get_or ws 0 0) t → (get_or ws 0 0 ≡ 0 → ⊥)
      → pos (slot_word (drop header_words ws) (get_or ws 0 0) 5 % half) ≡ height t
  some_height leaf r there = absurd (there (sym r.rooted))
  some_height (node x l r) t there =
      let root = at_root t in
      let at = at-node t in
      let shape = rw at.slot_is at at.links.shape_word in
      ap pos (low_half (slot_word (drop header_words ws) (get_or ws 0 0) 5) (max (levels l) (levels r)) (size (node x l r)) shape (omega arith))

  pub height_told : (k : ℕ) → k ≡ get_or ws 0 0 → (k ≡ 0 → ⊥) → (n : ℕ) → n ≡ slot_word (drop header_words ws) k 5 % half
      → ◌≡◌ {A = Told ℤ} (record { number = 0; told = pos n }) (height_of ws)
  height_told k is there n low =
      height_by (pos n)
      (ap pos (low ∙ ap (λ (j : ℕ). slot_word (drop header_words ws) j 5 % half) is)
      ∙ some_height p.tree (holds-rooted h) (λ e. there (is ∙ e)))

  -- the root's slot is one of these words
  pub root_there : (k : ℕ) → k ≡ get_or ws 0 0 → (k ≡ 0 → ⊥) → Within (drop header_words ws) k
  root_there k is there = rw is (go p.tree (holds-rooted h))
    where
      go : (t : Tree) → Rooted (drop header_words ws) (get_or ws 0 0) t → Within (drop header_words ws) (get_or ws 0 0)
      go leaf r = absurd (there (is ∙ sym r.rooted))
      go (node x l r) t = (at-node t).at
