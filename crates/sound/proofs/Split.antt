-- A list of entries is in strict order exactly where its two parts around one of them are, that one standing in both:
-- document 01, "strict order". Assumes nothing.
use mathlib.Core.Bool.{true}
use mathlib.Core.List.{List, [], ◌∷◌, ◌++◌, append_assoc}
use mathlib.Core.Path.{◌≡◌}
use Rattle.rules.specs.Range.{order, is_less}
use Rattle.rules.specs.Tree.{Entry}
use Rattle.rules.specs.Pool.{ascending}
use Rattle.rules.proofs.Tests.{and_true, true_and}
use Rattle.rules.proofs.Ascending.{ascending-left, ascending-right}

joined : (xs : List Entry) (e : Entry) (ys : List Entry) → ascending (xs ++ e ∷ []) ≡ true
    → ascending (e ∷ ys) ≡ true → ascending (xs ++ e ∷ ys) ≡ true
joined [] e ys h k = k
joined (x ∷ []) e ys h k =
    let p = and_true (is_less (order x.range e.range)) (ascending (e ∷ [])) h in
    true_and {a = is_less (order x.range e.range)} p.0 k
joined (x ∷ y ∷ xs) e ys h k =
    let p = and_true (is_less (order x.range y.range)) _ h in
    true_and p.0 (joined (y ∷ xs) e ys p.1 k)

-- with more before and after
module _ (before xs : List Entry) (e : Entry) (ys after : List Entry) where
  around : before ++ ((xs ++ e ∷ ys) ++ after) ≡ (before ++ xs) ++ e ∷ (ys ++ after)
  around = simp append_assoc

  pub join_order : ascending (before ++ (xs ++ e ∷ [])) ≡ true → ascending (e ∷ (ys ++ after)) ≡ true
      → ascending (before ++ ((xs ++ e ∷ ys) ++ after)) ≡ true
  join_order h k = rw around (joined (before ++ xs) e (ys ++ after) (rw (append_assoc before xs (e ∷ [])) h) k)

  pub split_order : ascending (before ++ ((xs ++ e ∷ ys) ++ after)) ≡ true
      → (ascending (before ++ (xs ++ e ∷ [])) ≡ true) × (ascending (e ∷ (ys ++ after)) ≡ true)
  split_order h =
      let parted : ascending ((before ++ xs) ++ e ∷ (ys ++ after)) ≡ true = rw around at h in
      let front : ascending ((before ++ (xs ++ e ∷ [])) ++ (ys ++ after)) ≡ true =
      simp append_assoc (simp append_assoc at parted) in (
        ascending-left (before ++ (xs ++ e ∷ [])) (ys ++ after) front,
        ascending-right (before ++ xs) (e ∷ (ys ++ after)) parted,
      )
