-- A feed of written records answers them one after the other, each from its own bytes, until one is refused or is a
-- query, whatever it is that answers. Assumes nothing.
use Prim.Native.Nat.{ℕ, zero, suc, ◌≤◌}
use mathlib.Core.List.{List, [], ◌∷◌, ◌++◌}
use mathlib.Core.Logic.{⊎_elim}
use mathlib.Core.Path.{◌≡◌, refl}
use native.Mathlib.Omega.{arith}
use lib.ListN.{length, length-append}
use lib.Seq.{drop-append_seam}
use Rattle.rules.specs.Request.{Request, Served}
use Rattle.rules.specs.Feed.{Feeding, feed_turns}
use Rattle.rules.specs.Writing.{Survey, kind_of, asks, body_of, encode, Fits, encode_all, feed_first, feed_said}
use Rattle.rules.proofs.Lists.{All, all_cons}
use Rattle.rules.proofs.Tests.{eq_cases}
use Rattle.rules.proofs.Writing.{read-fed, above_unfed}

module _ {S H : Type 0} (answers : Request → S → Served S H) where
  -- the first record, with the turns that are left for what follows it
  first_fed : (s : Survey) → Fits s → (n : ℕ) (rest : List ℕ) (u : S) (f : Feeding S) →
      feed_turns answers n rest (answers (asks s) u).left ≡ f →
      feed_turns answers (suc n) (encode s ++ rest) u ≡ feed_first s (answers (asks s) u) u f
  first_fed s h n rest u f e =
      ⊎_elim
      (λ t. rw (above_unfed (kind_of s) (body_of s ++ rest) (omega (arith, t.0)), t.1))
      (λ t. rw (read-fed s h t.0 rest, drop-append_seam (encode s) rest, e, t.1))
      (eq_cases (kind_of s) 9)

  -- as many turns as there are bytes are enough, and more do no harm
  pub fed_in_turns : (ss : List Survey) → All Fits ss → (n : ℕ) → length (encode_all ss) ≤ n → (u : S) →
      feed_turns answers n (encode_all ss) u ≡ feed_said answers ss u
  fed_in_turns [] a zero h u = refl
  fed_in_turns [] a (suc n) h u = refl
  fed_in_turns (s ∷ ss) (all_cons p a) zero h u = absurd (omega arith)
  fed_in_turns (s ∷ ss) (all_cons p a) (suc n) h u =
      first_fed s p n (encode_all ss) u (feed_said answers ss (answers (asks s) u).left)
      (fed_in_turns ss a n (omega (arith, length-append (body_of s) (encode_all ss))) (answers (asks s) u).left)

  -- so that a feed of written records comes to what was said
  pub fed_as_said : (ss : List Survey) → All Fits ss → (u : S) →
      feed_turns answers (length (encode_all ss)) (encode_all ss) u ≡ feed_said answers ss u
  fed_as_said ss a u = fed_in_turns ss a (length (encode_all ss)) (omega arith) u
