-- A part of a slice from a start to its end, `&s[a..]` or `&mut s[a..]`, lent to a call: what is lent, and what the
-- call did to the part, said of the whole. For any start and any elements. Assumes nothing.
use Prim.Native.Nat.{ℕ, ◌-◌, ◌≤◌, ◌<◌}
use mathlib.Core.List.{List, [], ◌++◌, append-nil}
use mathlib.Core.Path.{◌≡◌, ◌∙◌}
use native.Mathlib.Omega.{arith}
use lib.ListN.{length, get_or, take, drop, length-append, length-drop, drop_of_length-le, get_or-append}
use lib.Seq.{length-take-le, take_all, get_or-take, take_at, drop_at}
use borrow.Rule.Slice.PartMut.{mid_of, put_mid}

-- the part that is lent, as the rule for `&s[a..]` has it
abbrev pub part_from : {X : Type 0} → ℕ → List X → List X
part_from a xs = mid_of a (length xs - a) xs

-- it is all elements from the start on
pub part_lent : {X : Type 0} (a : ℕ) (xs : List X) → part_from a xs ≡ drop a xs
part_lent a xs = take_all (length xs - a) (drop a xs) (rw length-drop (omega arith))

-- the whole when the part is back with the elements ys, as the rule for `&mut s[a..]` has it
abbrev pub with_part : {X : Type 0} → ℕ → List X → List X → List X
with_part a xs ys = put_mid a (length xs - a) xs ys

-- it is the elements before the start, and then ys
pub part_back : {X : Type 0} (a : ℕ) (xs ys : List X) → with_part a xs ys ≡ take a xs ++ ys
part_back a xs ys =
    let none : drop (length xs - a) (drop a xs) ≡ [] =
    drop_of_length-le (drop a xs) {i = length xs - a} (rw length-drop (omega arith)) in
    rw (none, append-nil)

module _ {X : Type 0} (a : ℕ) (xs ys : List X) (inside : a ≤ length xs) where
  -- from the start on there is what the call left
  pub part_after : drop a (with_part a xs ys) ≡ ys
  part_after = rw (part_back a xs ys) (drop_at (take a xs) ys a (length-take-le a xs inside))

  -- and before it what there was
  pub front_after : take a (with_part a xs ys) ≡ take a xs
  front_after = rw (part_back a xs ys) (take_at (take a xs) ys a (length-take-le a xs inside))

  -- element by element
  pub front_at : (i : ℕ) (d : X) → i < a → get_or (with_part a xs ys) i d ≡ get_or xs i d
  front_at i d h =
      let fits : i < length (take a xs) = rw (length-take-le a xs inside) h in
      rw (part_back a xs ys) (get_or-append (take a xs) ys d i fits ∙ get_or-take a xs i d h)

  -- the whole is as long as before where the part is
  pub length_with_part : length ys ≡ length (drop a xs) → length (with_part a xs ys) ≡ length xs
  length_with_part h =
      rw (part_back a xs ys, length-append, length-take-le a xs inside, h, length-drop) (omega arith)
