-- A list in an array: the first words are the list, and those behind them are 0. So the list fixes the array.
use Rattle.std.specs.Prelude.{◌≡◌, ℕ, ◌-◌, ◌≤◌, List, ◌++◌, length, take, drop, replicate}
use Rattle.std.proofs.Common.{sym, ap, ◌∙◌, length-take-le, take-append-drop}

-- an array of so many words, of which so many are the list
pub record Listed (room count : ℕ) (words : List ℕ) : Type 0 where
  pub whole : length words ≡ room
  pub fits : count ≤ length words
  pub blank : drop count words ≡ replicate (room - count) 0

-- the array that a list stands in
abbrev pub padded : ℕ → List ℕ → List ℕ
padded room xs = xs ++ replicate (room - length xs) 0

-- the list is as long as its count
pub length_listed : (room count : ℕ) (words : List ℕ) → Listed room count words → length (take count words) ≡ count
length_listed room count words listed = length-take-le count words listed.fits

-- the array is the one that its list stands in
pub padded_listed : (room count : ℕ) (words : List ℕ) → Listed room count words → padded room (take count words) ≡ words
padded_listed room count words listed =
    ap (λ n. take count words ++ replicate (room - n) 0) (length_listed room count words listed)
    ∙ ap (λ zeros. take count words ++ zeros) (sym listed.blank)
    ∙ take-append-drop count words
