-- A list in an array stays one as it is written to, grows and gives up its last. Assumes nothing.
use Rattle.std.proofs.Common.{◌≡◌, ℕ, ◌+◌, ◌-◌, ◌<◌, List, [], ◌∷◌, ◌++◌, get_or, take, drop, set, replicate, suc, sym, ap, ◌∙◌, arith, length-set, get_or-drop, drop-drop, drop-set-lt}
use Rattle.std.proofs.lemmas.List.{drop-replicate, drop-set, take_more, get_or-replicate}
use Rattle.lines.specs.Arrays.{Listed}

module _ (room count : ℕ) (words : List ℕ) (listed : Listed room count words) where
  -- a word of the list is written
  pub listed_set : (i word : ℕ) → i < count → Listed room count (set words i word)
  listed_set i word within = record {
    whole = length-set words i word ∙ listed.whole;
    fits = omega (arith, length-set words i word, listed.fits);
    blank = drop-set-lt count words i word within ∙ listed.blank;
  }

  -- the word behind the list, which is 0, is of the list too
  pub listed_more : count < room → Listed room (count + 1) words
  listed_more less = record {
    whole = listed.whole;
    fits = omega (arith, less, listed.whole);
    blank =
        sym (drop-drop 1 count words) ∙ ap (λ ws. drop 1 ws) listed.blank ∙ drop-replicate 1 (room - count) 0
        ∙ ap (λ n. replicate n 0) (omega arith);
  }

  pub more_by_zero : count < room → take (count + 1) words ≡ take count words ++ 0 ∷ []
  more_by_zero less =
      let here : count ≡ count + 0 = omega arith in
      let behind : get_or words count 0 ≡ 0 =
      ap (λ i. get_or words i 0) here ∙ sym (get_or-drop count words 0 0) ∙ ap (λ ws. get_or ws 0 0) listed.blank
      ∙ get_or-replicate (room - count) 0 0 0 (omega (arith, less)) in
      take_more words count 0 (omega (arith, less, listed.whole)) ∙ ap (λ word. take count words ++ word ∷ []) behind

  -- the last word of the list is given up, and becomes 0
  pub listed_less : (k : ℕ) → k + 1 ≡ count → Listed room k (set words k 0)
  listed_less k last =
      let one_more : suc (room - count) ≡ room - k = omega (arith, last, listed.fits, listed.whole) in
      record {
        whole = length-set words k 0 ∙ listed.whole;
        fits = omega (arith, last, length-set words k 0, listed.fits);
        blank =
            drop-set words k 0 (omega (arith, last, listed.fits))
            ∙ ap (λ n. 0 ∷ drop n words) last
            ∙ ap (λ ws. 0 ∷ ws) listed.blank
            ∙ ap (λ n. replicate n 0) one_more;
      }
