-- What the pending nodes are after one more, and after the latest is taken: lists of slots, the latest last.
use Rattle.std.specs.Prelude.{◌≡◌, ℕ, List, [], ◌∷◌, ◌++◌, ◌<◌, length, Option, MatchOption, Result, MatchResult}
use Rattle.lines.specs.declared.pending.Full.{Full}

-- one more, unless there are 32: then the list stays
abbrev pub Pushed : List ℕ → ℕ → Result Unit Full → List ℕ → Type 0
Pushed before slot answer after =
    MatchResult answer (λ _. (length before < 32) × (after ≡ before ++ slot ∷ [])) (λ _. (length before ≡ 32) × (after ≡ before))

-- the latest, unless there is none
abbrev pub Popped : List ℕ → Option ℕ → List ℕ → Type 0
Popped before answer after =
    MatchOption answer ((before ≡ []) × (after ≡ [])) (λ slot. before ≡ after ++ slot ∷ [])
