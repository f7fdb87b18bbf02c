-- What a host's number says of an end.
use Rattle.std.specs.Prelude.{ℕ, cond, eqb}
use Rattle.rules.specs.Range.{End, excluded, included}

-- "Insert, delete and query take the end either excluded or included": 0 is excluded, any other number included
abbrev pub end_of_flag : ℕ → End
end_of_flag flag = cond (eqb flag 0) excluded included
