-- Document 01's number of each answer, "What each entry answers".
use Rattle.std.specs.Prelude.{ℕ, Result, Ok, Err}
use Rattle.request.specs.declared.Outcome.{Outcome}
use Rattle.request.specs.declared.Outcome.TheVariants.{Done, There, Absent}
use Rattle.request.specs.declared.Refusal.{Refusal}
use Rattle.request.specs.declared.Refusal.TheVariants.{WrongLength, Unsound, PastEnd, Full, UnknownKind, CutShort}

abbrev pub outcome_number : Outcome → ℕ
-- "0 | none of the others holds"
outcome_number Done = 0
-- "1 | insert: range already there"
outcome_number There = 1
-- "2 | delete of an absent range; delete-min or delete-max of an empty tree"
outcome_number Absent = 2

abbrev pub refusal_number : Refusal → ℕ
-- "10 | pool length isn't 4 + 6c, c from 1 to 4,095"
refusal_number WrongLength = 10
-- "11 | pool isn't sound"
refusal_number Unsound = 11
-- "12 | included end is 2^64 - 1"
refusal_number PastEnd = 12
-- "13 | no free slot and the range is new"
refusal_number Full = 13
-- "14 | kind not in the table (in a feed, also 9)"
refusal_number UnknownKind = 14
-- "15 | no bytes, or body cut short"
refusal_number CutShort = 15

-- the number of a request's answer
abbrev pub number_of : Result Outcome Refusal → ℕ
number_of (Ok outcome) = outcome_number outcome
number_of (Err refusal) = refusal_number refusal

-- the number of an answer that is 0 wherever it is no refusal
abbrev pub zero_or_refusal : {A : Type 0} → Result A Refusal → ℕ
zero_or_refusal (Ok a) = 0
zero_or_refusal (Err refusal) = refusal_number refusal
