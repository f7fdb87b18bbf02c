-- The C entries' answers, with the words that they leave, as document 01's entries have them; and what is answered by a
-- number, as the code has it before.
use Rattle.std.specs.Prelude.{ℕ, List, ℤ, Result, Ok, Err}
use Rattle.rules.specs.Entries.{Edited, Told, Queried}
use Rattle.request.specs.Answers.{refusal_number, number_of}
use Rattle.request.specs.declared.Outcome.{Outcome}
use Rattle.request.specs.declared.Refusal.{Refusal}
use Rattle.hindraloha.specs.declared.Answer.{Answer}
use Rattle.hindraloha.specs.declared.Count.{Count}
use Rattle.hindraloha.specs.declared.Height.{Height}
use Rattle.hindraloha.specs.declared.Hits.{Hits}

-- a number, with all words of the pool
abbrev pub edited : Answer → List ℕ → Edited
edited r after = record { number = r.number; words = after }

-- a number, with what is told
abbrev pub told : Count → Told ℕ
told r = record { number = r.number; told = r.count }

abbrev pub told_height : Height → Told ℤ
told_height r = record { number = r.number; told = r.height }

-- a number and the hits, with all words of the lent run
abbrev pub queried : Hits → List ℕ → Queried
queried r run = record { number = r.number; count = r.hits; run = run }

-- an answer by its number, with all words of the pool
abbrev pub answered_of : Result Outcome Refusal → List ℕ → Edited
answered_of r after = record { number = number_of r; words = after }

-- what is told, or what is told on refusal by the refusal's number
abbrev pub told_of : {A : Type 0} → A → Result A Refusal → Told A
told_of none (Ok a) = record { number = 0; told = a }
told_of none (Err refusal) = record { number = refusal_number refusal; told = none }
