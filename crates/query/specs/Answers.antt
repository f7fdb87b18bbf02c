-- How what a query is answered with stands for document 01's entry, with the lent run as it is left.
use Rattle.std.specs.Prelude.{ℕ, List, Result, Ok, Err}
use Rattle.rules.specs.Entries.{Queried}
use Rattle.request.specs.Answers.{refusal_number}
use Rattle.request.specs.declared.Refusal.{Refusal}

-- "Query returns the number of hits, all counted": 0 and the hits, or a refusal's number and none
abbrev pub queried_of : Result ℕ Refusal → List ℕ → Queried
queried_of (Ok hits) run = record { number = 0; count = hits; run = run }
queried_of (Err refusal) run = record { number = refusal_number refusal; count = 0; run = run }
