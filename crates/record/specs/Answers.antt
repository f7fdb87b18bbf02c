-- How the structs that a record and a feed are answered with stand for document 01's entries, with the words that they
-- leave.
use Rattle.std.specs.Prelude.{ℕ, List, Result, Ok, Err}
use Rattle.rules.specs.Entries as rules
use Rattle.request.specs.Answers.{outcome_number, refusal_number}
use Rattle.request.specs.declared.Refusal.{Refusal}
use Rattle.record.specs.declared.Applied.{Applied}
use Rattle.record.specs.declared.Taken.{Taken}
use Rattle.record.specs.declared.Records.{Records}

-- "Apply returns also the bytes taken and the hits (both 0 on refusal ..)"
abbrev pub taken_of : Result Applied Refusal → Taken
taken_of (Ok a) = record { number = outcome_number a.outcome; taken = a.taken; hits = a.hits }
taken_of (Err refusal) = record { number = refusal_number refusal; taken = 0; hits = 0 }

-- a number, the bytes taken and the hits, with all words of the pool and of the lent run
abbrev pub applied_of : Taken → List ℕ → List ℕ → rules.Applied
applied_of r after run =
    record { number = r.number; taken = r.taken; count = r.hits; words = after; run = run }

-- "A feed checks the pool once, then applies records"; "0 and 0 with 10 or 11"
abbrev pub refused_of : Refusal → Records
refused_of refusal = record { number = refusal_number refusal; records = 0; taken = 0 }

-- a number, the records applied and their bytes, with all words of the pool
abbrev pub fed_of : Records → List ℕ → rules.Fed
fed_of r after = record { number = r.number; records = r.records; taken = r.taken; words = after }
