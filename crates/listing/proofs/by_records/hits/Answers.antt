-- What is answered and counted is the same for as many records as are lent as for none.
use Rattle.std.proofs.Common.{◌∙◌, ap}
use Rattle.rules.specs.Entries.{Queried}
use Rattle.listing.proofs.Counted.{same_number, same_count}
use Rattle.listing.proofs.by_records.hits.Goals as goal

pub returns-clause-number : goal.returns-clause-number
returns-clause-number c = ap (λ (q : Queried). q.number) c.ask.ensures ∙ same_number _ _ _ _ _ _

pub returns-clause-hits : goal.returns-clause-hits
returns-clause-hits c = ap (λ (q : Queried). q.count) c.ask.ensures ∙ same_count _ _ _ _ _ _
