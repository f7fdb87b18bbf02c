-- The records are those that the entry has filled, and one of them is chosen.
use Rattle.std.proofs.Common.{◌≤◌, ap, refl, arith}
use Rattle.rules.specs.Entries.{Queried}
use Rattle.listing.specs.Queries.{blank}
use Rattle.listing.proofs.by_records.row.Goals as goal

pub returns : goal.returns
returns c =
    let here : c.args.i ≤ c.args.i = omega arith in
    record {
      after = c.ask.new.rows;
      filled = ap (λ (q : Queried). q.run) c.ask.ensures;
      chosen = rw c.unwrap_or-row.ensures (rw c.copied.ensures (rw (c.get.ensures.lookup.4 here blank) refl));
    }
