-- The hits as records: document 01, "Besides the words form, a query fills a lent list of hit records, same order and
-- counts."
use Rattle.std.specs.Prelude.{ℕ, List, [], ◌∷◌}
use Rattle.rules.specs.Tree.{Entry}
use Rattle.held.specs.declared.Hit.{Hit}

-- "start, end, value" of an entry, as a record
abbrev pub hit_of : Entry → Hit
hit_of e = record { start = e.range.start; end = e.range.end; value = e.value }

-- The records of the first hits, as many as fit; later records stay.
abbrev pub records_into : List Entry → List Hit → List Hit
records_into [] rows = rows
records_into (e ∷ es) [] = []
records_into (e ∷ es) (r ∷ rows) = hit_of e ∷ records_into es rows

-- the words of records, one after the other
abbrev pub words_of : List Hit → List ℕ
words_of [] = []
words_of (r ∷ rows) = r.start ∷ r.end ∷ r.value ∷ words_of rows
