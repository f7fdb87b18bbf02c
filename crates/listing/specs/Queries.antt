-- The lines of a query: what is asked, and what is noted of it.
use Rattle.std.specs.Prelude.{◌≡◌, ℕ, List, [], ◌∷◌, cond, replicate, slice_index_or}
use Rattle.rules.specs.Range.{excluded, included}
use Rattle.rules.specs.Entries.{Queried, query}
use Rattle.held.specs.declared.Hit.{Hit}
use Rattle.held.specs.Records.{words_of}
use Rattle.lines.specs.declared.notes.Query.{Query}
use Rattle.lines.specs.declared.notes.Notes.{Notes}
use Rattle.lines.specs.Counting.{with_compared, differing_words}
use Rattle.lines.specs.Noted.{after_row}

-- the query of the entries
abbrev pub asked : Query → List ℕ → List ℕ → Queried
asked q ws run = query (cond q.included included excluded) q.start q.end ws run

-- what is noted after the hits are compared in both forms: no form is refused, each has so many, and so many rows are due
abbrev pub after_query : Query → ℕ → Queried → Queried → Notes → Notes
after_query q due words records n =
    record n {
      counts = with_compared 4 (differing_words (words.number ∷ words.count ∷ records.number ∷ records.count ∷ []) (0 ∷ due ∷ 0 ∷ due ∷ [])) n.counts;
      query = q;
      rows_due = due;
    }

-- a record before it is filled
abbrev pub blank : Hit
blank = record { start = 0; end = 0; value = 0 }

-- the records that are lent: 800, and none is filled
abbrev pub lent : List Hit
lent = replicate 800 blank

-- the words of record i, zeros where there is none
abbrev pub row_of : List Hit → ℕ → List ℕ
row_of rows i =
    let row = slice_index_or rows i blank in
    row.start ∷ row.end ∷ row.value ∷ []

-- these are the words of record i of those that the query fills
pub record Filled (q : Query) (pool : List ℕ) (i : ℕ) (row : List ℕ) : Type 0 where
  pub after : List Hit
  pub filled : words_of after ≡ (asked q pool (words_of lent)).run
  pub chosen : row ≡ row_of after i

-- what is noted after a row is compared in both forms
pub record RowNoted (pool rows recorded : List ℕ) (before after : Notes) : Type 0 where
  pub row : List ℕ
  pub told : Filled before.query pool before.rows_done row
  pub noted : after ≡ record (after_row rows recorded before) {
    counts = with_compared 3 (differing_words row recorded) (after_row rows recorded before).counts;
  }
