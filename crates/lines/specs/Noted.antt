-- What is noted of a node that is pending from now on, of what is due no more, and of a row that was compared.
use Rattle.std.specs.Prelude.{ℕ, ◌&&◌, ◌+◌, ◌*◌, ◌/◌, Bool, List, [], ◌∷◌, ◌++◌, length, nat_eq, nat_lt, slice_range, if◌then◌else◌}
use Rattle.lines.specs.declared.counts.Counts.{Counts}
use Rattle.lines.specs.declared.notes.Notes.{Notes}
use Rattle.lines.specs.Counting.{more, one_difference, with_compared, differing_words}

-- one more that there is room for
abbrev pub with_pending : ℕ → Notes → Notes
with_pending slot n =
    (if nat_lt (length n.pending) 32 then record n { pending = n.pending ++ slot ∷ [] } else record n { counts = one_difference n.counts })

-- one more, where there is one: slot 0 is none. One that there is no room for is a difference
abbrev pub with_node : ℕ → Notes → Notes
with_node slot n = (if nat_eq slot 0 then n else with_pending slot n)

-- whether all rows and nodes that were due are compared
abbrev pub all_compared : Notes → Bool
all_compared n = nat_eq n.rows_done n.rows_due && nat_eq (length n.pending) 0

-- nothing is due any more: what was due and is not compared is a difference
abbrev pub settled : Notes → Notes
settled n =
    record n {
      counts = (if all_compared n then n.counts else one_difference n.counts);
      rows_due = 0;
      rows_done = 0;
      pending = [];
    }

-- the counts after row `done` of so many words is compared. One that is not in the words is a difference
abbrev pub with_row : List ℕ → List ℕ → ℕ → Counts → Counts
with_row rows recorded done c =
    (if nat_lt done (length rows / 3) then with_compared 3 (differing_words (slice_range rows (3 * done) (3 * done + 3)) recorded) c else one_difference c)

-- the next row is compared, and then the one behind it is the next
abbrev pub after_row : List ℕ → List ℕ → Notes → Notes
after_row rows recorded n =
    record n { counts = with_row rows recorded n.rows_done n.counts; rows_done = more 1 n.rows_done }
