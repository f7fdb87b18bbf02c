-- One row of a query, in the words of the lent run.
use Rattle.std.specs.Prelude.{ℕ, ◌+◌, ◌*◌, cond, List, leb, length, set}
use Rattle.std.proofs.Math.Option.{Option, none, some}
use Rattle.rules.specs.Tree.{Entry}

-- the run with these three words as its row number n: "A row needs three words of room"
unfoldable pub with_row : List ℕ → ℕ → ℕ → ℕ → ℕ → List ℕ
with_row run n start end value =
    cond (leb (3 * n + 3) (length run)) (set (set (set run (3 * n) start) (3 * n + 1) end) (3 * n + 2) value) run

-- the run with the row of a hit, if there is one
abbrev pub with_hit_row : List ℕ → ℕ → Option Entry → List ℕ
with_hit_row run n none = run
with_hit_row run n (some e) = with_row run n e.range.start e.range.end e.value
