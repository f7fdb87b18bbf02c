-- Computed examples of survey records, applied one by one and fed: each kind and unit, the order of bytes, records that
-- are refused, and what a feed counts. Assumes nothing.
use Prim.Native.Nat.{ℕ, ◌+◌, ◌-◌, ◌^◌}
use mathlib.Core.List.{List, [], ◌∷◌, ◌++◌}
use mathlib.Core.Path.{◌≡◌, refl}
use lib.ListN.{replicate}
use Rattle.rules.proofs.Calls.{entries_computed, TableRow, row, answers, due_answers}
use Rattle.rules.proofs.Calls.{applies, feeds, shows, applied, fed, all_words, ◌gives◌}
use Rattle.rules.proofs.Calls.{query◌‥◌lists◌, size_is, lent, ◌yields◌taking◌, units}

-- a number below 256 as eight bytes, and eight bytes of 255 for 2^64 - 1
abbrev u64 : ℕ → List ℕ
u64 n = n ∷ replicate 7 0

abbrev greatest : List ℕ
greatest = replicate 8 255

-- "numbers little-endian"; "A metre is 1,000,000 micrometres. A link is 201,168"; "Start and end are both multiplied by
-- the kind's factor. Kind 4 adds one to the end.": 1 m to 4,294,967,295 m with value 2^56, 3 to 258 links, numbers with
-- eight different bytes, and an included end
abbrev every_unit : TableRow
every_unit =
    row 4
    ((1 ∷ 1 ∷ 0 ∷ 0 ∷ 0 ∷ 255 ∷ 255 ∷ 255 ∷ 255 ∷ 0 ∷ 0 ∷ 0 ∷ 0 ∷ 0 ∷ 0 ∷ 0 ∷ 1 ∷ []) yields 0 taking 17
    ∷ query 0 ‥ 2000000 lists ((1000000 ∷ 4294967295000000 ∷ 2 ^ 56 ∷ []) ∷ [])
    ∷ (8 ∷ []) yields 0 taking 1
    ∷ (2 ∷ 3 ∷ 0 ∷ 0 ∷ 0 ∷ 2 ∷ 1 ∷ 0 ∷ 0 ∷ u64 7) yields 0 taking 17
    ∷ query 0 ‥ 2000000 lists ((603504 ∷ 51901344 ∷ 7 ∷ []) ∷ [])
    ∷ (8 ∷ []) yields 0 taking 1
    ∷ ((3 ∷ 1 ∷ 2 ∷ 3 ∷ 4 ∷ 5 ∷ 6 ∷ 7 ∷ 8 ∷ []) ++ greatest ++ u64 7) yields 0 taking 25
    ∷ query 0 ‥ 2 ^ 64 - 1 lists ((578437695752307201 ∷ (2 ^ 64 - 1) ∷ 7 ∷ []) ∷ [])
    ∷ (8 ∷ []) yields 0 taking 1
    ∷ ((4 ∷ u64 5) ++ u64 9 ++ u64 7) yields 0 taking 25
    ∷ query 0 ‥ 99 lists ((5 ∷ 10 ∷ 7 ∷ []) ∷ [])
    ∷ [])

pub every_unit-holds : answers every_unit ≡ due_answers every_unit
unfolding entries_computed
every_unit-holds = refl

-- the record of kind 3 that inserts n, and that of kind 9 that asks for a..b
abbrev put : ℕ → List ℕ
put n = (3 ∷ u64 n) ++ u64 (n + 1) ++ u64 n

abbrev ask : ℕ → ℕ → List ℕ
ask a b = (9 ∷ u64 a) ++ u64 b

-- kinds 5 to 9; "hits 0 but for kind 9"; "bytes after the record are ignored"; 1 and 2 are no refusals, so that the
-- bytes are taken
abbrev every_kind : TableRow
every_kind =
    row 4
    (put 1 yields 0 taking 25
    ∷ put 3 yields 0 taking 25
    ∷ put 5 yields 0 taking 25
    ∷ put 7 yields 0 taking 25
    ∷ put 7 yields 1 taking 25
    ∷ put 9 yields 13 taking 0
    ∷ applies (ask 3 4 ++ put 9) lent gives applied 0 17 1 (3 ∷ 4 ∷ 3 ∷ 7 ∷ [])
    ∷ applies (ask 0 9) lent gives applied 0 17 4 (3 ∷ 4 ∷ 3 ∷ 7 ∷ [])
    ∷ ((5 ∷ u64 5) ++ u64 6) yields 0 taking 17
    ∷ ((5 ∷ u64 5) ++ u64 6) yields 2 taking 17
    ∷ (6 ∷ 6 ∷ []) yields 0 taking 1
    ∷ query 0 ‥ 9 lists units (3 ∷ 7 ∷ [])
    ∷ (7 ∷ []) yields 0 taking 1
    ∷ query 0 ‥ 9 lists units (3 ∷ [])
    ∷ (6 ∷ []) yields 0 taking 1
    ∷ (6 ∷ []) yields 2 taking 1
    ∷ [])

pub every_kind-holds : answers every_kind ≡ due_answers every_kind
unfolding entries_computed
every_kind-holds = refl

-- "14 | kind not in the table", before "15 | no bytes, or body cut short"; each body is cut short where one byte lacks,
-- and 15 comes before 12
abbrev refused_records : TableRow
refused_records =
    row 1
    ((0 ∷ []) yields 14 taking 0
    ∷ (10 ∷ []) yields 14 taking 0
    ∷ (255 ∷ replicate 24 0) yields 14 taking 0
    ∷ [] yields 15 taking 0
    ∷ (1 ∷ replicate 15 0) yields 15 taking 0
    ∷ (2 ∷ replicate 15 0) yields 15 taking 0
    ∷ (3 ∷ replicate 23 0) yields 15 taking 0
    ∷ (4 ∷ replicate 23 255) yields 15 taking 0
    ∷ (5 ∷ replicate 15 0) yields 15 taking 0
    ∷ (9 ∷ replicate 15 0) yields 15 taking 0
    ∷ (4 ∷ replicate 24 255) yields 12 taking 0
    ∷ size_is 0
    ∷ [])

pub refused_records_hold : answers refused_records ≡ due_answers refused_records
unfolding entries_computed
refused_records_hold = refl

-- "A feed .. applies records until the bytes end (0, even with no bytes) or one is refused. It returns that number, the
-- records applied and their bytes"; "Earlier records stay applied; the refused one changes nothing. 1 and 2 don't stop
-- it and count as applied."; "14 | kind not in the table (in a feed, also 9)", also where one of kind 9 is cut short
abbrev feedings : TableRow
feedings =
    row 1
    (feeds [] gives fed 0 0 0
    ∷ feeds (put 1 ++ put 1 ++ (6 ∷ 6 ∷ []) ++ put 3) gives fed 0 5 77
    ∷ query 0 ‥ 9 lists units (3 ∷ [])
    ∷ feeds ((8 ∷ []) ++ put 4 ++ put 5 ++ (8 ∷ [])) gives fed 13 2 26
    ∷ shows gives all_words (1 ∷ 0 ∷ 1 ∷ 0 ∷ 4 ∷ 5 ∷ 4 ∷ 5 ∷ 0 ∷ 65536 ∷ [])
    ∷ feeds ((8 ∷ []) ++ put 6 ++ ask 0 9) gives fed 14 2 26
    ∷ query 0 ‥ 9 lists units (6 ∷ [])
    ∷ feeds (9 ∷ []) gives fed 14 0 0
    ∷ feeds (6 ∷ 0 ∷ 8 ∷ []) gives fed 14 1 1
    ∷ feeds (put 1 ++ (3 ∷ replicate 23 0)) gives fed 15 1 25
    ∷ feeds (6 ∷ 4 ∷ replicate 24 255) gives fed 12 1 1
    ∷ size_is 0
    ∷ [])

pub feedings_hold : answers feedings ≡ due_answers feedings
unfolding entries_computed
feedings_hold = refl
