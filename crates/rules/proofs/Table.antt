-- Document 01's mapped examples 1 to 10: "P marks the table to be proved as a whole, one statement for all its rows".
-- Each row is computed over the entries, on all words of its pool. Assumes nothing.
use Prim.Native.Nat.{◌-◌, ◌^◌}
use mathlib.Core.List.{List, [], ◌∷◌, ◌++◌, map}
use mathlib.Core.Path.{◌≡◌, refl}
use Rattle.rules.specs.Range.{included}
use Rattle.rules.specs.Request.{inserting}
use Rattle.rules.proofs.Calls.{entries_computed, TableRow, row, answers, due_answers}
use Rattle.rules.proofs.Calls.{edits, applies, shows, number, applied, all_words, ◌gives◌}
use Rattle.rules.proofs.Calls.{insert◌‥◌value◌gives◌, delete◌‥◌gives◌, query◌‥◌lists◌, size_is, height_is}
use Rattle.rules.proofs.Calls.{units, insert_units}

abbrev pub table : List TableRow
table =
    -- 1. "0..5 then 5..9; query 0..5: only 0..5. Query 4..6: 0..5, 5..9. Query 5..5: none."
    row 2
    (insert 0 ‥ 5 value 1 gives 0
    ∷ insert 5 ‥ 9 value 2 gives 0
    ∷ query 0 ‥ 5 lists ((0 ∷ 5 ∷ 1 ∷ []) ∷ [])
    ∷ query 4 ‥ 6 lists ((0 ∷ 5 ∷ 1 ∷ []) ∷ (5 ∷ 9 ∷ 2 ∷ []) ∷ [])
    ∷ query 5 ‥ 5 lists []
    ∷ [])
    -- 2. "10..20 value 1, again value 9: answer 1, value stays 1."
    ∷ row 2
    (insert 10 ‥ 20 value 1 gives 0
    ∷ insert 10 ‥ 20 value 9 gives 1
    ∷ query 0 ‥ 99 lists ((10 ∷ 20 ∷ 1 ∷ []) ∷ [])
    ∷ [])
    -- 3. "1, 3, 5: height 1; query 0..9 lists 3, 5, 1."
    ∷ row 3 (insert_units (1 ∷ 3 ∷ 5 ∷ []) ++ (height_is 1 ∷ query 0 ‥ 9 lists units (3 ∷ 5 ∷ 1 ∷ []) ∷ []))
    -- 4. "1, 5, 3: the same list (double rotation)."
    ∷ row 3 (insert_units (1 ∷ 5 ∷ 3 ∷ []) ++ (height_is 1 ∷ query 0 ‥ 9 lists units (3 ∷ 5 ∷ 1 ∷ []) ∷ []))
    -- 5. "case 3, delete 3: list 5, 1, height 1."
    ∷ row 3
    (insert_units (1 ∷ 3 ∷ 5 ∷ [])
    ++ (delete 3 ‥ 4 gives 0 ∷ query 0 ‥ 9 lists units (5 ∷ 1 ∷ []) ∷ height_is 1 ∷ []))
    -- 6. "20, 10, 40, 30, 50, delete 10: query 0..99 lists 40, 50, 20, 30, height 2."
    ∷ row 5
    (insert_units (20 ∷ 10 ∷ 40 ∷ 30 ∷ 50 ∷ [])
    ++ (delete 10 ‥ 11 gives 0 ∷ query 0 ‥ 99 lists units (40 ∷ 50 ∷ 20 ∷ 30 ∷ []) ∷ height_is 2 ∷ []))
    -- 7. "9..3: size 1, max 3; query 0..20 has no hit; delete 9..3 gives 0." Max is the fourth word of the slot.
    ∷ row 1
    (insert 9 ‥ 3 value 7 gives 0
    ∷ size_is 1
    ∷ shows gives all_words (1 ∷ 0 ∷ 1 ∷ 0 ∷ 9 ∷ 3 ∷ 7 ∷ 3 ∷ 0 ∷ 65536 ∷ [])
    ∷ query 0 ‥ 20 lists []
    ∷ delete 9 ‥ 3 gives 0
    ∷ [])
    -- 8. "one slot: 1..2 gives 0, 1..2 gives 1, 3..4 gives 13, delete 1..2 gives 0, 3..4 gives 0."
    ∷ row 1
    (insert 1 ‥ 2 value 5 gives 0
    ∷ insert 1 ‥ 2 value 5 gives 1
    ∷ insert 3 ‥ 4 value 5 gives 13
    ∷ delete 1 ‥ 2 gives 0
    ∷ insert 3 ‥ 4 value 5 gives 0
    ∷ [])
    -- 9. "included 5..9 stores 5..10; included end 2^64 - 1 gives 12; 2^64 - 2 stores 2^64 - 1."
    ∷ row 2
    (edits (inserting included 5 9 1) gives number 0
    ∷ query 0 ‥ 99 lists ((5 ∷ 10 ∷ 1 ∷ []) ∷ [])
    ∷ edits (inserting included 7 (2 ^ 64 - 1) 2) gives number 12
    ∷ edits (inserting included 7 (2 ^ 64 - 2) 2) gives number 0
    ∷ query 0 ‥ 99 lists ((5 ∷ 10 ∷ 1 ∷ []) ∷ (7 ∷ (2 ^ 64 - 1) ∷ 2 ∷ []) ∷ [])
    ∷ [])
    -- 10. "200 links is 40,233,600.": a record of kind 2, from link 100 to link 200
    ∷ row 1
    (applies (2 ∷ 100 ∷ 0 ∷ 0 ∷ 0 ∷ 200 ∷ 0 ∷ 0 ∷ 0 ∷ 7 ∷ 0 ∷ 0 ∷ 0 ∷ 0 ∷ 0 ∷ 0 ∷ 0 ∷ []) [] gives applied 0 17 0 []
    ∷ query 0 ‥ 30000000 lists ((20116800 ∷ 40233600 ∷ 7 ∷ []) ∷ [])
    ∷ [])
    ∷ []

-- every row of the table is answered as document 01 says
pub table-holds : map answers table ≡ map due_answers table
unfolding entries_computed
table-holds = refl
