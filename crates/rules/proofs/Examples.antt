-- Computed examples on whole words, for what the mapped examples 1 to 10 miss: examples 11 and 12, the slots that
-- removals free, the mirrored rotations, empty and inverted ranges, and the room that a query is lent. Assumes nothing.
use Prim.Native.Nat.{ℕ, ◌+◌, ◌*◌}
use mathlib.Core.List.{List, [], ◌∷◌, ◌++◌, map}
use mathlib.Core.Path.{◌≡◌, refl}
use lib.IntN.{pos, negsuc}
use lib.ListN.{replicate}
use Rattle.rules.specs.Range.{excluded}
use Rattle.rules.specs.Balance.{left, right}
use Rattle.rules.specs.Request.{deleting_end, clearing}
use Rattle.rules.specs.Entries.{format}
use Rattle.rules.proofs.Calls.{entries_computed, Turn, TableRow, row, answers, due_answers}
use Rattle.rules.proofs.Calls.{edits, queries, asks_height, asks_empty, shows}
use Rattle.rules.proofs.Calls.{number, found, told, all_words, ◌gives◌}
use Rattle.rules.proofs.Calls.{insert◌‥◌value◌gives◌, delete◌‥◌gives◌, query◌‥◌lists◌, size_is, height_is}
use Rattle.rules.proofs.Calls.{units, insert_units}

-- the six words of a slot that is free and has no free slot after it
abbrev blank : List ℕ
blank = replicate 6 0

-- Example 11: "Two slots, fresh: 0 1 0 0, then 0 0 0 0 2 0, then six zeros. After 10..20 value 7: 1 2 1 0, then
-- 10 20 7 20 0 65536, then six zeros."
abbrev two_slots : TableRow
two_slots =
    row 2
    (shows gives all_words ((0 ∷ 1 ∷ 0 ∷ 0 ∷ []) ++ (0 ∷ 0 ∷ 0 ∷ 0 ∷ 2 ∷ 0 ∷ []) ++ blank)
    ∷ insert 10 ‥ 20 value 7 gives 0
    ∷ shows gives all_words ((1 ∷ 2 ∷ 1 ∷ 0 ∷ []) ++ (10 ∷ 20 ∷ 7 ∷ 20 ∷ 0 ∷ 65536 ∷ []) ++ blank)
    ∷ [])

pub two_slots_hold : answers two_slots ≡ due_answers two_slots
unfolding entries_computed
two_slots_hold = refl

-- Example 12: "Lengths 4, 15 and 24,575 give 10; 10 and 24,574 are right lengths."; and 24,580 are 4,096 slots
pub wrong_lengths : map (λ n. (format (replicate n 0)).number) (4 ∷ 15 ∷ 24575 ∷ 24580 ∷ []) ≡ 10 ∷ 10 ∷ 10 ∷ 10 ∷ []
unfolding entries_computed
wrong_lengths = refl

pub right_lengths : map (λ n. (format (replicate n 0)).number) (10 ∷ 24574 ∷ []) ≡ 0 ∷ 0 ∷ []
unfolding entries_computed
right_lengths = refl

-- "with both, the smallest entry of the right subtree is installed at the place and removed below"; "A removal frees
-- the removed entry's own slot, which becomes the first free; every other entry keeps its slot number": 20 goes, and
-- 30, which comes to its place, stays in slot 4. The next insert takes slot 1.
abbrev two_children : TableRow
two_children =
    row 6
    (insert_units (20 ∷ 10 ∷ 40 ∷ 30 ∷ 50 ∷ [])
    ++ (delete 20 ‥ 21 gives 0
    ∷ shows gives all_words
    ((4 ∷ 1 ∷ 4 ∷ 0 ∷ [])
    ++ (0 ∷ 0 ∷ 0 ∷ 0 ∷ 6 ∷ 0 ∷ [])
    ++ (10 ∷ 11 ∷ 10 ∷ 11 ∷ 0 ∷ 65536 ∷ [])
    ++ (40 ∷ 41 ∷ 40 ∷ 51 ∷ 65536 * 5 ∷ (1 + 65536 * 2) ∷ [])
    ++ (30 ∷ 31 ∷ 30 ∷ 51 ∷ (2 + 65536 * 3) ∷ (2 + 65536 * 4) ∷ [])
    ++ (50 ∷ 51 ∷ 50 ∷ 51 ∷ 0 ∷ 65536 ∷ [])
    ++ blank)
    ∷ insert 5 ‥ 99 value 8 gives 0
    ∷ shows gives all_words
    ((4 ∷ 6 ∷ 5 ∷ 0 ∷ [])
    ++ (5 ∷ 99 ∷ 8 ∷ 99 ∷ 0 ∷ 65536 ∷ [])
    ++ (10 ∷ 11 ∷ 10 ∷ 99 ∷ 1 ∷ (1 + 65536 * 2) ∷ [])
    ++ (40 ∷ 41 ∷ 40 ∷ 51 ∷ 65536 * 5 ∷ (1 + 65536 * 2) ∷ [])
    ++ (30 ∷ 31 ∷ 30 ∷ 99 ∷ (2 + 65536 * 3) ∷ (2 + 65536 * 5) ∷ [])
    ++ (50 ∷ 51 ∷ 50 ∷ 51 ∷ 0 ∷ 65536 ∷ [])
    ++ blank)
    ∷ []))

pub two_children_hold : answers two_children ≡ due_answers two_children
unfolding entries_computed
two_children_hold = refl

-- "Delete-min and delete-max remove the first and the last in order; on an empty tree nothing happens"; each frees its
-- own slot. "0, -1 and 1 ("yes") on an empty tree". "Clear leaves the words that formatting leaves."
abbrev emptied : TableRow
emptied =
    row 3
    (insert_units (1 ∷ 3 ∷ 5 ∷ [])
    ++ (asks_empty gives told 0 (pos 0)
    ∷ edits (deleting_end left) gives number 0
    ∷ query 0 ‥ 9 lists units (3 ∷ 5 ∷ [])
    ∷ edits (deleting_end right) gives number 0
    ∷ query 0 ‥ 9 lists units (3 ∷ [])
    ∷ edits (deleting_end right) gives number 0
    ∷ edits (deleting_end right) gives number 2
    ∷ edits (deleting_end left) gives number 2
    ∷ shows gives all_words
    ((0 ∷ 2 ∷ 0 ∷ 0 ∷ []) ++ blank ++ (0 ∷ 0 ∷ 0 ∷ 0 ∷ 3 ∷ 0 ∷ []) ++ (0 ∷ 0 ∷ 0 ∷ 0 ∷ 1 ∷ 0 ∷ []))
    ∷ size_is 0
    ∷ asks_height gives told 0 (negsuc 0)
    ∷ asks_empty gives told 0 (pos 1)
    ∷ edits clearing gives number 0
    ∷ shows gives all_words
    ((0 ∷ 1 ∷ 0 ∷ 0 ∷ []) ++ (0 ∷ 0 ∷ 0 ∷ 0 ∷ 2 ∷ 0 ∷ []) ++ (0 ∷ 0 ∷ 0 ∷ 0 ∷ 3 ∷ 0 ∷ []) ++ blank)
    ∷ []))

pub emptied-holds : answers emptied ≡ due_answers emptied
unfolding entries_computed
emptied-holds = refl

-- "Above 1: mirrored. A factor of 0 in the child gives the single rotation.": examples 3, 4 and 6 from the other side
abbrev mirrored : List TableRow
mirrored =
    row 3 (insert_units (5 ∷ 3 ∷ 1 ∷ []) ++ (height_is 1 ∷ query 0 ‥ 9 lists units (3 ∷ 5 ∷ 1 ∷ []) ∷ []))
    ∷ row 3 (insert_units (5 ∷ 1 ∷ 3 ∷ []) ++ (height_is 1 ∷ query 0 ‥ 9 lists units (3 ∷ 5 ∷ 1 ∷ []) ∷ []))
    ∷ row 5
    (insert_units (40 ∷ 50 ∷ 20 ∷ 10 ∷ 30 ∷ [])
    ++ (delete 50 ‥ 51 gives 0 ∷ query 0 ‥ 99 lists units (20 ∷ 40 ∷ 30 ∷ 10 ∷ []) ∷ height_is 2 ∷ []))
    ∷ []

pub mirrored_hold : map answers mirrored ≡ map due_answers mirrored
unfolding entries_computed
mirrored_hold = refl

-- "Ranges are ordered by start, then by end."; "an empty or inverted range overlaps nothing, stored or asked"
abbrev odd_ranges : TableRow
odd_ranges =
    row 5
    (insert 5 ‥ 7 value 1 gives 0
    ∷ insert 5 ‥ 6 value 2 gives 0
    ∷ insert 5 ‥ 8 value 3 gives 0
    ∷ query 5 ‥ 6 lists ((5 ∷ 7 ∷ 1 ∷ []) ∷ (5 ∷ 8 ∷ 3 ∷ []) ∷ (5 ∷ 6 ∷ 2 ∷ []) ∷ [])
    ∷ insert 6 ‥ 6 value 4 gives 0
    ∷ insert 6 ‥ 2 value 5 gives 0
    ∷ query 6 ‥ 7 lists ((5 ∷ 7 ∷ 1 ∷ []) ∷ (5 ∷ 8 ∷ 3 ∷ []) ∷ [])
    ∷ query 6 ‥ 6 lists []
    ∷ query 7 ‥ 5 lists []
    ∷ delete 6 ‥ 6 gives 0
    ∷ delete 6 ‥ 6 gives 2
    ∷ size_is 4
    ∷ [])

pub odd_ranges_hold : answers odd_ranges ≡ due_answers odd_ranges
unfolding entries_computed
odd_ranges_hold = refl

-- "writes start, end, value for the first of them, as many as fit in a lent run of words; later words stay"; "A row
-- needs three words of room"; "the number of hits, all counted": two hits, with n words of room
abbrev with_room : ℕ → List ℕ → Turn
with_room n run = queries excluded 0 9 (replicate n 7) gives found 0 2 run

abbrev rooms : TableRow
rooms =
    row 2
    (insert_units (1 ∷ 3 ∷ [])
    ++ (with_room 0 []
    ∷ with_room 1 (7 ∷ [])
    ∷ with_room 2 (7 ∷ 7 ∷ [])
    ∷ with_room 3 (1 ∷ 2 ∷ 1 ∷ [])
    ∷ with_room 4 (1 ∷ 2 ∷ 1 ∷ 7 ∷ [])
    ∷ with_room 5 (1 ∷ 2 ∷ 1 ∷ 7 ∷ 7 ∷ [])
    ∷ with_room 6 (1 ∷ 2 ∷ 1 ∷ 3 ∷ 4 ∷ 3 ∷ [])
    ∷ with_room 7 (1 ∷ 2 ∷ 1 ∷ 3 ∷ 4 ∷ 3 ∷ 7 ∷ [])
    ∷ []))

pub rooms_hold : answers rooms ≡ due_answers rooms
unfolding entries_computed
rooms_hold = refl
