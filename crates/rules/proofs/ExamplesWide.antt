-- Computed examples of wide numbers and of ends: records in which no two bytes are alike, inverted ranges with an
-- included end, and included ends that touch. Assumes nothing.
use Prim.Native.Nat.{ℕ, ◌-◌, ◌^◌}
use mathlib.Core.List.{List, [], ◌∷◌, ◌++◌}
use mathlib.Core.Path.{◌≡◌, refl}
use lib.ListN.{replicate}
use Rattle.rules.specs.Range.{included}
use Rattle.rules.specs.Request.{inserting, deleting}
use Rattle.rules.proofs.Calls.{entries_computed, Turn, TableRow, row, answers, due_answers}
use Rattle.rules.proofs.Calls.{edits, queries, applies, feeds, number, found, applied, fed, ◌gives◌}
use Rattle.rules.proofs.Calls.{delete◌‥◌gives◌, query◌‥◌lists◌, size_is, lent, ◌yields◌taking◌}

-- eight bytes, and their number: 1 + 2 × 256 + 3 × 65,536 and so on
abbrev first : List ℕ
first = 1 ∷ 2 ∷ 3 ∷ 4 ∷ 5 ∷ 6 ∷ 7 ∷ 8 ∷ []

abbrev first_number : ℕ
first_number = 578437695752307201

-- eight more; they begin with 9, and the number above theirs with 10
abbrev second_from : ℕ → List ℕ
second_from n = n ∷ 10 ∷ 11 ∷ 12 ∷ 13 ∷ 14 ∷ 15 ∷ 16 ∷ []

abbrev second : List ℕ
second = second_from 9

abbrev second_number : ℕ
second_number = 1157159078456920585

abbrev above_second : ℕ
above_second = 1157159078456920586

-- and the last eight
abbrev third : List ℕ
third = 17 ∷ 18 ∷ 19 ∷ 20 ∷ 21 ∷ 22 ∷ 23 ∷ 24 ∷ []

abbrev third_number : ℕ
third_number = 1735880461161533969

-- the pool has this one entry, as a query of all positions finds it
abbrev holds : ℕ → ℕ → ℕ → Turn
holds a b v = query 0 ‥ 2 ^ 64 - 1 lists ((a ∷ b ∷ v ∷ []) ∷ [])

-- the record of kind 8
abbrev clears : Turn
clears = (8 ∷ []) yields 0 taking 1

-- Every byte of every number counts. Kinds 1 and 2: start 67,305,985, end 134,678,021, and the second number as value.
-- Kinds 3 and 4: "Kind 4 adds one to the end". Kind 9: up to a position of the entry and from its last one on, and then
-- only up to its start and from its end on. Kind 5: with another end, and with the entry's.
abbrev wide : TableRow
wide =
    row 1
    ((1 ∷ first ++ second) yields 0 taking 17
    ∷ holds 67305985000000 134678021000000 second_number
    ∷ clears
    ∷ (2 ∷ first ++ second) yields 0 taking 17
    ∷ holds 13539810390480 27092908128528 second_number
    ∷ clears
    ∷ (3 ∷ first ++ second ++ third) yields 0 taking 25
    ∷ holds first_number second_number third_number
    ∷ clears
    ∷ (4 ∷ first ++ second ++ third) yields 0 taking 25
    ∷ holds first_number above_second third_number
    ∷ applies (9 ∷ first ++ second) lent gives applied 0 17 1 (first_number ∷ above_second ∷ third_number ∷ 7 ∷ [])
    ∷ applies (9 ∷ second ++ third) lent gives applied 0 17 1 (first_number ∷ above_second ∷ third_number ∷ 7 ∷ [])
    ∷ (9 ∷ replicate 8 0 ++ first) yields 0 taking 17
    ∷ (9 ∷ second_from 10 ++ third) yields 0 taking 17
    ∷ (5 ∷ first ++ second) yields 2 taking 17
    ∷ (5 ∷ first ++ second_from 10) yields 0 taking 17
    ∷ size_is 0
    ∷ [])

pub wide-holds : answers wide ≡ due_answers wide
unfolding entries_computed
wide-holds = refl

-- the same records in a feed: four inserts, and a delete of the third
abbrev wide_feed : TableRow
wide_feed =
    row 4
    (feeds
    ((1 ∷ first ++ second)
    ++ (2 ∷ first ++ second)
    ++ (3 ∷ first ++ second ++ third)
    ++ (4 ∷ first ++ second ++ third)
    ++ (5 ∷ first ++ second)) gives fed 0 5 101
    ∷ size_is 3
    ∷ delete 67305985000000 ‥ 134678021000000 gives 0
    ∷ delete 13539810390480 ‥ 27092908128528 gives 0
    ∷ delete first_number ‥ above_second gives 0
    ∷ [])

pub wide_feed-holds : answers wide_feed ≡ due_answers wide_feed
unfolding entries_computed
wide_feed-holds = refl

-- "Empty and inverted ranges may be stored", with an included end too: 9 to 3 is 9..4 and 9 to 8 is 9..9, by an edit
-- and by kind 4. Asked so, they hit nothing.
abbrev inverted : TableRow
inverted =
    row 2
    (edits (inserting included 9 3 1) gives number 0
    ∷ edits (inserting included 9 8 2) gives number 0
    ∷ edits (inserting included 9 3 3) gives number 1
    ∷ delete 9 ‥ 4 gives 0
    ∷ delete 9 ‥ 9 gives 0
    ∷ ((4 ∷ 9 ∷ replicate 7 0) ++ (3 ∷ replicate 7 0) ++ first) yields 0 taking 25
    ∷ edits (inserting included 0 20 4) gives number 0
    ∷ queries included 9 3 lent gives found 0 0 lent
    ∷ queries included 9 8 lent gives found 0 0 lent
    ∷ edits (deleting included 9 3) gives number 0
    ∷ edits (deleting included 9 3) gives number 2
    ∷ holds 0 21 4
    ∷ [])

pub inverted-holds : answers inverted ≡ due_answers inverted
unfolding entries_computed
inverted-holds = refl

-- "Insert, delete and query take the end either excluded or included": 0 to 5 and 5 to 9 share position 5 where both
-- ends are included, and 0 to 5 and 6 to 9 share none
abbrev touching : TableRow
touching =
    row 2
    (edits (inserting included 0 5 1) gives number 0
    ∷ queries included 5 9 lent gives found 0 1 (0 ∷ 6 ∷ 1 ∷ 7 ∷ [])
    ∷ queries included 6 9 lent gives found 0 0 lent
    ∷ edits (inserting included 5 9 2) gives number 0
    ∷ queries included 0 4 lent gives found 0 1 (0 ∷ 6 ∷ 1 ∷ 7 ∷ [])
    ∷ queries included 9 9 lent gives found 0 1 (5 ∷ 10 ∷ 2 ∷ 7 ∷ [])
    ∷ queries included 10 10 lent gives found 0 0 lent
    ∷ query 0 ‥ 5 lists ((0 ∷ 6 ∷ 1 ∷ []) ∷ [])
    ∷ query 5 ‥ 6 lists ((0 ∷ 6 ∷ 1 ∷ []) ∷ (5 ∷ 10 ∷ 2 ∷ []) ∷ [])
    ∷ [])

pub touching_hold : answers touching ≡ due_answers touching
unfolding entries_computed
touching_hold = refl
