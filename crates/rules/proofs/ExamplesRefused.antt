-- Computed examples of what is refused, and of the order in which the numbers are given: ends, full pools, wrong
-- lengths, damaged words and a range twice. Assumes nothing.
use Prim.Native.Nat.{ℕ, ◌+◌, ◌-◌, ◌*◌, ◌^◌}
use mathlib.Core.List.{List, [], ◌∷◌, ◌++◌, map}
use mathlib.Core.Path.{◌≡◌, refl}
use lib.IntN.{pos}
use lib.ListN.{replicate, set}
use Rattle.rules.specs.Range.{included}
use Rattle.rules.specs.Balance.{left}
use Rattle.rules.specs.Request.{inserting, deleting, deleting_end, clearing}
use Rattle.rules.specs.Entries.{format, check}
use Rattle.rules.proofs.Calls.{entries_computed, Turn, TableRow, row, answers, due_answers, answers_on, due}
use Rattle.rules.proofs.Calls.{edits, queries, applies, feeds, checks, asks_size, asks_height, asks_empty, shows}
use Rattle.rules.proofs.Calls.{number, found, applied, fed, told, all_words, ◌gives◌}
use Rattle.rules.proofs.Calls.{insert◌‥◌value◌gives◌, delete◌‥◌gives◌, size_is}

abbrev last_end : ℕ
last_end = 2 ^ 64 - 1

-- "12 | included end is 2^64 - 1" comes before 1, 2 and 13, also where a wrapped or an unraised end would name a range
-- that is there; "13 | no free slot and the range is new", so that a range that is there gives 1. A refused query
-- writes nothing.
abbrev full_pool : TableRow
full_pool =
    row 2
    (insert 5 ‥ 0 value 1 gives 0
    ∷ insert 5 ‥ last_end value 2 gives 0
    ∷ edits (inserting included 5 last_end 3) gives number 12
    ∷ edits (deleting included 5 last_end) gives number 12
    ∷ queries included 5 last_end (7 ∷ 7 ∷ 7 ∷ []) gives found 12 0 (7 ∷ 7 ∷ 7 ∷ [])
    ∷ edits (inserting included 5 (last_end - 1) 3) gives number 1
    ∷ insert 6 ‥ 9 value 3 gives 13
    ∷ delete 6 ‥ 9 gives 2
    ∷ queries included 9 9 (7 ∷ 7 ∷ 7 ∷ []) gives found 0 1 (5 ∷ last_end ∷ 2 ∷ [])
    ∷ edits (deleting included 5 (last_end - 1)) gives number 0
    ∷ insert 6 ‥ 9 value 3 gives 0
    ∷ [])

pub full_pool-holds : answers full_pool ≡ due_answers full_pool
unfolding entries_computed
full_pool-holds = refl

-- every entry but format refuses the words with this number, before it reads a record of no kind (14): "counts 0,
-- nothing changed"; what is told is 0
abbrev refusing : ℕ → List ℕ → List Turn
refusing n ws =
    checks gives number n
    ∷ insert 1 ‥ 2 value 3 gives n
    ∷ delete 1 ‥ 2 gives n
    ∷ edits (deleting_end left) gives number n
    ∷ edits clearing gives number n
    ∷ asks_size gives told n (pos 0)
    ∷ asks_height gives told n (pos 0)
    ∷ asks_empty gives told n (pos 0)
    ∷ queries included 0 last_end (7 ∷ 7 ∷ 7 ∷ []) gives found n 0 (7 ∷ 7 ∷ 7 ∷ [])
    ∷ applies (99 ∷ []) (7 ∷ 7 ∷ 7 ∷ []) gives applied n 0 0 (7 ∷ 7 ∷ 7 ∷ [])
    ∷ feeds (8 ∷ []) gives fed n 0 0
    ∷ shows gives all_words ws
    ∷ []

-- "10 | pool length isn't 4 + 6c", whatever the words are; "Format gives only 0 or 10"
pub format-refused : format (9 ∷ 9 ∷ []) ≡ record { number = 10; words = 9 ∷ 9 ∷ [] }
unfolding entries_computed
format-refused = refl

pub lengths_refused :
    map (λ n. answers_on (replicate n 9) (refusing 10 (replicate n 9))) (0 ∷ 4 ∷ 9 ∷ 15 ∷ [])
    ≡ map (λ n. due (refusing 10 (replicate n 9))) (0 ∷ 4 ∷ 9 ∷ 15 ∷ [])
unfolding entries_computed
lengths_refused = refl

-- a sound pool of three slots: 20 in slot 1, 10 to its left in slot 2, and slot 3 free
abbrev sound_words : List ℕ
sound_words =
    (1 ∷ 3 ∷ 2 ∷ 0 ∷ [])
    ++ (20 ∷ 21 ∷ 20 ∷ 21 ∷ 2 ∷ (1 + 65536 * 2) ∷ [])
    ++ (10 ∷ 11 ∷ 10 ∷ 11 ∷ 0 ∷ 65536 ∷ [])
    ++ replicate 6 0

-- the same with one word changed
abbrev with_word : ℕ → ℕ → List ℕ
with_word i w = set sound_words i w

-- what is not sound, by one word or by its shape
abbrev damaged : List (List ℕ)
damaged =
    -- the header: another root, no free slot, a live slot as the first free one, the live count, word 3
    with_word 0 2
    ∷ with_word 1 0
    ∷ with_word 1 2
    ∷ with_word 2 3
    ∷ with_word 3 1
    -- slot 1: a start below its left child's, a smaller max
    ∷ with_word 4 9
    ∷ with_word 7 20
    -- its links: no child, itself, slot 2 twice, slot 2 on the right, a bit above the halves
    ∷ with_word 8 0
    ∷ with_word 8 1
    ∷ with_word 8 (2 + 65536 * 2)
    ∷ with_word 8 (65536 * 2)
    ∷ with_word 8 (2 + 65536 * 65536)
    -- its shape: height, size, a bit above the halves
    ∷ with_word 9 (2 + 65536 * 2)
    ∷ with_word 9 (1 + 65536 * 3)
    ∷ with_word 9 (1 + 65536 * 2 + 65536 * 65536)
    -- slot 3, which is free: a value, and a live slot, itself and no slot of the pool as the next free one
    ∷ with_word 18 1
    ∷ with_word 20 1
    ∷ with_word 20 3
    ∷ with_word 20 4
    -- strict order, but a factor of -2
    ∷ ((1 ∷ 0 ∷ 3 ∷ 0 ∷ [])
    ++ (1 ∷ 2 ∷ 1 ∷ 6 ∷ 65536 * 2 ∷ (2 + 65536 * 3) ∷ [])
    ++ (3 ∷ 4 ∷ 3 ∷ 6 ∷ 65536 * 3 ∷ (1 + 65536 * 2) ∷ [])
    ++ (5 ∷ 6 ∷ 5 ∷ 6 ∷ 0 ∷ 65536 ∷ []))
    ∷ []

-- "11 | pool isn't sound"
pub damaged-refused :
    map (λ ws. answers_on ws (refusing 11 ws)) damaged ≡ map (λ ws. due (refusing 11 ws)) damaged
unfolding entries_computed
damaged-refused = refl

-- and the words that were damaged are sound
abbrev on_sound_words : List Turn
on_sound_words = checks gives number 0 ∷ size_is 2 ∷ []

pub sound-kept : answers_on sound_words on_sound_words ≡ due on_sound_words
unfolding entries_computed
sound-kept = refl

-- "strict order": two entries in three slots, 20..21 in slot 1 and a..21 in slot 2, which slot 1's links name
abbrev beside : ℕ → ℕ → List ℕ
beside links a =
    (1 ∷ 3 ∷ 2 ∷ 0 ∷ [])
    ++ (20 ∷ 21 ∷ 7 ∷ 21 ∷ links ∷ (1 + 65536 * 2) ∷ [])
    ++ (a ∷ 21 ∷ 8 ∷ 21 ∷ 0 ∷ 65536 ∷ [])
    ++ replicate 6 0

-- the same range twice, to the left and to the right, is refused
abbrev twice : List (List ℕ)
twice = beside 2 20 ∷ beside (65536 * 2) 20 ∷ []

pub twice-refused : map (λ ws. answers_on ws (refusing 11 ws)) twice ≡ map (λ ws. due (refusing 11 ws)) twice
unfolding entries_computed
twice-refused = refl

-- and with a start one less to the left, one more to the right, the words are sound
pub apart-kept : map check (beside 2 19 ∷ beside (65536 * 2) 21 ∷ []) ≡ 0 ∷ 0 ∷ []
unfolding entries_computed
apart-kept = refl
