-- What the computed examples are written in: calls in a row with the answers that are due. From formatted words on,
-- each call is made on all words of the pool that the call before it left. Assumes nothing.
use Prim.Native.Nat.{ℕ, ◌+◌, ◌*◌}
use mathlib.Core.List.{List, [], ◌∷◌, ◌++◌, map}
use lib.IntN.{ℤ, pos}
use lib.ListN.{length, replicate}
use Rattle.rules.specs.Range.{End, excluded, order, order_numbers, range_to, overlaps}
use Rattle.rules.specs.Balance.{balance}
use Rattle.rules.specs.Pool.{words, capacity, right_length, good}
use Rattle.rules.specs.Held.{held, reading, tree_at, chain_at}
use Rattle.rules.specs.Stored.{slot_word}
use Rattle.rules.specs.Request.{Request, inserting, deleting, serve}
use Rattle.rules.specs.Record.{reads}
use Rattle.rules.specs.Entries.{Told, Queried, Applied, Fed}
use Rattle.rules.specs.Entries.{format, check, edit, size_of, height_of, is_empty, query, apply, feed}

-- only a name for the definitions that the entries compute with: who unfolds this name unfolds them all
unfoldable pub entries_computed : ℕ
unfolding
    format check edit size_of height_of is_empty query apply feed
    serve reads held reading tree_at chain_at slot_word words capacity right_length good
    balance order order_numbers range_to overlaps
entries_computed = 0

-- the calls: `edits` stands for insert, delete, delete-min, delete-max and clear; a query and a record are given the
-- run of words that is lent for rows; `shows` is no entry and looks at all words of the pool
pub data Call : Type 0 where
  edits : Request → Call
  queries : End → ℕ → ℕ → List ℕ → Call
  applies : List ℕ → List ℕ → Call
  feeds : List ℕ → Call
  checks asks_size asks_height asks_empty shows : Call

-- what comes back: a number; with a query the count and all words of the run; with a record the bytes taken, the count
-- and the run; with a feed the records and their bytes; with size, height and `is_empty` what they tell
pub data Answer : Type 0 where
  number : ℕ → Answer
  found : ℕ → ℕ → List ℕ → Answer
  applied : ℕ → ℕ → ℕ → List ℕ → Answer
  fed : ℕ → ℕ → ℕ → Answer
  told : ℕ → ℤ → Answer
  all_words : List ℕ → Answer

abbrev found_by : Queried → Answer
found_by q = found q.number q.count q.run

abbrev applied_by : Applied → Answer
applied_by a = applied a.number a.taken a.count a.run

abbrev fed_by : Fed → Answer
fed_by f = fed f.number f.records f.taken

abbrev told_by : {A : Type 0} → (A → ℤ) → Told A → Answer
told_by as-integer t = told t.number (as-integer t.told)

-- what a call on all words of a pool answers
abbrev answer_on : List ℕ → Call → Answer
answer_on ws (edits request) = number (edit request ws).number
answer_on ws (queries end a b run) = found_by (query end a b ws run)
answer_on ws (applies bytes run) = applied_by (apply bytes ws run)
answer_on ws (feeds bytes) = fed_by (feed bytes ws)
answer_on ws checks = number (check ws)
answer_on ws asks_size = told_by pos (size_of ws)
answer_on ws asks_height = told_by (λ z. z) (height_of ws)
answer_on ws asks_empty = told_by pos (is_empty ws)
answer_on ws shows = all_words ws

-- and what it leaves of them
abbrev after : List ℕ → Call → List ℕ
after ws (edits request) = (edit request ws).words
after ws (queries end a b run) = ws
after ws (applies bytes run) = (apply bytes ws run).words
after ws (feeds bytes) = (feed bytes ws).words
after ws checks = ws
after ws asks_size = ws
after ws asks_height = ws
after ws asks_empty = ws
after ws shows = ws

-- a call with the answer that is due
pub record Turn : Type 0 where
  pub call : Call
  pub answer : Answer

infix 80 ◌gives◌
abbrev pub ◌gives◌ : Call → Answer → Turn
c gives a = record { call = c; answer = a }

-- a row of a table: how many slots its pool has, and its calls in order
pub record TableRow : Type 0 where
  pub slots : ℕ
  pub turns : List Turn

abbrev pub row : ℕ → List Turn → TableRow
row c turns = record { slots = c; turns = turns }

-- the answers of calls made one after the other, the first on the given words
abbrev pub answers_on : List ℕ → List Turn → List Answer
answers_on ws [] = []
answers_on ws (t ∷ turns) = answer_on ws t.call ∷ answers_on (after ws t.call) turns

-- and those that are due
abbrev pub due : List Turn → List Answer
due turns = map (λ (t : Turn). t.answer) turns

-- the answers of a row's calls, made on words that were all 9 and have been formatted
abbrev pub answers : TableRow → List Answer
answers r = answers_on (format (replicate (4 + 6 * r.slots) 9)).words r.turns

-- and those that are due
abbrev pub due_answers : TableRow → List Answer
due_answers r = due r.turns

-- the turns that stand most often, written as in document 01; their ends are excluded
infix 80 insert◌‥◌value◌gives◌ delete◌‥◌gives◌ query◌‥◌lists◌
abbrev pub insert◌‥◌value◌gives◌ : ℕ → ℕ → ℕ → ℕ → Turn
insert a ‥ b value v gives n = edits (inserting excluded a b v) gives number n

abbrev pub delete◌‥◌gives◌ : ℕ → ℕ → ℕ → Turn
delete a ‥ b gives n = edits (deleting excluded a b) gives number n

abbrev pub size_is : ℕ → Turn
size_is n = asks_size gives told 0 (pos n)

abbrev pub height_is : ℕ → Turn
height_is n = asks_height gives told 0 (pos n)

-- a run with rows in it, and three words of room after them
abbrev pub run_of : List (List ℕ) → List ℕ
run_of [] = 0 ∷ 0 ∷ 0 ∷ []
run_of (r ∷ rows) = r ++ run_of rows

-- a query finds these rows and no other, in this order: it is lent room for one row more
abbrev pub query◌‥◌lists◌ : ℕ → ℕ → List (List ℕ) → Turn
query a ‥ b lists rows =
    queries excluded a b (run_of (map (λ r. 0 ∷ 0 ∷ 0 ∷ []) rows)) gives found 0 (length rows) (run_of rows)

-- a run that is lent for rows; "only kind 9 writes to the hit run"
abbrev pub lent : List ℕ
lent = 7 ∷ 7 ∷ 7 ∷ 7 ∷ []

-- a record that is no query, or hits nothing: its number and the bytes taken
infix 80 ◌yields◌taking◌
abbrev pub ◌yields◌taking◌ : List ℕ → ℕ → ℕ → Turn
bytes yields n taking k = applies bytes lent gives applied n k 0 lent

-- "'n' means n..n+1"; its value is n here
abbrev pub units : List ℕ → List (List ℕ)
units ns = map (λ n. n ∷ (n + 1) ∷ n ∷ []) ns

abbrev pub insert_units : List ℕ → List Turn
insert_units ns = map (λ n. insert n ‥ n + 1 value n gives 0) ns
