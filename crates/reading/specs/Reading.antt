-- How the code's kinds stand for the rows of the table, and what reading a record answers for what is found.
use Rattle.std.specs.Prelude.{ℕ, List, ◌≡◌, Result, Ok, Err, get_or}
use Rattle.std.proofs.Math.Option.{Option, none, some}
use Rattle.rules.specs.Range.{excluded, included}
use Rattle.rules.specs.Balance.{left, right}
use Rattle.rules.specs.Request.{Request, deleting, deleting_end, clearing, querying}
use Rattle.rules.specs.Record as found
use Rattle.rules.specs.Record.{metre, link, insert_by, insert_exact, with_pair, bare, kinds, feed_kinds, whole, unknown, cut_short}
use Rattle.request.specs.Requests.{request_of}
use Rattle.request.specs.declared.Refusal.{Refusal}
use Rattle.request.specs.declared.Refusal.TheVariants.{WrongLength, Unsound, PastEnd, Full, UnknownKind, CutShort}
use Rattle.reading.specs.declared.Kind.{Kind}
use Rattle.reading.specs.declared.Kind.TheVariants.{InsertMetres, InsertLinks, InsertExcluded, InsertIncluded, Delete, DeleteMin, DeleteMax, Clear, Query}
use Rattle.reading.specs.declared.Record.{Record}

-- the row of a kind of the code
abbrev pub row_of : Kind → found.Kind
row_of InsertMetres = insert_by metre
row_of InsertLinks = insert_by link
row_of InsertExcluded = insert_exact excluded
row_of InsertIncluded = insert_exact included
row_of Delete = with_pair (deleting excluded)
row_of DeleteMin = bare (deleting_end left)
row_of DeleteMax = bare (deleting_end right)
row_of Clear = bare clearing
row_of Query = with_pair (querying excluded)

-- the row of a number, where the table has one
abbrev pub row : ℕ → Option found.Kind
row kind = get_or kinds kind none

-- and where the table of a feed has one
abbrev pub feed_row : ℕ → Option found.Kind
feed_row kind = get_or feed_kinds kind none

-- "a body whose length the kind fixes": what a row fixes
abbrev pub fixed_length : Option found.Kind → Option ℕ
fixed_length none = none
fixed_length (some k) = some k.body_length

-- what a row says that a body asks
abbrev pub said : Option found.Kind → List ℕ → Option Request
said none body = none
said (some k) body = some (k.means body)

-- the number of a kind of the code
abbrev pub kind_number : Kind → ℕ
kind_number InsertMetres = 1
kind_number InsertLinks = 2
kind_number InsertExcluded = 3
kind_number InsertIncluded = 4
kind_number Delete = 5
kind_number DeleteMin = 6
kind_number DeleteMax = 7
kind_number Clear = 8
kind_number Query = 9

-- what is found for a byte: the kind of that number, whose row it has, or no row, and then the kind is unknown
abbrev pub Finds : Option found.Kind → ℕ → Result Kind Refusal → Type 0
Finds its_row byte (Ok kind) = (byte ≡ kind_number kind) × (its_row ≡ some (row_of kind))
Finds its_row byte (Err refusal) = (its_row ≡ none) × (refusal ≡ UnknownKind)

-- a whole record with the bytes that it takes, 14 and 15; no other refusal stands for anything that is found
abbrev pub reading_of : Result Record Refusal → Option found.Reading
reading_of (Ok r) = some (whole (request_of r.request) r.taken)
reading_of (Err UnknownKind) = some unknown
reading_of (Err CutShort) = some cut_short
reading_of (Err WrongLength) = none
reading_of (Err Unsound) = none
reading_of (Err PastEnd) = none
reading_of (Err Full) = none
