-- Survey records as one who writes them has them: document 01, "Survey records", from what a record says to its bytes,
-- what it asks, and what a feed of records comes to. What is read from bytes stands in Record.antt and Feed.antt, of
-- which only the two units and the counts of a feed are taken.
use Rattle.std.specs.Prelude.{ℕ, zero, suc, ◌+◌, ◌*◌, ◌/◌, ◌%◌, ◌^◌, ◌<◌, cond, List, [], ◌∷◌, ◌++◌, leb, eqb, length}
use Rattle.rules.specs.Limits.{beyond}
use Rattle.rules.specs.Range.{excluded, included}
use Rattle.rules.specs.Balance.{left, right}
use Rattle.rules.specs.Request.{Request, Served, inserting, deleting, deleting_end, clearing, querying}
use Rattle.rules.specs.Record.{metre, link}
use Rattle.rules.specs.Feed.{Feeding}

-- "numbers little-endian": the n bytes of a number, the lowest first
abbrev pub bytes_of : ℕ → ℕ → List ℕ
bytes_of zero x = []
bytes_of (suc n) x = x % 256 ∷ bytes_of n (x / 256)

-- the bytes of "u32" and of "u64"
abbrev pub u32 : ℕ → List ℕ
u32 x = bytes_of 4 x

abbrev pub u64 : ℕ → List ℕ
u64 x = bytes_of 8 x

-- what a record says, a case for each kind of the table, with its numbers in order: start, end and, of an insert, value
pub data Survey : Type 0 where
  insert_metres insert_links insert_micrometres insert_included : ℕ → ℕ → ℕ → Survey
  delete_range : ℕ → ℕ → Survey
  delete_min delete_max clear_all : Survey
  query_range : ℕ → ℕ → Survey

-- "Kind": the table's first column
abbrev pub kind_of : Survey → ℕ
kind_of (insert_metres a b v) = 1
kind_of (insert_links a b v) = 2
kind_of (insert_micrometres a b v) = 3
kind_of (insert_included a b v) = 4
kind_of (delete_range a b) = 5
kind_of delete_min = 6
kind_of delete_max = 7
kind_of clear_all = 8
kind_of (query_range a b) = 9

-- "Meaning": its second column. "Start and end are both multiplied by the kind's factor."
abbrev pub asks : Survey → Request
asks (insert_metres a b v) = inserting excluded (metre * a) (metre * b) v
asks (insert_links a b v) = inserting excluded (link * a) (link * b) v
asks (insert_micrometres a b v) = inserting excluded a b v
asks (insert_included a b v) = inserting included a b v
asks (delete_range a b) = deleting excluded a b
asks delete_min = deleting_end left
asks delete_max = deleting_end right
asks clear_all = clearing
asks (query_range a b) = querying excluded a b

-- "Body": its third column, "start u32, end u32, value u64", "three u64", "two u64" or nothing
abbrev pub body_of : Survey → List ℕ
body_of (insert_metres a b v) = u32 a ++ u32 b ++ u64 v
body_of (insert_links a b v) = u32 a ++ u32 b ++ u64 v
body_of (insert_micrometres a b v) = u64 a ++ u64 b ++ u64 v
body_of (insert_included a b v) = u64 a ++ u64 b ++ u64 v
body_of (delete_range a b) = u64 a ++ u64 b
body_of delete_min = []
body_of delete_max = []
body_of clear_all = []
body_of (query_range a b) = u64 a ++ u64 b

-- "One byte of kind, then a body whose length the kind fixes"
abbrev pub encode : Survey → List ℕ
encode s = kind_of s ∷ body_of s

-- each number fits its bytes: a u32 is below 2^32, a u64 below 2^64
abbrev pub Fits : Survey → Type 0
Fits (insert_metres a b v) = (a < 2 ^ 32) × (b < 2 ^ 32) × (v < beyond)
Fits (insert_links a b v) = (a < 2 ^ 32) × (b < 2 ^ 32) × (v < beyond)
Fits (insert_micrometres a b v) = (a < beyond) × (b < beyond) × (v < beyond)
Fits (insert_included a b v) = (a < beyond) × (b < beyond) × (v < beyond)
Fits (delete_range a b) = (a < beyond) × (b < beyond)
Fits delete_min = Unit {0}
Fits delete_max = Unit {0}
Fits clear_all = Unit {0}
Fits (query_range a b) = (a < beyond) × (b < beyond)

-- the bytes of records in a row
abbrev pub encode_all : List Survey → List ℕ
encode_all [] = []
encode_all (s ∷ ss) = encode s ++ encode_all ss

-- what a feed comes to with its first record, which is answered so, and what the rest of it would come to: "14 | .. (in
-- a feed, also 9)"; "Refusals are the numbers from 10 up"; "the refused one changes nothing. 1 and 2 don't stop it and
-- count as applied."
abbrev pub feed_first : {S H : Type 0} → Survey → Served S H → S → Feeding S → Feeding S
feed_first s answer u rest =
    cond (eqb (kind_of s) 9) (record { number = 14; records = 0; taken = 0; left = u })
    (cond (leb 10 answer.number) (record { number = answer.number; records = 0; taken = 0; left = u })
    (record {
      number = rest.number;
      records = suc rest.records;
      taken = length (encode s) + rest.taken;
      left = rest.left;
    }))

-- "applies records until the bytes end (0, even with no bytes) or one is refused"
abbrev pub feed_said : {S H : Type 0} → (Request → S → Served S H) → List Survey → S → Feeding S
feed_said answers [] u = record { number = 0; records = 0; taken = 0; left = u }
feed_said answers (s ∷ ss) u =
    feed_first s (answers (asks s) u) u (feed_said answers ss (answers (asks s) u).left)
