-- Survey records: document 01, "Survey records". What is read from any bytes.
use Rattle.std.specs.Prelude.{ℕ, zero, suc, ◌+◌, ◌*◌, cond, List, [], ◌∷◌, leb, length, get_or, take, drop}
use Rattle.std.proofs.Math.Option.{Option, none, some}
use Rattle.rules.specs.Range.{End, excluded, included}
use Rattle.rules.specs.Balance.{left, right}
use Rattle.rules.specs.Request.{Request, inserting, deleting, deleting_end, clearing, querying}

-- "A metre is 1,000,000 micrometres. A link is 201,168"
abbrev pub metre : ℕ
metre = 1000000

abbrev pub link : ℕ
link = 201168

-- "numbers little-endian": the number of the first n bytes
abbrev pub little_endian : ℕ → List ℕ → ℕ
little_endian zero bs = 0
little_endian (suc n) [] = 0
little_endian (suc n) (b ∷ bs) = b + 256 * little_endian n bs

-- a u32 and a u64 of a body, by where they begin
abbrev pub u32_at : ℕ → List ℕ → ℕ
u32_at at body = little_endian 4 (drop at body)

abbrev pub u64_at : ℕ → List ℕ → ℕ
u64_at at body = little_endian 8 (drop at body)

-- "One byte of kind, then a body whose length the kind fixes"
pub record Kind : Type 0 where
  pub body_length : ℕ
  pub means : List ℕ → Request

-- "start u32, end u32, value u64: 16"; "Start and end are both multiplied by the kind's factor."
abbrev pub insert_by : ℕ → Kind
insert_by factor =
    record {
      body_length = 16;
      means = λ body. inserting excluded (factor * u32_at 0 body) (factor * u32_at 4 body) (u64_at 8 body);
    }

-- "three u64: 24". "Kind 4 adds one to the end": its end is included
abbrev pub insert_exact : End → Kind
insert_exact end =
    record { body_length = 24; means = λ body. inserting end (u64_at 0 body) (u64_at 8 body) (u64_at 16 body) }

-- "two u64: 16"
abbrev pub with_pair : (ℕ → ℕ → Request) → Kind
with_pair ask = record { body_length = 16; means = λ body. ask (u64_at 0 body) (u64_at 8 body) }

abbrev pub bare : Request → Kind
bare request = record { body_length = 0; means = λ body. request }

-- the table, by kind: the place in the list is the kind's number, and 0 is none
abbrev pub kinds : List (Option Kind)
kinds =
    none
    ∷ some (insert_by metre)
    ∷ some (insert_by link)
    ∷ some (insert_exact excluded)
    ∷ some (insert_exact included)
    ∷ some (with_pair (deleting excluded))
    ∷ some (bare (deleting_end left))
    ∷ some (bare (deleting_end right))
    ∷ some (bare clearing)
    ∷ some (with_pair (querying excluded))
    ∷ []

-- "14 | kind not in the table (in a feed, also 9)"
abbrev pub feed_kinds : List (Option Kind)
feed_kinds = take 9 kinds

-- what reading one record finds: a request and the bytes that it took, a kind that is not in the table (14), or a
-- record cut short (15)
pub data Reading : Type 0 where
  whole : Request → ℕ → Reading
  unknown cut_short : Reading

abbrev pub reads_kind : Option Kind → List ℕ → Reading
reads_kind none body = unknown
reads_kind (some k) body =
    cond (leb k.body_length (length body)) (whole (k.means body) (suc k.body_length)) cut_short

-- "15 | no bytes, or body cut short"
unfoldable pub reads : List (Option Kind) → List ℕ → Reading
reads table [] = cut_short
reads table (kind ∷ body) = reads_kind (get_or table kind none) body
