-- What is read from any bytes: by the first byte, and of a feed all kinds but the query. Assumes nothing.
use mathlib.Core.List.{List, [], ◌∷◌}
use mathlib.Core.Option.{Option, none, some}
use mathlib.Core.Path.{◌≡◌, refl, sym, ap, ◌∙◌}
use native.Mathlib.Numerals.{add-one}
use native.Mathlib.Omega.{arith}
use borrow.Author.Tests.{le-leb, lt-leb}
use Prim.Native.Nat.{ℕ, ◌+◌, ◌≤◌, ◌<◌}
use lib.ListN.{length, get_or}
use Rattle.std.specs.Prelude.{Result, IsErrAnd}
use Rattle.std.proofs.lemmas.Result.{err_from_is_err_and}
use Rattle.rules.specs.Record as found
use Rattle.rules.specs.Record.{feed_kinds, reads_kind, reads, whole, unknown, cut_short}
use Rattle.rules.specs.Request.{Request}
use Rattle.request.specs.declared.Refusal.{Refusal}
use Rattle.request.specs.declared.Refusal.TheVariants.{UnknownKind}
use Rattle.reading.specs.Reading.{fixed_length, said, row_of, kind_number, reading_of}
use Rattle.reading.specs.declared.Kind.{Kind}
use Rattle.reading.specs.declared.Kind.TheVariants.{InsertMetres, InsertLinks, InsertExcluded, InsertIncluded, Delete, DeleteMin, DeleteMax, Clear, Query}
use Rattle.reading.specs.declared.Record.{Record}

-- a feed's table has every kind but the query
pub but_queries : (kind : Kind) → (kind ≡ Query → ⊥) → get_or feed_kinds (kind_number kind) none ≡ some (row_of kind)
but_queries InsertMetres other = refl
but_queries InsertLinks other = refl
but_queries InsertExcluded other = refl
but_queries InsertIncluded other = refl
but_queries Delete other = refl
but_queries DeleteMin other = refl
but_queries DeleteMax other = refl
but_queries Clear other = refl
but_queries Query other = absurd (other refl)

-- fewer bytes than the row fixes: the record is cut short
pub too_short : (o : Option found.Kind) (body : List ℕ) (n : ℕ) → some n ≡ fixed_length o → length body < n →
    cut_short ≡ reads_kind o body
too_short none body n h p = absurd (let z : ◌≡◌ {A = ℕ} 0 1 = cc in omega arith)
too_short (some k) body n h p =
    let e : n ≡ k.body_length = cc in rw (lt-leb k.body_length (length body) (omega arith))

-- else it is whole, with one byte more than its body
pub is_whole : (o : Option found.Kind) (body : List ℕ) (n : ℕ) (q : Request) → some n ≡ fixed_length o →
    n ≤ length body → said o body ≡ some q → whole q (n + 1) ≡ reads_kind o body
is_whole none body n q h p s = absurd (let z : ◌≡◌ {A = ℕ} 0 1 = cc in omega arith)
is_whole (some k) body n q h p s =
    let e : n ≡ k.body_length = cc in rw (le-leb k.body_length (length body) (omega arith)) (cc (add-one n))

module _ (table : List (Option found.Kind)) where
  -- "15 | no bytes"
  pub no_bytes : (bytes : List ℕ) → length bytes ≡ 0 → cut_short ≡ reads table bytes
  unfolding reads
  no_bytes [] h = refl
  no_bytes (byte ∷ body) h = absurd (omega arith)

  module _ {bytes body : List ℕ} {byte : ℕ} (is : bytes ≡ byte ∷ body) where
    -- the first byte says the kind, and the bytes behind it are the body
    by_kind : {o : Option found.Kind} → get_or table byte none ≡ o → reads table bytes ≡ reads_kind o body
    unfolding reads
    by_kind row = rw (is, row) refl

    -- "14 | kind not in the table"
    pub unknown_read : (r : Result Record Refusal) {Q : Refusal → Type 0} → get_or table byte none ≡ none → IsErrAnd r Q
        → ((e : Refusal) → Q e → e ≡ UnknownKind) → reading_of r ≡ some (reads table bytes)
    unknown_read r row refused which =
        let p = err_from_is_err_and r refused in rw (p.1, which p.0 p.2, by_kind row) refl

    -- a kind that is in the table
    pub kind_read : (r : Result Record Refusal) (kind : Kind) → get_or table byte none ≡ some (row_of kind)
        → reading_of r ≡ some (reads_kind (some (row_of kind)) body)
        → reading_of r ≡ some (reads table bytes)
    kind_read r kind row read = read ∙ ap some (sym (by_kind row))
