-- One request has one answer, whichever entry brings it, on any words, damaged ones too: a record does what the entry of
-- its request does and takes its own bytes unless it is refused, a query leaves every word, and clear does what format
-- does. Document 01, "apply one record", "bytes after the record are ignored", "Clear leaves the words that formatting
-- leaves." Assumes nothing.
use Prim.Native.Nat.{ℕ, ◌≤◌}
use mathlib.Core.Bool.{Bool, true, false}
use mathlib.Core.List.{List, []}
use mathlib.Core.Logic.{◌↔◌}
use mathlib.Core.Path.{◌≡◌, refl, sym, ◌∙◌, ap}
use native.Mathlib.Omega.{arith}
use lib.ListN.{length, take}
use Rattle.rules.specs.Range.{End}
use Rattle.rules.specs.Pool.{Pool, words, capacity, right_length, Holds, fresh}
use Rattle.rules.specs.Request.{Request, clearing, querying, is_refusal, serve}
use Rattle.rules.specs.Record.{Reading, whole, unknown, cut_short, kinds, reads}
use Rattle.rules.specs.Entries.{format, edit, Queried, query, Applied, apply_refused, apply_read, apply}
use Rattle.rules.specs.Calls.{call}
use Rattle.rules.specs.History.{asking, applying}
use Rattle.rules.proofs.Held.{holds-held, words_hold}
use Rattle.rules.proofs.Lengths.{roomy}
use Rattle.rules.proofs.Once.{good-fresh}
use Rattle.rules.proofs.Bytes.{own-kinds, own_bytes}
use Rattle.rules.proofs.Serving.{served_query-kept}
use Rattle.rules.proofs.Refused.{Checked, wrong_length, unsound, sound, checked}

-- a whole record is answered as its request is, and leaves the same words
pub apply-edit : (bytes ws run : List ℕ) (request : Request) (taken : ℕ) → reads kinds bytes ≡ whole request taken →
    ((apply bytes ws run).number ≡ (edit request ws).number) × ((apply bytes ws run).words ≡ (edit request ws).words)
unfolding apply edit
apply-edit bytes ws run request taken e = go (checked ws)
  where
    go : Checked ws →
        ((apply bytes ws run).number ≡ (edit request ws).number) × ((apply bytes ws run).words ≡ (edit request ws).words)
    go (wrong_length f) = rw f (refl, refl)
    go (unsound f g) = rw (f, g) (refl, refl)
    go (sound h) = rw (h.right, holds-held h, e) (refl, refl)

-- what the answer to a record says of its hits, as a query's answer
abbrev pub queried_of : Applied → Queried
queried_of answer = record { number = answer.number; count = answer.count; run = answer.run }

-- a whole query record finds what the query entry finds
pub apply-query : (bytes ws run : List ℕ) (d : End) (a b taken : ℕ) →
    reads kinds bytes ≡ whole (querying d a b) taken → queried_of (apply bytes ws run) ≡ query d a b ws run
unfolding apply query
apply-query bytes ws run d a b taken e = go (checked ws)
  where
    go : Checked ws → queried_of (apply bytes ws run) ≡ query d a b ws run
    go (wrong_length f) = rw f refl
    go (unsound f g) = rw (f, g) refl
    go (sound h) = rw (h.right, holds-held h, e) refl

-- "the bytes taken and the hits (both 0 on refusal ..)": none is taken exactly where the record is refused, and else its
-- own bytes are
pub record Takes (bytes : List ℕ) (answer : Applied) : Type 0 where
  pub none_exactly : answer.taken ≡ 0 ↔ is_refusal answer.number ≡ true
  pub own : (request : Request) (taken : ℕ) → reads kinds bytes ≡ whole request taken →
      is_refusal answer.number ≡ false → answer.taken ≡ taken

-- a refused record does so
takes_none : (bytes : List ℕ) (n : ℕ) (ws run : List ℕ) → is_refusal n ≡ true → Takes bytes (apply_refused n ws run)
takes_none bytes n ws run refused =
    record { none_exactly = (λ e. refused, λ e. refl); own = λ request taken e accepted. cc }

-- and any record, on any words
pub apply-takes : (bytes ws run : List ℕ) → Takes bytes (apply bytes ws run)
unfolding apply
apply-takes bytes ws run = go (checked ws)
  where
    each : (found : Reading) (c : ℕ) (p : Pool) → reads kinds bytes ≡ found → Takes bytes (apply_read found c p run)
    each unknown c p e = takes_none bytes 14 (words c p) run refl
    each cut_short c p e = takes_none bytes 15 (words c p) run refl
    each (whole request taken) c p e = by_number (is_refusal (serve c request p).number) refl
      where
        by_number : (t : Bool) → is_refusal (serve c request p).number ≡ t →
            Takes bytes (apply_read (whole request taken) c p run)
        by_number true refused =
            record { none_exactly = (λ z. refused, λ z. cc); own = λ other n f accepted. cc }
        by_number false accepted =
            let some = (own_bytes kinds own-kinds bytes request taken e).some_byte in
            record {
              none_exactly = (λ z. absurd (let none : taken ≡ 0 = cc in omega arith), λ refused. cc);
              own = λ other n f z. cc;
            }

    go : Checked ws → Takes bytes (apply bytes ws run)
    go (wrong_length f) = rw f (takes_none bytes 10 ws run refl)
    go (unsound f g) = rw (f, g) (takes_none bytes 11 ws run refl)
    go (sound {p = p} h) = rw (h.right, holds-held h) (each (reads kinds bytes) _ p refl)

-- neither the number of a record nor the words of the pool hang on the lent run
pub apply_any_run : (bytes ws run : List ℕ) →
    ((apply bytes ws run).number ≡ (call (applying bytes) ws).number)
    × ((apply bytes ws run).words ≡ (call (applying bytes) ws).words)
unfolding apply call
apply_any_run bytes ws run = go (checked ws)
  where
    each : (found : Reading) (c : ℕ) (p : Pool) →
        ((apply_read found c p run).number ≡ (apply_read found c p []).number)
        × ((apply_read found c p run).words ≡ (apply_read found c p []).words)
    each unknown c p = (refl, refl)
    each cut_short c p = (refl, refl)
    each (whole request taken) c p = (refl, refl)

    go : Checked ws →
        ((apply bytes ws run).number ≡ (apply bytes ws []).number) × ((apply bytes ws run).words ≡ (apply bytes ws []).words)
    go (wrong_length f) = rw f (refl, refl)
    go (unsound f g) = rw (f, g) (refl, refl)
    go (sound {p = p} h) = rw (h.right, holds-held h) (each (reads kinds bytes) _ p)

-- "bytes after the record are ignored"
pub apply_ignores : (bytes ws run : List ℕ) (request : Request) (taken t : ℕ) →
    reads kinds bytes ≡ whole request taken → taken ≤ t → apply (take t bytes) ws run ≡ apply bytes ws run
unfolding apply
apply_ignores bytes ws run request taken t e h =
    rw ((own_bytes kinds own-kinds bytes request taken e).alike t h, e) refl

-- a query asked as an event has the number of the query entry, and leaves every word
pub query-asked : (d : End) (a b : ℕ) (ws run : List ℕ) →
    ((call (asking (querying d a b)) ws).number ≡ (query d a b ws run).number)
    × ((call (asking (querying d a b)) ws).words ≡ ws)
unfolding call edit query
query-asked d a b ws run = go (checked ws)
  where
    go : Checked ws →
        ((edit (querying d a b) ws).number ≡ (query d a b ws run).number) × ((edit (querying d a b) ws).words ≡ ws)
    go (wrong_length f) = rw f (refl, refl)
    go (unsound f g) = rw (f, g) (refl, refl)
    go (sound {p = p} h) =
        rw (h.right, holds-held h) (refl, ap (words (capacity (length ws))) (served_query-kept _ d a b p) ∙ sym h.all_words)

-- "Formatting links 1, 2, ... c as free, in that order, all else zero": words of a right length then hold the fresh pool
pub format-fresh : (ws : List ℕ) → right_length (length ws) ≡ true →
    ((format ws).number ≡ 0) × Holds (format ws).words (fresh (capacity (length ws)))
unfolding format
format-fresh ws right =
    let c : ℕ = capacity (length ws) in
    let r = roomy (length ws) right in
    rw right (refl, words_hold c (fresh c) (good-fresh c) r.some_slot r.not_above)

-- "Clear leaves the words that formatting leaves": clear of any sound pool is answered as format is and leaves its words
pub clear_format : {ws : List ℕ} {p : Pool} → Holds ws p → edit clearing ws ≡ format ws
unfolding edit format serve
clear_format h = rw (h.right, holds-held h) refl
