-- What does not change: whatever the words are, damaged ones too, a call that is refused or answered 1 or 2 changes no
-- word of the pool and none of the lent run. Document 01, "What each entry answers": "nothing changed".
-- Assumes nothing.
use Prim.Native.Nat.{ℕ}
use mathlib.Core.Bool.{Bool, true, false}
use mathlib.Core.List.{List, []}
use mathlib.Core.Option.{Option, none, some}
use mathlib.Core.Path.{◌≡◌, refl, sym, ◌∙◌, ap}
use lib.ListN.{length}
use Rattle.rules.specs.Range.{End}
use Rattle.rules.specs.Tree.{Entry}
use Rattle.rules.specs.Pool.{Pool, words, capacity, right_length, Holds}
use Rattle.rules.specs.Held.{held}
use Rattle.rules.specs.Request.{Request, querying, Served, serve}
use Rattle.rules.specs.Record.{Reading, whole, unknown, cut_short, kinds, reads}
use Rattle.rules.specs.Entries.{format, edit, query, rows_into, apply, apply_read}
use Rattle.rules.proofs.Held.{holds-held, held-holds}
use Rattle.rules.proofs.Serving.{serve-kept}

-- what an entry finds of its words: "10", "11", or a pool that they hold
pub data Checked (ws : List ℕ) : Type 0 where
  wrong_length : right_length (length ws) ≡ false → Checked ws
  unsound : right_length (length ws) ≡ true → held ws ≡ none → Checked ws
  sound : {p : Pool} → Holds ws p → Checked ws

pub checked : (ws : List ℕ) → Checked ws
checked ws = go (right_length (length ws)) (held ws) refl refl
  where
    go : (right : Bool) (o : Option Pool) → right_length (length ws) ≡ right → held ws ≡ o → Checked ws
    go false o e f = wrong_length e
    go true none e f = unsound e f
    go true (some p) e f = sound (held-holds ws p f)

-- format: every answer but 0 leaves every word
pub format-kept : (ws : List ℕ) → ((format ws).number ≡ 0 → ⊥) → (format ws).words ≡ ws
unfolding format
format-kept ws = go (right_length (length ws)) refl
  where
    go : (right : Bool) → right_length (length ws) ≡ right → ((format ws).number ≡ 0 → ⊥) → (format ws).words ≡ ws
    go true e = rw e (λ n. absurd (n refl))
    go false e = rw e (λ n. refl)

-- insert, delete, delete-min, delete-max and clear
pub edit-kept : (request : Request) (ws : List ℕ) → ((edit request ws).number ≡ 0 → ⊥) → (edit request ws).words ≡ ws
unfolding edit
edit-kept request ws = go (checked ws)
  where
    go : Checked ws → ((edit request ws).number ≡ 0 → ⊥) → (edit request ws).words ≡ ws
    go (wrong_length e) = rw e (λ n. refl)
    go (unsound e f) = rw (e, f) (λ n. refl)
    go (sound {p = p} h) =
        rw (h.right, holds-held h)
        (λ n.
        ap (λ (s : Served Pool Entry). words (capacity (length ws)) s.left) (serve-kept _ request p n)
        ∙ sym h.all_words)

-- a query: every answer but 0 counts no hit and writes none; "a refused query writes none"
pub query-kept : (d : End) (a b : ℕ) (ws run : List ℕ) → ((query d a b ws run).number ≡ 0 → ⊥) →
    ((query d a b ws run).count ≡ 0) × ((query d a b ws run).run ≡ run)
unfolding query
query-kept d a b ws run = go (checked ws)
  where
    go : Checked ws → ((query d a b ws run).number ≡ 0 → ⊥) →
        ((query d a b ws run).count ≡ 0) × ((query d a b ws run).run ≡ run)
    go (wrong_length e) = rw e (λ n. (refl, refl))
    go (unsound e f) = rw (e, f) (λ n. (refl, refl))
    go (sound {p = p} h) =
        rw (h.right, holds-held h)
        (λ n.
        let none_named : (serve (capacity (length ws)) (querying d a b) p).hits ≡ [] =
        ap (λ (s : Served Pool Entry). s.hits) (serve-kept _ (querying d a b) p n) in
        (ap length none_named, ap (λ es. rows_into es run) none_named))

-- applying a record, of a pool of c slots: every answer but 0 leaves every word, of the pool and of the run
read_kept : (found : Reading) (c : ℕ) (p : Pool) (run : List ℕ) → ((apply_read found c p run).number ≡ 0 → ⊥) →
    ((apply_read found c p run).words ≡ words c p) × ((apply_read found c p run).count ≡ 0)
    × ((apply_read found c p run).run ≡ run)
read_kept unknown c p run n = (refl, refl, refl)
read_kept cut_short c p run n = (refl, refl, refl)
read_kept (whole request taken) c p run n =
    let same = serve-kept c request p n in (
      ap (λ (s : Served Pool Entry). words c s.left) same,
      ap (λ (s : Served Pool Entry). length s.hits) same,
      ap (λ (s : Served Pool Entry). rows_into s.hits run) same,
    )

-- and so of any words
pub apply-kept : (bytes ws run : List ℕ) → ((apply bytes ws run).number ≡ 0 → ⊥) →
    ((apply bytes ws run).words ≡ ws) × ((apply bytes ws run).count ≡ 0) × ((apply bytes ws run).run ≡ run)
unfolding apply
apply-kept bytes ws run = go (checked ws)
  where
    go : Checked ws → ((apply bytes ws run).number ≡ 0 → ⊥) →
        ((apply bytes ws run).words ≡ ws) × ((apply bytes ws run).count ≡ 0) × ((apply bytes ws run).run ≡ run)
    go (wrong_length e) = rw e (λ n. (refl, refl, refl))
    go (unsound e f) = rw (e, f) (λ n. (refl, refl, refl))
    go (sound {p = p} h) =
        rw (h.right, holds-held h)
        (λ n.
        let kept = read_kept (reads kinds bytes) (capacity (length ws)) p run n in
        (kept.0 ∙ sym h.all_words, kept.1, kept.2))
