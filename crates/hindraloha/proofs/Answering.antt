-- What the entries that serve requests answer: the check's number with nothing changed, or the sound pool's answer.
-- Assumes nothing.
use Prim.Native.Nat.{ℕ}
use mathlib.Core.List.{List}
use mathlib.Core.Path.{◌≡◌, ◌∙◌}
use lib.ListN.{length}
use Rattle.std.specs.Prelude.{Result, Err}
use Rattle.rules.specs.Pool.{Pool, Holds, words, capacity}
use Rattle.rules.specs.Request.{Request, serve}
use Rattle.rules.specs.Record.{kinds, reads}
use Rattle.rules.specs.Feed.{feed_turns}
use Rattle.rules.specs.Entries.{Edited, Applied, Fed, check, edit, apply, feed, apply_refused, apply_read, fed}
use Rattle.request.specs.Answers.{zero_or_refusal}
use Rattle.request.specs.declared.Refusal.{Refusal}
use Rattle.serve.specs.Answers.{Answers}
use Rattle.record.specs.Answers.{taken_of, applied_of, refused_of, fed_of}
use Rattle.hindraloha.specs.Entries.{answered_of}
use Rattle.guard.proofs.Guarded.{refused_by, answered}

-- a pool that the check refused, with the answer r
module _ (ws : List ℕ) {B : Type 0} {r : Result B Refusal} {e : Refusal} (is : zero_or_refusal r ≡ check ws) (err : r ≡ Err e) where
  pub edit_refused : (request : Request) → answered_of (Err e) ws ≡ edit request ws
  unfolding edit
  edit_refused request =
      refused_by ws is err (λ m. record { number = m; words = ws })
      (λ c p. record { number = (serve c request p).number; words = words c (serve c request p).left })

  pub apply_refused_whole : (bytes run : List ℕ) → applied_of (taken_of (Err e)) ws run ≡ apply bytes ws run
  unfolding apply
  apply_refused_whole bytes run =
      refused_by ws is err (λ m. apply_refused m ws run) (λ c p. apply_read (reads kinds bytes) c p run)

  pub feed_refused : (bytes : List ℕ) → fed_of (refused_of e) ws ≡ feed bytes ws
  unfolding feed
  feed_refused bytes =
      refused_by ws is err (λ m. record { number = m; records = 0; taken = 0; words = ws })
      (λ c p. fed c (feed_turns (serve c) (length bytes) bytes p))

module _ {ws : List ℕ} {p : Pool} (h : Holds ws p) where
  pub edit_served : {after : List ℕ} {n : ℕ} (request : Request) → Answers ws after n (serve (capacity (length ws)) request p)
      → ◌≡◌ {A = Edited} (record { number = n; words = after }) (edit request ws)
  unfolding edit
  edit_served request told =
      (λ i. record { number = told.number_is i; words = told.words_are i })
      ∙ answered (λ m. record { number = m; words = ws })
      (λ c p. record { number = (serve c request p).number; words = words c (serve c request p).left })
      h

  pub apply_served : {r : Applied} (bytes rows : List ℕ) → r ≡ apply_read (reads kinds bytes) (capacity (length ws)) p rows
      → r ≡ apply bytes ws rows
  unfolding apply
  apply_served bytes rows told =
      told ∙ answered (λ m. apply_refused m ws rows) (λ c p. apply_read (reads kinds bytes) c p rows) h

  pub feed_served_whole : {r : Fed} (bytes : List ℕ)
      → r ≡ fed (capacity (length ws)) (feed_turns (serve (capacity (length ws))) (length bytes) bytes p)
      → r ≡ feed bytes ws
  unfolding feed
  feed_served_whole bytes told =
      told
      ∙ answered (λ m. record { number = m; records = 0; taken = 0; words = ws })
      (λ c p. fed c (feed_turns (serve c) (length bytes) bytes p))
      h
