-- The calls of a host follow the history: where all words of a pool are those of a good pool with the history's rows, each
-- entry that may write answers with the history's number, and leaves all words of a good pool with the rows that the
-- history has then. Assumes nothing.
use Prim.Native.Nat.{ℕ, ◌≤◌}
use mathlib.Core.List.{List, [], ◌∷◌}
use mathlib.Core.Path.{◌≡◌, refl}
use lib.ListN.{length}
use Rattle.rules.specs.Limits.{most_slots}
use Rattle.rules.specs.Pool.{Pool, words, capacity, Holds, fresh}
use Rattle.rules.specs.Request.{Request, Served, serve}
use Rattle.rules.specs.Record.{Reading, whole, unknown, cut_short, kinds, reads}
use Rattle.rules.specs.Feed.{feed_turns}
use Rattle.rules.specs.Entries.{Edited, format, edit, apply, apply_read, fed, feed}
use Rattle.rules.specs.History.{Row, Event, formatting, asking, applying, feeding}
use Rattle.rules.specs.History.{account, account_read, account_event, history}
use Rattle.rules.specs.Calls.{call, calls}
use Rattle.rules.proofs.Lengths.{capacity_of, length-words}
use Rattle.rules.proofs.Held.{holds-held, words_hold}
use Rattle.rules.proofs.Agreeing.{Agrees, agrees-fresh, agrees_answer, agrees_left, agrees-feed}

-- these are all words of a good pool of c slots with these rows
pub record Follows (c : ℕ) (rows : List Row) (ws : List ℕ) : Type 0 where
  pub pool : Pool
  pub agrees : Agrees c pool rows
  pub all_words : ws ≡ words c pool

-- a call is answered with the history's number and leaves words that follow it
pub record Next (c : ℕ) (told : Served (List Row) Row) (answer : Edited) : Type 0 where
  pub number : answer.number ≡ told.number
  pub left : Follows c told.left answer.words

-- the words of a pool of c slots have room for c
pub room : (c : ℕ) (p : Pool) → capacity (length (words c p)) ≡ c
room c p = rw length-words (capacity_of c)

module _ (c : ℕ) (low : 1 ≤ c) (high : c ≤ most_slots) where
  module _ {p : Pool} {rows : List Row} (a : Agrees c p rows) where
    -- the words of a good pool hold it
    pub agrees_holds : Holds (words c p) p
    agrees_holds = words_hold c p a.is_good low high

    -- so that each entry answers what that pool does
    pub edit_words : (request : Request) →
        edit request (words c p)
        ≡ record { number = (serve c request p).number; words = words c (serve c request p).left }
    unfolding edit
    edit_words request = rw (agrees_holds.right, holds-held agrees_holds, room c p) refl

    pub apply_words : (bytes run : List ℕ) → apply bytes (words c p) run ≡ apply_read (reads kinds bytes) c p run
    unfolding apply
    apply_words bytes run = rw (agrees_holds.right, holds-held agrees_holds, room c p) refl

    pub feed_words : (bytes : List ℕ) →
        feed bytes (words c p) ≡ fed c (feed_turns (serve c) (length bytes) bytes p)
    unfolding feed
    feed_words bytes = rw (agrees_holds.right, holds-held agrees_holds, room c p) refl

    -- what is left where nothing changed, and what a request leaves
    left_kept : Follows c rows (words c p)
    left_kept = record { pool = p; agrees = a; all_words = refl }

    left_served : (request : Request) → Follows c (account c request rows).left (words c (serve c request p).left)
    left_served request =
        record { pool = (serve c request p).left; agrees = agrees_left a request; all_words = refl }

    -- a record, by what was read of it
    next_read : (found : Reading) →
        Next c (account_read c found rows)
        (record { number = (apply_read found c p []).number; words = (apply_read found c p []).words })
    next_read unknown = record { number = refl; left = left_kept }
    next_read cut_short = record { number = refl; left = left_kept }
    next_read (whole request taken) =
        record { number = (agrees_answer a request).number; left = left_served request }

    -- each call on the words of a pool
    next_words : (event : Event) → Next c (account_event c event rows) (call event (words c p))
    unfolding call format account_event
    next_words formatting =
        rw (agrees_holds.right, room c p)
        (record { number = refl; left = record { pool = fresh c; agrees = agrees-fresh c; all_words = refl } })
    next_words (asking request) =
        rw (edit_words request) (record { number = (agrees_answer a request).number; left = left_served request })
    next_words (applying bytes) = rw (apply_words bytes []) (next_read (reads kinds bytes))
    next_words (feeding bytes) =
        let same = agrees-feed (length bytes) bytes a in
        rw (feed_words bytes)
        (record {
          number = same.number;
          left =
              record {
                pool = (feed_turns (serve c) (length bytes) bytes p).left;
                agrees = same.left;
                all_words = refl;
              };
        })

  -- each call on words that follow the history
  pub next_call : (rows : List Row) (ws : List ℕ) → Follows c rows ws → (event : Event) →
      Next c (account_event c event rows) (call event ws)
  next_call rows ws f event = rw f.all_words (next_words f.agrees event)

  -- and all calls, one after the other
  pub follows_calls : (events : List Event) (ws : List ℕ) → Follows c [] ws →
      Follows c (history c events) (calls events ws)
  follows_calls [] ws f = f
  follows_calls (event ∷ earlier) ws f =
      (next_call (history c earlier) (calls earlier ws) (follows_calls earlier ws f) event).left
