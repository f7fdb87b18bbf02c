-- Demand 3, of every sequence of calls that a host can make: "it holds exactly the ranges that the requests since the last
-- formatting or clear put in and did not remove, each with the value it went in with". The statement `Promise` is read
-- first; `kept` shows it for all calls. Assumes nothing.
use Prim.Native.Nat.{ℕ}
use mathlib.Core.List.{List}
use mathlib.Core.Path.{◌≡◌, sym, ap, ◌∙◌}
use lib.ListN.{length}
use Rattle.rules.specs.Range.{End, range_to}
use Rattle.rules.specs.Pool.{capacity}
use Rattle.rules.specs.Request.{querying}
use Rattle.rules.specs.Entries.{Edited, Queried, Applied, format, query, apply}
use Rattle.rules.specs.History.{Event, asking, account_event}
use Rattle.rules.specs.Calls.{call}
use Rattle.rules.proofs.Applying.{apply_any_run, query-asked}
use Rattle.rules.proofs.Finding.{AnswersQuery, Applies}
use Rattle.rules.proofs.Demand.{after, rows_after, Demand, demand}
use Rattle.held.specs.Records.{words_of}
use Rattle.guard.specs.Flag.{end_of_flag}
use Rattle.history.specs.Host.{Called, by_format, by_insert, by_delete, by_delete_min, by_delete_max, by_clear, by_query, by_query_records, by_apply, by_feed, Reached, formatted, then_called}

-- What is promised of the words that a host has after a formatting and any calls: they are the words of `Demand`, so all
-- that it says of contents, queries, records, "full", the check and the size is said of them; and whichever call comes
-- next, by whatever answer its contract allows, is answered with the number that the history says, and where it may bring
-- hits (`by_query`, `by_query_records` and `by_apply`), with those of the history's rows.
pub record Promise (ws : List ℕ) (events : List Event) (now : List ℕ) : Type 0 where
  pub same_words : now ≡ after ws events
  pub demanded : Demand ws events
  pub next_answer : {then : List ℕ} {event : Event} {number : ℕ} → Called now then event number →
      number ≡ (account_event (capacity (length ws)) event (rows_after ws events)).number
  pub query_answer : {answer : Queried} (d : End) (a b : ℕ) (run : List ℕ) → answer ≡ query d a b now run →
      AnswersQuery (range_to d a b) (rows_after ws events) run answer
  pub apply_answer : {answer : Applied} (bytes run : List ℕ) → answer ≡ apply bytes now run →
      Applies (capacity (length ws)) bytes (rows_after ws events) run answer

-- a query by its contract is the rules' call, whatever run is lent
query_is : {after : List ℕ} {answer : Queried} (a b f : ℕ) (before run : List ℕ)
    → answer ≡ query (end_of_flag f) a b before run → after ≡ before
    → ◌≡◌ {A = Edited} (record { number = answer.number; words = after }) (call (asking (querying (end_of_flag f) a b)) before)
unfolding call
query_is a b f before run e same =
    let asked = query-asked (end_of_flag f) a b before run in
    λ i. record { number = (ap (λ x. x.number) e ∙ sym asked.0) i; words = (same ∙ sym asked.1) i }

-- a call by its contract is the rules' call: its number and all words left
call_is : {before after : List ℕ} {event : Event} {number : ℕ} → Called before after event number →
    ◌≡◌ {A = Edited} (record { number = number; words = after }) (call event before)
unfolding call
call_is (by_format r e) = e
call_is (by_insert r a b f v e) = e
call_is (by_delete r a b f e) = e
call_is (by_delete_min r e) = e
call_is (by_delete_max r e) = e
call_is (by_clear r e) = e
call_is {before} (by_query r a b f rows written e same) = query_is a b f before rows e same
call_is {before} (by_query_records r a b f rows written e same) = query_is a b f before (words_of rows) e same
call_is {before} (by_apply r bytes rows written e) =
    let any = apply_any_run bytes before rows in
    λ i. record { number = (ap (λ x. x.number) e ∙ any.0) i; words = (ap (λ x. x.words) e ∙ any.1) i }
call_is (by_feed r bytes e) = λ i. record { number = (e i).number; words = (e i).words }

-- so the words are those of the calls
words_are : {ws now : List ℕ} {events : List Event} → Reached ws events now → now ≡ after ws events
words_are (formatted r e accepted) = ap (λ x. x.words) e
words_are (then_called {event = event} earlier called) =
    ap (λ x. x.words) (call_is called) ∙ ap (λ (before : List ℕ). (call event before).words) (words_are earlier)

-- and the first of them was an accepted formatting
was_formatted : {ws now : List ℕ} {events : List Event} → Reached ws events now → (format ws).number ≡ 0
was_formatted (formatted r e accepted) = sym (ap (λ x. x.number) e) ∙ accepted
was_formatted (then_called earlier called) = was_formatted earlier

-- Demand 3: the promise is kept after any sequence of calls
pub kept : {ws now : List ℕ} {events : List Event} → Reached ws events now → Promise ws events now
kept {ws} {now} {events} reached =
    let shown = demand ws events (was_formatted reached) in
    record {
      same_words = words_are reached;
      demanded = shown;
      next_answer = λ {then} {event} {number} called.
          ap (λ x. x.number) (call_is called)
          ∙ ap (λ (before : List ℕ). (call event before).number) (words_are reached)
          ∙ shown.next_number event;
      query_answer = λ d a b run e. rw (e, words_are reached) (shown.query_answers d a b run);
      apply_answer = λ bytes run e. rw (e, words_are reached) (shown.apply_answers bytes run);
    }

-- "Any two results it allows are shown to be one": two hosts that make the same calls have the same words, and get the
-- same numbers, since each contract is an equation
pub one_result : {ws now other : List ℕ} {events : List Event} → Reached ws events now → Reached ws events other → now ≡ other
one_result p q = words_are p ∙ sym (words_are q)

pub one_answer : {before now other : List ℕ} {event : Event} {n m : ℕ} → Called before now event n → Called before other event m →
    (n ≡ m) × (now ≡ other)
one_answer p q =
    let same = call_is p ∙ sym (call_is q) in
    (ap (λ x. x.number) same, ap (λ x. x.words) same)
