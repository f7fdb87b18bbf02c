-- A host that calls the entries: what their contracts say of the answers and of the words left, and nothing else.
use Rattle.std.specs.Prelude.{ℕ, List, [], ◌∷◌, ◌≡◌}
use Rattle.rules.specs.Balance.{left, right}
use Rattle.rules.specs.Request.{inserting, deleting, deleting_end, clearing, querying}
use Rattle.rules.specs.Entries.{format, edit, query, apply, feed}
use Rattle.rules.specs.History.{Event, formatting, asking, applying, feeding}
use Rattle.held.specs.Records.{words_of}
use Rattle.held.specs.declared.Hit.{Hit}
use Rattle.guard.specs.Flag.{end_of_flag}
use Rattle.record.specs.Answers.{applied_of, fed_of}
use Rattle.record.specs.declared.Taken.{Taken}
use Rattle.record.specs.declared.Records.{Records}
use Rattle.hindraloha.specs.Entries.{edited, queried}
use Rattle.hindraloha.specs.declared.Answer.{Answer}
use Rattle.hindraloha.specs.declared.Hits.{Hits}

-- One call on the words `before`, which leaves the words `after`, by the contract of its entry. The call is an event of
-- the history with the number that it was answered with. hindraloha_check, _size, _height and _is_empty are lent the
-- pool to read only: they leave all words, and are no events. The crate `hosted` calls each other entry as its case.
pub data Called (before after : List ℕ) : Event → ℕ → Type 0 where
  by_format : (r : Answer) → edited r after ≡ format before → Called before after formatting r.number
  by_insert : (r : Answer) (start end flag value : ℕ) →
      edited r after ≡ edit (inserting (end_of_flag flag) start end value) before →
      Called before after (asking (inserting (end_of_flag flag) start end value)) r.number
  by_delete : (r : Answer) (start end flag : ℕ) → edited r after ≡ edit (deleting (end_of_flag flag) start end) before →
      Called before after (asking (deleting (end_of_flag flag) start end)) r.number
  by_delete_min : (r : Answer) → edited r after ≡ edit (deleting_end left) before →
      Called before after (asking (deleting_end left)) r.number
  by_delete_max : (r : Answer) → edited r after ≡ edit (deleting_end right) before →
      Called before after (asking (deleting_end right)) r.number
  by_clear : (r : Answer) → edited r after ≡ edit clearing before → Called before after (asking clearing) r.number
  by_query : (r : Hits) (start end flag : ℕ) (rows written : List ℕ) →
      queried r written ≡ query (end_of_flag flag) start end before rows → after ≡ before →
      Called before after (asking (querying (end_of_flag flag) start end)) r.number
  by_query_records : (r : Hits) (start end flag : ℕ) (rows written : List Hit) →
      queried r (words_of written) ≡ query (end_of_flag flag) start end before (words_of rows) → after ≡ before →
      Called before after (asking (querying (end_of_flag flag) start end)) r.number
  by_apply : (r : Taken) (bytes rows written : List ℕ) → applied_of r after written ≡ apply bytes before rows →
      Called before after (applying bytes) r.number
  by_feed : (r : Records) (bytes : List ℕ) → fed_of r after ≡ feed bytes before → Called before after (feeding bytes) r.number

-- "take any pool that is formatted and from then on written only by entry calls": the words `ws` were formatted, and
-- after these calls, the latest first, the pool's words are `now`
pub data Reached (ws : List ℕ) : List Event → List ℕ → Type 0 where
  formatted : {now : List ℕ} (r : Answer) → edited r now ≡ format ws → r.number ≡ 0 → Reached ws [] now
  then_called : {events : List Event} {before now : List ℕ} {event : Event} {number : ℕ} → Reached ws events before →
      Called before now event number → Reached ws (event ∷ events) now
