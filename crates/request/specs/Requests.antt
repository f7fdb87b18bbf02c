-- How the code's structs and enums stand for document 01's requests.
use Rattle.std.specs.Prelude.{Result, Ok, Err}
use Rattle.std.proofs.Math.Option.{Option, none, some}
use Rattle.rules.specs.Range as range
use Rattle.rules.specs.Range.{Range, excluded, included}
use Rattle.rules.specs.Balance.{left, right}
use Rattle.rules.specs.Request as request
use Rattle.rules.specs.Request.{inserting, deleting, deleting_end, clearing, querying}
use Rattle.interval.specs.declared.Interval.{Interval}
use Rattle.request.specs.declared.End.{End}
use Rattle.request.specs.declared.End.TheVariants.{Excluded, Included}
use Rattle.request.specs.declared.Refusal.{Refusal}
use Rattle.request.specs.declared.Refusal.TheVariants.{PastEnd}
use Rattle.request.specs.declared.Request.{Request}
use Rattle.request.specs.declared.Request.TheVariants.{Insert, Delete, DeleteMin, DeleteMax, Clear, Query}

-- "the end either excluded or included"
abbrev pub end_of : End → range.End
end_of Excluded = excluded
end_of Included = included

-- delete-min removes the first, the outermost on the left, and delete-max the last
abbrev pub request_of : Request → request.Request
request_of (Insert s v) = inserting (end_of s.bound) s.start s.end v
request_of (Delete s) = deleting (end_of s.bound) s.start s.end
request_of DeleteMin = deleting_end left
request_of DeleteMax = deleting_end right
request_of Clear = clearing
request_of (Query s) = querying (end_of s.bound) s.start s.end

-- "12 | included end is 2^64 - 1", else the range
abbrev pub ranged : Option Range → Result Interval Refusal
ranged none = Err PastEnd
ranged (some r) = Ok (record { start = r.start; end = r.end })
