-- `edit` serves each request as the rules do, and leaves their words. Assumes nothing.
use mathlib.Core.Path.{refl}
use Rattle.rules.specs.Request.{serve}
use Rattle.request.proofs.Ranged.{range_known, no_range_answered}
use Rattle.serve.proofs.edit.Goals as goal

pub returns-in_err-range-in-Insert : goal.returns-in_err-range-in-Insert
unfolding serve
returns-in_err-range-in-Insert c p h =
    let past = no_range_answered c.from_residual.result c.range.ensures c.in_err-range-in-Insert.was c.from_residual.ensures.1 (λ f same. same) in
    rw (c.in-Insert.is, past.0, past.1) (record { number_is = refl; words_are = h.all_words })

pub returns-in_ok-range-in-Insert : goal.returns-in_ok-range-in-Insert
unfolding serve
returns-in_ok-range-in-Insert c p h = rw (c.in-Insert.is, range_known c.range.ensures c.in_ok-range-in-Insert.was) (c.insert.ensures p h)

pub returns-in_err-range-in-Delete : goal.returns-in_err-range-in-Delete
unfolding serve
returns-in_err-range-in-Delete c p h =
    let past = no_range_answered c.from_residual-in_err-range-in-Delete.result c.range-in-Delete.ensures c.in_err-range-in-Delete.was c.from_residual-in_err-range-in-Delete.ensures.1 (λ f same. same) in
    rw (c.in-Delete.is, past.0, past.1) (record { number_is = refl; words_are = h.all_words })

pub returns-in_ok-range-in-Delete : goal.returns-in_ok-range-in-Delete
unfolding serve
returns-in_ok-range-in-Delete c p h = rw (c.in-Delete.is, range_known c.range-in-Delete.ensures c.in_ok-range-in-Delete.was) (c.delete.ensures p h)

pub returns-in-DeleteMin : goal.returns-in-DeleteMin
unfolding serve
returns-in-DeleteMin c p h = rw c.in-DeleteMin.is (c.delete_end.ensures p h)

pub returns-in-DeleteMax : goal.returns-in-DeleteMax
unfolding serve
returns-in-DeleteMax c p h = rw c.in-DeleteMax.is (c.delete_end-in-DeleteMax.ensures p h)

pub returns-in-Clear : goal.returns-in-Clear
unfolding serve
returns-in-Clear c p h = rw c.in-Clear.is (c.clear.ensures p h)

pub returns-in_err-range-in-Query : goal.returns-in_err-range-in-Query
unfolding serve
returns-in_err-range-in-Query c p h =
    let past = no_range_answered c.from_residual-in_err-range-in-Query.result c.range-in-Query.ensures c.in_err-range-in-Query.was c.from_residual-in_err-range-in-Query.ensures.1 (λ f same. same) in
    rw (c.in-Query.is, past.0, past.1) (record { number_is = refl; words_are = h.all_words })

pub returns-in_ok-range-in-Query : goal.returns-in_ok-range-in-Query
unfolding serve
returns-in_ok-range-in-Query c p h = rw (c.in-Query.is, range_known c.range-in-Query.ensures c.in_ok-range-in-Query.was) (record { number_is = refl; words_are = h.all_words })
