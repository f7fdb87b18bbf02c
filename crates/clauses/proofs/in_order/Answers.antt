-- `in_order` tests the strict order of two entries. Assumes nothing.
use Rattle.rules.proofs.Order.{by_start, before-less}
use Rattle.interval.specs.Interval.{range_of}
use Rattle.interval.proofs.Derived.{before}
use Rattle.clauses.proofs.Bounds.{after_none, before-none, compared}
use Rattle.clauses.proofs.in_order.Goals as goal

pub returns-then-a-eq0 : goal.returns-then-a-eq0
returns-then-a-eq0 c =
    after_none c.args.slots.now c.args.a c.args.b c.if-a-eq0.true

pub returns-then-b-eq0 : goal.returns-then-b-eq0
returns-then-b-eq0 c =
    before-none c.args.slots.now c.args.a c.args.b c.if-a-eq0.false c.if-b-eq0.true

pub returns-then-first-second : goal.returns-then-first-second
returns-then-first-second c =
    rw (before-less (range_of c.interval_at-first.result) (range_of c.interval_at-second.result) (by_start c.if-first-second.true)) at
    (compared c.args.slots.now c.args.a c.args.b c.if-a-eq0.false c.if-b-eq0.false
    c.interval_at-first.ensures c.interval_at-second.ensures)

pub returns : goal.returns
returns c =
    rw (c.lt.ensures, before c.interval_at-first.result c.interval_at-second.result)
    (compared c.args.slots.now c.args.a c.args.b c.if-a-eq0.false c.if-b-eq0.false
    c.interval_at-first.ensures c.interval_at-second.ensures)
