-- The query: what it has counted and written are the first hits, and the others are those of the pending trees. Assumes
-- nothing.
use Prim.Native.Nat.{ℕ, ◌+◌, ◌≤◌}
use mathlib.Core.List.{List, [], ◌++◌, append_assoc, append-nil}
use mathlib.Core.Option.{Option, none}
use Rattle.std.specs.Prelude.{None}
use mathlib.Core.Path.{◌≡◌, refl, sym, ap, ◌∙◌}
use native.Mathlib.Omega.{arith}
use lib.ListN.{length, length-append}
use Rattle.rules.specs.Limits.{most_slots}
use Rattle.rules.specs.Range.{Range}
use Rattle.rules.specs.Tree.{Entry, Tree}
use Rattle.rules.specs.Query.{hits}
use Rattle.rules.specs.Steps.{Pending, at_start, with_hit, Each, each_none, each_more, InOrder, all_hits}
use Rattle.rules.specs.Entries.{rows_into}
use Rattle.rules.proofs.Hits.{few-hits}
use Rattle.rules.proofs.Pending.{each_at_start, in_order_down}
use Rattle.rules.proofs.Steps.{hit-before, start-hits}
use Rattle.node.proofs.Few.{few-entries}
use Rattle.walk.specs.declared.Place.{Place}
use Rattle.walk.specs.declared.After.{After}
use Rattle.walk.specs.Walk.{Stands, Hit, no_hit, Leaves, next, Walkable}
use Rattle.rows.specs.Rows.{with_hit_row}
use Rattle.walk.proofs.Onward.{each_next, next_over, next-hits}
use Rattle.rows.proofs.Lines.{rows_more, not_counted}

-- a query on its way through t: `done` are counted and written
pub record Walks (ss stack : List ℕ) (place : Place) (q : Range) (t : Tree) (start run : List ℕ) (count : ℕ) : Type 0 where
  pub on : Pending
  pub done : List Entry
  pub stands : Stands ss stack place on
  pub in_order : Each InOrder on
  pub all : done ++ all_hits q on ≡ hits q t
  pub counted : count ≡ length done
  pub written : run ≡ rows_into done start

-- at the start nothing is counted or written
pub walk_start :
    {ss stack run : List ℕ} {place : Place} {k : ℕ} {t : Tree} (q : Range) → Walkable ss k t
    → Stands ss stack place (at_start t) → Walks ss stack place q t run run 0
walk_start {t = t} q w stands =
    record {
      on = at_start t;
      done = [];
      stands = stands;
      in_order = each_at_start InOrder t w.in_order;
      all = start-hits q t;
      counted = refl;
      written = refl;
    }

module _ {ss stack start run : List ℕ} {place : Place} {count : ℕ} {q : Range} {t : Tree}
    (w : Walks ss stack place q t start run count) where
  -- so they can be counted
  pub walk_few : {k : ℕ} → Walkable ss k t → count ≤ most_slots
  walk_few h =
      let counted = w.counted in
      omega (
        arith,
        few-entries h.rooted,
        few-hits q t,
        ap length w.all,
        length-append w.done (all_hits q w.on),
      )

  -- nothing is pending: all hits are counted and written
  pub walk_over : place.pending ≡ 0 → (count ≡ length (hits q t)) × (run ≡ rows_into (hits q t) start)
  walk_over z =
      let pends = w.stands.pends in
      let all = go pends.each (sym pends.counted ∙ z) w.all in
      (rw all at w.counted, rw all at w.written)
    where
      go : {P : Tree → Pending → Type 0} {p : Pending} → Each P p → length p ≡ 0 → w.done ++ all_hits q p ≡ hits q t
          → w.done ≡ hits q t
      go each_none z h = sym (append-nil w.done) ∙ h
      go (each_more x each) z h = absurd (omega arith)

  module _ {after : List ℕ} {a : After} (left : Leaves ss after a (next q w.on)) where
    -- a hit is counted and written
    pub walk_on :
        {run' : List ℕ} {count' : ℕ}
        → (count' ≡ count + length (with_hit (next q w.on).hit [])) × (run' ≡ with_hit_row run count (next q w.on).hit)
        → Walks ss after a.place q t start run' count'
    walk_on wrote =
        let o = (next q w.on).hit in
        let p = (next q w.on).pending in
        record {
          on = p;
          done = w.done ++ with_hit o [];
          stands = left.stands;
          in_order = each_next in_order_down q w.in_order;
          all =
              append_assoc w.done (with_hit o []) (all_hits q p)
              ∙ ap (λ es. w.done ++ es) (hit-before o (all_hits q p) ∙ next-hits q w.in_order)
              ∙ w.all;
          counted = wrote.0 ∙ rw w.counted (sym (length-append w.done (with_hit o [])));
          written = wrote.1 ∙ rw (w.counted, w.written) (sym (rows_more w.done o start));
        }

    -- without a hit nothing is left pending
    none_left : Hit ss None (next q w.on).hit → a.place.pending ≡ 0
    none_left h = left.stands.pends.counted ∙ ap length (next_over in_order_down q w.in_order (no_hit-none h))
      where
        no_hit-none : {o : Option Entry} → Hit ss None o → o ≡ none
        no_hit-none no_hit = refl

-- where the walk gives no more, all hits are counted and written
pub walk_end :
    {ss stack start run after : List ℕ} {place last : Place} {count : ℕ} {q : Range} {t : Tree}
    (w : Walks ss stack place q t start run count) → Leaves ss after (record { place = last; hit = None }) (next q w.on)
    → (count ≡ length (hits q t)) × (run ≡ rows_into (hits q t) start)
walk_end w left = walk_over (walk_on w left (not_counted left.hits)) (none_left w left left.hits)
