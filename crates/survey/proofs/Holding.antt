-- What a record leaves of a pool: the words hold a pool again, and there are no more hits than slots. Assumes nothing.
use Prim.Native.Nat.{ℕ, ◌*◌, ◌≤◌}
use mathlib.Core.List.{List}
use mathlib.Core.Option.{Option, none, some}
use mathlib.Core.Path.{◌≡◌, ◌∙◌}
use native.Mathlib.Omega.{arith}
use lib.ListN.{length}
use Rattle.rules.specs.Range.{Range, range_to}
use Rattle.rules.specs.Tree.{size}
use Rattle.rules.specs.Query.{hits}
use Rattle.rules.specs.Pool.{Pool, Holds, words, capacity, fresh}
use Rattle.rules.specs.Request.{Request, inserting, deleting, deleting_end, clearing, querying, serve, with_range, names}
use Rattle.rules.specs.Record.{Reading, whole, unknown, cut_short}
use Rattle.rules.specs.Entries.{apply_read}
use Rattle.rules.proofs.Held.{words_hold}
use Rattle.rules.proofs.Hitless.{insert_hitless, delete_hitless, end_hitless}
use Rattle.rules.proofs.Hits.{few-hits}
use Rattle.rules.proofs.Lengths.{roomy, length-words}
use Rattle.rules.proofs.Once.{good-fresh, all_slots}
use Rattle.rules.proofs.Serving.{good-serve}
use Rattle.survey.specs.Ready.{Ready}

-- the words that a record leaves hold a pool
pub applied-ready : {ws after : List ℕ} (r : Reading) (run : List ℕ) → length after ≡ length ws → (ready : Ready ws)
    → after ≡ (apply_read r (capacity (length ws)) ready.held run).words
    → Ready after
applied-ready {ws} {after} r run long ready is =
    record { long = long ∙ ready.long; held = (go r is).0; holds = (go r is).1 }
  where
    go : (s : Reading) → after ≡ (apply_read s (capacity (length ws)) ready.held run).words → (q : Pool) × Holds after q
    go unknown e = (ready.held, rw (e, ← ready.holds.all_words) ready.holds)
    go cut_short e = (ready.held, rw (e, ← ready.holds.all_words) ready.holds)
    go (whole request taken) e =
        let c : ℕ = capacity (length ws) in
        let room = roomy (length ws) ready.holds.right in (
          (serve c request ready.held).left,
          rw e
              (words_hold c _ (good-serve c request ready.held ready.holds.is_good) room.some_slot room.not_above),
        )

-- so no request is answered with more
few_served : (c : ℕ) (request : Request) (p : Pool) → length (serve c request p).hits ≤ size p.tree
unfolding serve
few_served c (inserting d a b v) p = rw (insert_hitless c d a b v p) (omega arith)
few_served c (deleting d a b) p = rw (delete_hitless c d a b p) (omega arith)
few_served c (deleting_end s) p = rw (end_hitless s p) (omega arith)
few_served c clearing p = omega arith
few_served c (querying d a b) p = go (range_to d a b)
  where
    go : (o : Option Range) → length (with_range o p (λ q. names p (hits q p.tree))).hits ≤ size p.tree
    go none = omega arith
    go (some q) = few-hits q p.tree

-- and the rows of a record fit, three words each
pub rows_fit : {ws : List ℕ} (r : Reading) (run : List ℕ) (ready : Ready ws)
    → 3 * (apply_read r (capacity (length ws)) ready.held run).count ≤ 2400
rows_fit unknown run ready = omega arith
rows_fit cut_short run ready = omega arith
rows_fit {ws} (whole request taken) run ready =
    let c : ℕ = capacity (length ws) in
    let h = ready.holds in
    omega (
      arith,
      few_served c request ready.held,
      all_slots c ready.held h.is_good,
      (roomy (length ws) h.right).exact,
    )

-- a formatted pool of 800 slots is ready
pub formatted : (ws : List ℕ) {after : List ℕ} → length ws ≡ 4804
    → after ≡ words (capacity (length ws)) (fresh (capacity (length ws)))
    → Ready after
unfolding capacity
formatted ws long is =
    rw (is, long)
    (record {
      long = length-words 800 (fresh 800);
      held = fresh 800;
      holds = words_hold 800 (fresh 800) (good-fresh 800) (omega arith) (omega arith);
    })
