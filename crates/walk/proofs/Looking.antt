-- What a step finds at the latest pending node from the words that it reads: document 01, "A node whose max isn't above the
-- query's start is passed over with its subtrees; its right subtree is skipped if the query's end isn't above its start."
-- Both children fit on the stack then, since a child has a level less. Assumes nothing.
use Prim.Native.Nat.{ℕ, suc, ◌+◌, ◌-◌, ◌%◌, ◌/◌, ◌≤◌, ◌<◌}
use mathlib.Core.Bool.{Bool, true, false, cond}
use mathlib.Core.List.{List, ◌∷◌}
use mathlib.Core.Option.{none, some}
use mathlib.Core.Path.{◌≡◌, ◌∙◌}
use native.Mathlib.Omega.{arith}
use lib.ListN.{length, take}
use Rattle.std.specs.Prelude.{Option as Maybe, Some, None}
use borrow.Author.Tests.{lt-ltb, le-ltb}
use Rattle.rules.specs.Limits.{most_pending, half}
use Rattle.rules.specs.Range.{Range, range, overlaps}
use Rattle.rules.specs.Tree.{Entry, Tree, node, levels, max_end, root}
use Rattle.rules.specs.Steps.{Pending, Step, leave, step, step_at, Each, each_none, each_more}
use Rattle.rules.specs.Stored.{slot_word, Within, Bears, Stored, live}
use Rattle.rules.proofs.Overlap.{unbegun_misses}
use Rattle.rules.proofs.Reading.{low_half, high_half, root-fits}
use Rattle.walk.specs.declared.Place.{Place}
use Rattle.walk.specs.Walk.{stack_of, top_of, Waits, Pends, Stands, Hit, no_hit, hit_in}
use Rattle.walk.specs.Inside.{Fitting, Leads, leads}
use Rattle.walk.proofs.Stack.{under_top, none_fits}

-- the latest pending node, which stands in slot `top`, and n others that are pending below it
pub data Latest (ss stack : List ℕ) (n : ℕ) : ℕ → Pending → Type 0 where
  latest :
      {e : Entry} {l r : Tree} {p : Pending} → Waits ss (node e l r) p → Pends ss stack n p
      → Latest ss stack n e.slot (node e l r ∷ p)

-- where something is pending there is a latest
pub take-latest :
    {ss stack : List ℕ} {place : Place} {p : Pending} → Stands ss stack place p → (place.pending ≡ 0 → ⊥)
    → Latest ss stack (place.pending - 1) place.top p
take-latest {ss} {stack} {place} s some-pending =
    go s.pends.each s.pends.counted s.pends.on_stack s.top_is
  where
    go : {p : Pending} → Each (Waits ss) p → place.pending ≡ length p → take place.pending stack ≡ stack_of p
        → place.top ≡ top_of p → Latest ss stack (place.pending - 1) place.top p
    go each_none counted on_stack top_is = absurd (some-pending counted)
    go (each_more {e} {l} {r} {p} w each) counted on_stack top_is =
        rw top_is
        (latest w
        (record {
          room = s.pends.room;
          long = s.pends.long;
          counted = omega arith;
          on_stack = under_top stack place.pending (node e l r) p counted on_stack;
          each = each;
        }))

-- the latest pending node stands in a slot of these words
pub within : {ss stack : List ℕ} {n top : ℕ} {p : Pending} → Latest ss stack n top p → Within ss top
within (latest w below) = go w.stored
  where
    go : {ss : List ℕ} {e : Entry} {l r : Tree} → Stored ss (node e l r) → Within ss e.slot
    go (live b k x y) = b.at

-- the words that are read at a node: its start, its max and its links
pub record Read (ss : List ℕ) (k start max links : ℕ) : Type 0 where
  pub start_read : start ≡ slot_word ss k 0
  pub max_read : max ≡ slot_word ss k 3
  pub links_read : links ≡ slot_word ss k 4

-- what they say of a node above n others
record Told (ss : List ℕ) (n : ℕ) (e : Entry) (l r : Tree) (start max links : ℕ) : Type 0 where
  start_is : start ≡ e.range.start
  max_is : max ≡ max_end (node e l r)
  left_fits : Fitting ss (suc n) (links % half) l
  right_fits : Fitting ss (suc n) (links / half) r
  bears : Bears ss e

-- the words read at the latest pending node tell of it
told :
    {ss stack : List ℕ} {n : ℕ} {e : Entry} {l r : Tree} {p : Pending} {start max links : ℕ} → Waits ss (node e l r) p
    → Pends ss stack n p → Read ss e.slot start max links → Told ss n e l r start max links
told {ss} {n = n} {e} {l} {r} {p} {start} {max} {links} w below read = go w.stored w.fits
  where
    go : Stored ss (node e l r) → levels (node e l r) + length p ≤ most_pending → Told ss n e l r start max links
    go (live b k x y) fits =
        let counted = below.counted in
        let whole = read.links_read ∙ k.links_word in
        let low = root-fits x below.room in
        record {
          start_is = read.start_read ∙ b.start_word;
          max_is = read.max_read ∙ k.max_word;
          left_fits =
              record { stored = x; slot_is = low_half links (root l) (root r) whole low; fits = omega arith };
          right_fits =
              record { stored = y; slot_is = high_half links (root l) (root r) whole low; fits = omega arith };
          bears = b;
        }

-- an entry is hit where the range in its slot overlaps the query
hit-told :
    {ss : List ℕ} {e : Entry} {h : Maybe ℕ} (q : Range) → Bears ss e
    → h ≡ cond (overlaps (range (slot_word ss e.slot 0) (slot_word ss e.slot 1)) q) (Some e.slot) None
    → Hit ss h (cond (overlaps e.range q) (some e) none)
hit-told {ss} {e} {h} q b is = go (overlaps e.range q) (rw (b.start_word, b.end_word) at is)
  where
    go : (t : Bool) → h ≡ cond t (Some e.slot) None → Hit ss h (cond t (some e) none)
    go true z = rw z (hit_in b)
    go false z = rw z no_hit

module _ {ss stack : List ℕ} {n start max links : ℕ} where
  -- the left child fits, whatever the query
  pub left_found :
      {top left : ℕ} {p : Pending} → Latest ss stack n top p → Read ss top start max links → left ≡ links % half
      → (s : Step) × Leads ss stack n left 0 None s
  left_found (latest {e} {l} {r} {p} w below) read left_is =
      let t = told w below read in (
        record { hit = none; pending = leave l p },
        rw left_is (leads below t.left_fits (none_fits t.right_fits) no_hit),
      )

module _ {ss stack : List ℕ} {n start max links : ℕ} (q : Range) where
  -- the node is passed over: nothing is left pending or hit
  pub passed :
      {top : ℕ} {p : Pending} → Latest ss stack n top p → Read ss top start max links → max ≤ q.start
      → Leads ss stack n 0 0 None (step q p)
  unfolding step_at
  passed (latest {e} {l} {r} w below) read h =
      let t = told w below read in
      let no_child = none_fits t.left_fits in
      rw (le-ltb q.start (max_end (node e l r)) (rw t.max_is at h)) (leads below no_child no_child no_hit)

  -- its right subtree is skipped: the left child is left pending, and nothing is hit
  pub skipped :
      {top left : ℕ} {p : Pending} → Latest ss stack n top p → Read ss top start max links → q.start < max
      → q.end ≤ start → left ≡ links % half → Leads ss stack n left 0 None (step q p)
  unfolding step_at
  skipped (latest {e} {l} {r} w below) read sees h left_is =
      let t = told w below read in
      let late = rw t.start_is at h in
      rw (
        lt-ltb q.start (max_end (node e l r)) (rw t.max_is at sees),
        le-ltb e.range.start q.end late,
        unbegun_misses e.range q late,
        left_is,
      )
      (leads below t.left_fits (none_fits t.right_fits) no_hit)

  -- both children are left pending, and the node is hit where its range overlaps the query
  pub seen :
      {top left right : ℕ} {h : Maybe ℕ} {p : Pending} → Latest ss stack n top p → Read ss top start max links → q.start < max
      → start < q.end → left ≡ links % half → right ≡ links / half
      → h ≡ cond (overlaps (range (slot_word ss top 0) (slot_word ss top 1)) q) (Some top) None
      → Leads ss stack n left right h (step q p)
  unfolding step_at
  seen (latest {e} {l} {r} w below) read sees begins left_is right_is hit-is =
      let t = told w below read in
      rw (
        lt-ltb q.start (max_end (node e l r)) (rw t.max_is at sees),
        lt-ltb e.range.start q.end (rw t.start_is at begins),
        left_is,
        right_is,
      )
      (leads below t.left_fits t.right_fits (hit-told q t.bears hit-is))
