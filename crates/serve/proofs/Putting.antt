-- An insert into a sound pool: what its calls are given, and that the answer is the rules'. Assumes nothing.
use Prim.Native.Nat.{ℕ, ◌+◌, ◌≤◌, ◌<◌}
use mathlib.Core.Bool.{true, false}
use mathlib.Core.List.{List, [], ◌∷◌}
use mathlib.Core.Option.{Option, none, some}
use mathlib.Core.Path.{◌≡◌, refl, sym, ◌∙◌}
use native.Mathlib.Omega.{arith}
use lib.ListN.{length, get_or, take, drop}
use Rattle.rules.specs.Limits.{header_words, most_slots, half}
use Rattle.rules.specs.Range.{Range, excluded, range_to}
use Rattle.rules.specs.Tree.{Entry, Tree}
use Rattle.rules.specs.Edit.{find, is_some, insert}
use Rattle.rules.specs.Pool.{Pool, pool, capacity, good, times, slots, first, Holds}
use Rattle.rules.specs.Request.{inserting, serve, insert_into}
use Rattle.rules.specs.Stored.{slot_word, Within, Chained, goes_on, Left}
use Rattle.rules.proofs.Times.{times-front, times-cons}
use Rattle.rules.proofs.Once.{all_slots}
use Rattle.rules.proofs.Lengths.{roomy}
use Rattle.rules.proofs.Searching.{adds_insert, adds-size}
use Rattle.rules.proofs.Serving.{good-serve}
use Rattle.rules.proofs.Stored.{holds_laid}
use Rattle.node.specs.Node.{entry}
use Rattle.pool.specs.Around.{Header, Claimed}
use Rattle.pool.proofs.Chains.{chained-kept}
use Rattle.std.specs.Prelude.{Some, None}
use Rattle.settle.specs.Settling.{root_of}
use Rattle.settle.specs.declared.Settled.{Settled}
use Rattle.tree.specs.Edits.{Inserting, Inserts}
use Rattle.tree.proofs.Inserting.{times_inserted}
use Rattle.serve.specs.Answers.{Answers}
use Rattle.request.specs.Answers.{outcome_number, refusal_number}
use Rattle.request.specs.declared.Outcome.TheVariants.{Done, There}
use Rattle.request.specs.declared.Refusal.TheVariants.{Full}
use Rattle.serve.proofs.Laying.{same_words, header-kept, left-words, claimed-once, in_order, header-there, holds-standing}

-- the first free slot is a slot that no entry has
free-slot : {ws : List ℕ} {t : Tree} {s : ℕ} {rest : List ℕ} → Holds ws (pool t (s ∷ rest))
    → Within (drop header_words ws) s × (times s (slots t) ≡ 0) × (slot_word (drop header_words ws) s 4 ≡ first rest)
free-slot {ws} {t} {s} {rest} h = go (holds_laid h).chained
  where
    go : Chained (drop header_words ws) (s ∷ rest) → Within (drop header_words ws) s × (times s (slots t) ≡ 0) × (slot_word (drop header_words ws) s 4 ≡ first rest)
    go (goes_on f chain) =
        (f.at, omega (arith, claimed-once h s, times-front s rest), f.links_word)

-- where the first free slot is none, the chain is empty, and else it begins there
module _ {ws : List ℕ} {t : Tree} where
  full : (free : List ℕ) → Holds ws (pool t free) → get_or ws 1 0 ≡ 0 → free ≡ []
  full [] h e = refl
  full (s ∷ rest) h e =
      let at = (free-slot h).0.from_one in
      let is = (holds_laid h).head.free_word in
      absurd (omega arith)

-- the same for any chain: what is asked of the first free slot
pub inserting-first : {ws : List ℕ} (p : Pool) → Holds ws p → (get_or ws 1 0 ≡ 0 → ⊥)
    → Inserting (drop header_words ws) (get_or ws 0 0) (get_or ws 1 0) p.tree
inserting-first {ws} p h there = go p.free h
  where
    go : (free : List ℕ) → Holds ws (pool p.tree free) → Inserting (drop header_words ws) (get_or ws 0 0) (get_or ws 1 0) p.tree
    go [] h = absurd (there (holds_laid h).head.free_word)
    go (s ∷ rest) h =
        let is = (holds_laid h).head.free_word in
        let slot = free-slot h in
        record { standing = holds-standing h; within = rw is slot.0; absent = rw is slot.1 }

pub free-within : {ws : List ℕ} (p : Pool) → Holds ws p → (get_or ws 1 0 ≡ 0 → ⊥) → Within (drop header_words ws) (get_or ws 1 0)
free-within p h there = (inserting-first p h there).within

-- there is room to count one more
few-live : {ws : List ℕ} (p : Pool) → Holds ws p → get_or ws 2 0 ≤ most_slots
few-live {ws} p h =
    let is = (holds_laid h).head.live_word in
    let room = roomy (length ws) h.right in
    let all = all_slots (capacity (length ws)) p h.is_good in
    omega arith

-- the answer where the range is found, and nothing was written
pub answers-there : {ws : List ℕ} {p : Pool} (k : Range) (v : ℕ) → Holds ws p → true ≡ is_some (find k p.tree)
    → Answers ws ws (outcome_number There) (insert_into (find k p.tree) p.free k v p)
answers-there {ws} {p} k v h found = go (find k p.tree) found
  where
    go : (o : Option Entry) → true ≡ is_some o → Answers ws ws (outcome_number There) (insert_into o p.free k v p)
    go none e = absurd (let z : ◌≡◌ {A = ℕ} 0 1 = cc in omega arith)
    go (some e) f = record { number_is = refl; words_are = h.all_words }

-- the answer where the range is not found and no slot is free
pub answers-full : {ws : List ℕ} (p : Pool) (k : Range) (v : ℕ) → Holds ws p → get_or ws 1 0 ≡ 0 → false ≡ is_some (find k p.tree)
    → Answers ws ws (refusal_number Full) (insert_into (find k p.tree) p.free k v p)
answers-full {ws} p k v h e new = go (find k p.tree) p.free new (full p.free h e)
  where
    go : (o : Option Entry) (free : List ℕ) → false ≡ is_some o → free ≡ [] → Answers ws ws (refusal_number Full) (insert_into o free k v p)
    go none [] f e = record { number_is = refl; words_are = h.all_words }
    go none (s ∷ rest) f e = absurd (let z : ◌≡◌ {A = ℕ} 0 1 = cc in omega arith)
    go (some x) free f e = absurd (let z : ◌≡◌ {A = ℕ} 0 1 = cc in omega arith)

-- the tree's own insert found the range: nothing was written
pub answers-kept : {ws after : List ℕ} (p : Pool) (k : Range) (v : ℕ) → Holds ws p → (get_or ws 1 0 ≡ 0 → ⊥)
    → take header_words after ≡ take header_words ws
    → ((t : Tree) → Inserting (drop header_words ws) (get_or ws 0 0) (get_or ws 1 0) t
    → Inserts None (drop header_words ws) (drop header_words after) (entry (get_or ws 1 0) k.start k.end v) t)
    → Answers ws after (outcome_number There) (insert_into (find k p.tree) p.free k v p)
answers-kept {ws} {after} p k v h there head done =
    let told = done p.tree (inserting-first p h there) in
    rw (same_words ws after head told.1) (answers-there k v h (rw told.0.1 refl))

-- the entry is in the tree that is left at the root
abbrev Puts : ℕ → List ℕ → List ℕ → Entry → Tree → Type 0
Puts root ss after x t = (find x.range t ≡ none) × Left ss after root (insert x t)

-- the entry went in: its slot is off the chain, and the header says so
answers-put : {ws after : List ℕ} {top : ℕ} (between : List ℕ) (p : Pool) (k : Range) (v : ℕ) → Holds ws p → (get_or ws 1 0 ≡ 0 → ⊥)
    → take header_words between ≡ take header_words ws
    → ((t : Tree) → Inserting (drop header_words ws) (get_or ws 0 0) (get_or ws 1 0) t
    → Puts top (drop header_words ws) (drop header_words between) (entry (get_or ws 1 0) k.start k.end v) t)
    → length after ≡ length ws
    → drop header_words after ≡ drop header_words between
    → Header after top (slot_word (drop header_words ws) (get_or ws 1 0) 4) (get_or ws 2 0 + 1) 0
    → Answers ws after (outcome_number Done) (insert_into (find k p.tree) p.free k v p)
unfolding serve range_to
answers-put {ws} {after} {top} between p k v h there head done long same header =
    let told = done p.tree (inserting-first p h there) in
    rw told.0 (go p.free h told)
  where
    go : (free : List ℕ) → Holds ws (pool p.tree free)
        → Puts top (drop header_words ws) (drop header_words between) (entry (get_or ws 1 0) k.start k.end v) p.tree
        → Answers ws after (outcome_number Done) (insert_into none free k v p)
    go [] h told = absurd (there (holds_laid h).head.free_word)
    go (s ∷ rest) h told =
        let c = capacity (length ws) in
        let t = p.tree in
        let x = entry s k.start k.end v in
        let is = (holds_laid h).head.free_word in
        let slot = free-slot h in
        let stored = rw is at told.1 in
        let bigger = adds-size t (insert x t) (adds_insert x t (in_order h) told.0) in
        let kept_good : good c (pool (insert x t) rest) ≡ true =
        rw told.0 at (good-serve c (inserting excluded k.start k.end v) (pool t (s ∷ rest)) h.is_good)
        in
        record {
          number_is = refl;
          words_are =
              left-words h long kept_good
              (record {
                head =
                    record {
                      root_word = header.root_word ∙ sym stored.rooted.rooted;
                      free_word = header.free_word ∙ rw is slot.2;
                      live_word = let live = (holds_laid h).head.live_word in header.live_word ∙ omega arith;
                      zero_word = header.last_word;
                    };
                stored = rw same stored.rooted.stored;
                chained =
                    rw same
                    (chained-kept stored.kept
                    (λ y n.
                    omega (arith, times_inserted y x t told.0, claimed-once h y, times-cons y s rest))
                    (goes (holds_laid h).chained));
              });
        }
      where
        goes : Chained (drop header_words ws) (s ∷ rest) → Chained (drop header_words ws) rest
        goes (goes_on f chain) = chain

-- the same, as the calls leave it
pub answers-claimed : {ws after : List ℕ} {top : Settled} {root next : ℕ} (between : List ℕ) (p : Pool) (k : Range) (v : ℕ) → Holds ws p
    → (get_or ws 1 0 ≡ 0 → ⊥)
    → take header_words between ≡ take header_words ws
    → ((t : Tree) → Inserting (drop header_words ws) (get_or ws 0 0) (get_or ws 1 0) t
    → Inserts (Some top) (drop header_words ws) (drop header_words between) (entry (get_or ws 1 0) k.start k.end v) t)
    → root ≡ root_of top
    → length between ≡ length ws
    → next ≡ slot_word (drop header_words ws) (get_or ws 1 0) 4
    → Claimed between after root next
    → Answers ws after (outcome_number Done) (insert_into (find k p.tree) p.free k v p)
answers-claimed {ws} between p k v h there head done root_is long next_is claimed =
    answers-put between p k v h there head
    (λ t i. let put = done t i in (put.0, rw root_is put.1.left))
    (claimed.long ∙ long) claimed.same_slots
    (record {
      root_word = claimed.header.root_word;
      free_word = claimed.header.free_word ∙ next_is;
      live_word = let live = header-kept 2 ws between (omega arith) head in claimed.header.live_word ∙ omega arith;
      last_word = claimed.header.last_word ∙ header-kept 3 ws between (omega arith) head ∙ (holds_laid h).head.zero_word;
    })

-- what a claim is given
pub claimable : {ws : List ℕ} (between : List ℕ) (p : Pool) → Holds ws p → take header_words between ≡ take header_words ws → length between ≡ length ws
    → (header_words ≤ length between) × (get_or between 2 0 < half)
claimable {ws} between p h head long =
    let live = header-kept 2 ws between (omega arith) head in
    let few = few-live p h in
    let there = header-there h in
    (omega arith, omega arith)
