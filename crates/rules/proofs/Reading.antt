-- What is read from words by their links: a stored tree and a chain are read back, so what is read from words that hold a
-- pool is that pool. Assumes nothing.
use Prim.Native.Nat.{ℕ, zero, suc, ◌+◌, ◌*◌, ◌/◌, ◌%◌, ◌≤◌, ◌<◌}
use mathlib.Core.List.{List, [], ◌∷◌}
use mathlib.Core.Path.{◌≡◌, refl}
use native.Mathlib.Omega.{arith}
use lib.ListN.{length}
use borrow.Author.Tests.{ne_eqb}
use Rattle.rules.specs.Limits.{most_slots, slot_words, half}
use Rattle.rules.specs.Tree.{Entry, Tree, leaf, node, levels, root}
use Rattle.rules.specs.Pool.{Pool, first, capacity, Holds}
use Rattle.rules.specs.Stored.{slot_word, Bears, Stored, none, live, Chained, ends, goes_on}
use Rattle.rules.specs.Held.{entry_at, tree_at, chain_at, reading}
use Rattle.rules.proofs.Once.{all_slots, levels-size}
use Rattle.rules.proofs.Stored.{holds_laid, holds-rooted}

-- "two halves of one word": a word of two small numbers gives back both, its low half
pub low_half : (w a b : ℕ) → w ≡ a + half * b → a < half → w % half ≡ a
low_half w a b h low = omega arith

-- and its high half
pub high_half : (w a b : ℕ) → w ≡ a + half * b → a < half → w / half ≡ b
high_half w a b h low = omega arith

-- a stored tree's root is a slot number, so it fits in half a word
pub root-fits : {ss : List ℕ} {t : Tree} → Stored ss t → length ss ≤ slot_words * most_slots → root t < half
root-fits none h = omega arith
root-fits (live b w p q) h = omega arith

-- what is read from no slot, and from a slot
no_tree-at : (n : ℕ) (ss : List ℕ) → tree_at n ss 0 ≡ leaf
unfolding tree_at
no_tree-at zero ss = refl
no_tree-at (suc n) ss = refl

some-tree_at : (n : ℕ) (ss : List ℕ) (s : ℕ) → 1 ≤ s
    → tree_at (suc n) ss s
    ≡ node (entry_at ss s) (tree_at n ss (slot_word ss s 4 % half)) (tree_at n ss (slot_word ss s 4 / half))
unfolding tree_at
some-tree_at n ss s h = rw (ne_eqb s 0 (λ z. omega arith), tree_at) refl

-- and so along a chain
no_chain_at : (n : ℕ) (ss : List ℕ) → chain_at n ss 0 ≡ []
unfolding chain_at
no_chain_at zero ss = refl
no_chain_at (suc n) ss = refl

some-chain_at : (n : ℕ) (ss : List ℕ) (s : ℕ) → 1 ≤ s
    → chain_at (suc n) ss s ≡ s ∷ chain_at n ss (slot_word ss s 4)
unfolding chain_at
some-chain_at n ss s h = rw (ne_eqb s 0 (λ z. omega arith), chain_at) refl

-- an entry is read back from its slot
pub entry_read : {ss : List ℕ} {e : Entry} → Bears ss e → entry_at ss e.slot ≡ e
entry_read b = simp (b.start_word, b.end_word, b.value_word)

-- a stored tree is read back by its links
pub tree-read : {ss : List ℕ} (n : ℕ) {t : Tree} → Stored ss t → length ss ≤ slot_words * most_slots → levels t ≤ n
    → tree_at n ss (root t) ≡ t
tree-read n none h k = no_tree-at n _
tree-read zero (live b w p q) h k = absurd (omega arith)
tree-read {ss} (suc n) (live {e} {l} {r} b w p q) h k =
    let fits = root-fits p h in
    cc (
      some-tree_at n ss e.slot b.at.from_one,
      entry_read b,
      low_half (slot_word ss e.slot 4) (root l) (root r) w.links_word fits,
      high_half (slot_word ss e.slot 4) (root l) (root r) w.links_word fits,
      tree-read n p h (omega arith),
      tree-read n q h (omega arith),
    )

-- and a chain
pub chain-read : {ss : List ℕ} (n : ℕ) {xs : List ℕ} → Chained ss xs → length xs ≤ n → chain_at n ss (first xs) ≡ xs
chain-read n ends k = no_chain_at n _
chain-read zero (goes_on f p) k = absurd (omega arith)
chain-read {ss} (suc n) (goes_on {s = s} {xs = xs} f p) k =
    cc (some-chain_at n ss s f.at.from_one, f.links_word, chain-read n p (omega arith))

-- so what is read from words that hold a pool is that pool
pub reading-held : {ws : List ℕ} {p : Pool} → Holds ws p → reading ws ≡ p
unfolding reading
reading-held {ws} {p} h =
    let c : ℕ = capacity (length ws) in
    let laid = holds_laid h in
    let count = all_slots c p h.is_good in
    rw (
      laid.head.root_word,
      laid.head.free_word,
      tree-read c laid.stored (holds-rooted h).room (omega (arith, levels-size p.tree)),
      chain-read c laid.chained (omega arith),
    )
