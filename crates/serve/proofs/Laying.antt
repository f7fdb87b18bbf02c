-- The words that an edit leaves are those of the pool that is left: the header was set, the tree is stored, and the free
-- chain was not touched. Assumes nothing.
use Prim.Native.Nat.{ℕ, ◌≤◌, ◌<◌}
use mathlib.Core.Bool.{true}
use mathlib.Core.List.{List, ◌++◌}
use mathlib.Core.Path.{◌≡◌, sym, ap, ◌∙◌}
use native.Mathlib.Omega.{arith}
use lib.ListN.{length, get_or, take, drop, take-append-drop}
use lib.Seq.{get_or-take}
use Rattle.rules.specs.Limits.{header_words}
use Rattle.rules.specs.Tree.{entries}
use Rattle.rules.specs.Pool.{Pool, words, capacity, good, ascending, Holds}
use Rattle.rules.proofs.Lengths.{roomy}
use Rattle.rules.proofs.Once.{claims, good-says, at_most_once}
use Rattle.rules.proofs.Stored.{Laid, laid_words, holds-rooted}
use Rattle.pool.proofs.Parts.{part_from, part_lent, with_part, length_with_part}
use Rattle.tree.specs.Edits.{Standing}

-- a header word is kept where the header is
pub header-kept : (i : ℕ) (ws after : List ℕ) → i < header_words → take header_words after ≡ take header_words ws → get_or after i 0 ≡ get_or ws i 0
header-kept i ws after h same = sym (get_or-take header_words after i 0 h) ∙ ap (λ (xs : List ℕ). get_or xs i 0) same ∙ get_or-take header_words ws i 0 h

-- words that have both parts in common are the same
pub same_words : (ws after : List ℕ) → take header_words after ≡ take header_words ws → drop header_words after ≡ drop header_words ws → after ≡ ws
same_words ws after p q =
    sym (take-append-drop header_words after)
    ∙ ap (λ (xs : List ℕ). xs ++ drop header_words after) p
    ∙ ap (λ (xs : List ℕ). take header_words ws ++ xs) q
    ∙ take-append-drop header_words ws

-- what is laid after an edit, of the same length and good, are the pool's words
pub left-words : {ws after : List ℕ} {p q : Pool} → Holds ws p → length after ≡ length ws
    → good (capacity (length ws)) q ≡ true
    → Laid after q
    → after ≡ words (capacity (length ws)) q
left-words {ws} {after} {q = q} h long is_good laid =
    laid_words (capacity (length ws)) q after is_good (long ∙ (roomy (length ws) h.right).exact) laid

-- the pool's own parts: no slot is claimed twice
pub claimed-once : {ws : List ℕ} {p : Pool} → Holds ws p → (s : ℕ) → claims s p ≤ 1
claimed-once {ws} {p} h s = at_most_once (good-says (capacity (length ws)) p h.is_good) s

pub in_order : {ws : List ℕ} {p : Pool} → Holds ws p → ascending (entries p.tree) ≡ true
in_order {ws} {p} h = (good-says (capacity (length ws)) p h.is_good).in_order

-- the header's words of a held pool are there
pub header-there : {ws : List ℕ} {p : Pool} → Holds ws p → 10 ≤ length ws
header-there {ws} h = let room = roomy (length ws) h.right in omega arith

-- and its tree is balanced
pub holds-standing : {ws : List ℕ} {p : Pool} → Holds ws p → Standing (drop header_words ws) (get_or ws 0 0) p.tree
holds-standing {ws} {p} h =
    record { rooted = holds-rooted h; is_balanced = (good-says (capacity (length ws)) p h.is_good).even }

-- a call on the slots leaves as many words
pub slots-long : {ws : List ℕ} (slots : List ℕ) {p : Pool} → Holds ws p → length slots ≡ length (part_from header_words ws)
    → length (with_part header_words ws slots) ≡ length ws
slots-long {ws} slots h same =
    let there = header-there h in
    length_with_part header_words ws slots (omega arith) (same ∙ ap length (part_lent header_words ws))
