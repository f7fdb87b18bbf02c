-- The pool: document 01, "The pool, word by word". A pool is its tree and its free chain; they fix every word.
use Rattle.std.specs.Prelude.{ℕ, zero, suc, ◌+◌, ◌-◌, ◌*◌, ◌/◌, max, Bool, true, cond, ◌&&◌, List, [], ◌∷◌, ◌++◌, map, ◌≡◌, leb, eqb, length, get_or}
use Rattle.rules.specs.Limits.{most_slots, header_words, slot_words, half}
use Rattle.rules.specs.Range.{order, is_less}
use Rattle.rules.specs.Tree.{Entry, Tree, leaf, node, levels, size, max_end, entries, root}

pub record Pool : Type 0 where
  pub tree : Tree
  -- "the free chain", from the first free slot on
  pub free : List ℕ

abbrev pub pool : Tree → List ℕ → Pool
pool t free = record { tree = t; free = free }

-- the first of two trees, or the second where the first is none
abbrev pub or_else : Tree → Tree → Tree
or_else leaf u = u
or_else (node e l r) u = node e l r

-- the subtree whose root is in slot s, none where no entry is
abbrev pub subtree : ℕ → Tree → Tree
subtree s leaf = leaf
subtree s (node e l r) = cond (eqb s e.slot) (node e l r) (or_else (subtree s l) (subtree s r))

-- the first of a chain, 0 for none
abbrev pub first : List ℕ → ℕ
first xs = get_or xs 0 0

-- the slot that comes after s in a chain, 0 for none
abbrev pub next : ℕ → List ℕ → ℕ
next s [] = 0
next s (x ∷ xs) = cond (eqb s x) (first xs) (next s xs)

-- "Slot: start, end, value, max, links, shape. Links is left + 65,536 × right, two halves of one word; shape is
-- height + 65,536 × size, higher bits zero." A node's height is one more than the larger child's, so the larger of
-- their levels. "A free slot has zeros, except that links holds the next free slot."
abbrev pub slot_of : Tree → ℕ → List ℕ
slot_of leaf after = 0 ∷ 0 ∷ 0 ∷ 0 ∷ after ∷ 0 ∷ []
slot_of (node e l r) after =
    e.range.start
    ∷ e.range.end
    ∷ e.value
    ∷ max_end (node e l r)
    ∷ (root l + half * root r)
    ∷ (max (levels l) (levels r) + half * size (node e l r))
    ∷ []

-- the words of slot s
abbrev pub slot_at : ℕ → Pool → List ℕ
slot_at s p = slot_of (subtree s p.tree) (next s p.free)

-- the words of n slots from slot s on
abbrev pub slots_from : ℕ → ℕ → Pool → List ℕ
slots_from zero s p = []
slots_from (suc n) s p = slot_at s p ++ slots_from n (suc s) p

-- "Header: root, first free slot, live count, zero." "the live count is the root's size; header word 3 is zero"
abbrev pub header : Pool → List ℕ
header p = root p.tree ∷ first p.free ∷ size p.tree ∷ 0 ∷ []

-- "4 header words, then 6 for each slot. Slots are numbered from 1": all words of a pool of c slots
unfoldable pub words : ℕ → Pool → List ℕ
words c p = header p ++ slots_from c 1 p

-- the slots of a run of n words
unfoldable pub capacity : ℕ → ℕ
capacity n = (n - header_words) / slot_words

-- "length is 4 + 6c", "c from 1 to 4,095"
unfoldable pub right_length : ℕ → Bool
right_length n =
    eqb n (header_words + slot_words * capacity n) && (leb 1 (capacity n) && leb (capacity n) most_slots)

-- "strict order"
abbrev pub ascending : List Entry → Bool
ascending [] = true
ascending (e ∷ []) = true
ascending (e ∷ f ∷ es) = is_less (order e.range f.range) && ascending (f ∷ es)

-- "all factors from -1 to 1"
abbrev pub balanced : Tree → Bool
balanced leaf = true
balanced (node e l r) =
    (leb (levels l) (suc (levels r)) && leb (levels r) (suc (levels l))) && (balanced l && balanced r)

abbrev pub slots : Tree → List ℕ
slots t = map (λ (e : Entry). e.slot) (entries t)

-- how often x stands in a list
abbrev pub times : ℕ → List ℕ → ℕ
times x [] = 0
times x (y ∷ ys) = cond (eqb x y) (suc (times x ys)) (times x ys)

-- each of a list is a slot of a pool of c slots
abbrev pub within : ℕ → List ℕ → Bool
within c [] = true
within c (x ∷ xs) = (leb 1 x && leb x c) && within c xs

-- each of 1 to c stands in the list once
abbrev pub each_once : ℕ → List ℕ → Bool
each_once zero xs = true
each_once (suc c) xs = eqb (times (suc c) xs) 1 && each_once c xs

-- what a sound pool of c slots asks of its tree and its free chain: "live slots form one tree from the root, no slot
-- twice; strict order; all factors from -1 to 1;" "the free chain ends and holds every other slot once"
unfoldable pub good : ℕ → Pool → Bool
good c p =
    (ascending (entries p.tree) && balanced p.tree)
    && (within c (slots p.tree ++ p.free) && each_once c (slots p.tree ++ p.free))

-- The words hold the pool: the length is right, the pool is good, and each word is as the pool fixes it.
-- "Sound means" that some pool is held.
pub record Holds (ws : List ℕ) (p : Pool) : Type 0 where
  pub right : right_length (length ws) ≡ true
  pub is_good : good (capacity (length ws)) p ≡ true
  pub all_words : ws ≡ words (capacity (length ws)) p

-- n numbers from s on
abbrev pub count_up : ℕ → ℕ → List ℕ
count_up zero s = []
count_up (suc n) s = s ∷ count_up n (suc s)

-- "Formatting links 1, 2, ... c as free, in that order, all else zero."
abbrev pub fresh : ℕ → Pool
fresh c = pool leaf (count_up c 1)
