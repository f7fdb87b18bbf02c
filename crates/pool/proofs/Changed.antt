-- What formatting, a release and a claim leave of all words: the header, and the slots as the part that was lent came
-- back. Assumes nothing.
use Prim.Native.Nat.{ℕ, zero, suc, ◌+◌, ◌-◌, ◌*◌, ◌/◌, ◌≤◌}
use mathlib.Core.Bool.{true}
use mathlib.Core.List.{List, [], ◌∷◌}
use mathlib.Core.Path.{◌≡◌, refl, sym, ap, ◌∙◌}
use native.Mathlib.Omega.{arith}
use lib.ListN.{length, get_or, drop, set, length-set, length-drop}
use lib.Seq.{get_or-set_same}
use Rattle.rules.specs.Limits.{header_words, slot_words}
use Rattle.rules.specs.Tree.{leaf}
use Rattle.rules.specs.Pool.{first, slot_of, words, capacity, right_length, count_up, fresh}
use Rattle.rules.specs.Stored.{none, Chained, Kept}
use Rattle.rules.proofs.Lengths.{roomy}
use Rattle.rules.proofs.Once.{good-fresh}
use Rattle.rules.proofs.Stored.{laid_words}
use Rattle.pool.specs.Around.{with_slot, with_header, Header, Released, Claimed}
use Rattle.pool.proofs.Parts.{part_from, part_lent, with_part, part_after, length_with_part}
use Rattle.pool.proofs.Freed.{freed, slot_kept}
use Rattle.pool.proofs.Headers.{slot-there, header-stored, slots_stay, header-long, header_part}

-- a claim stores the header alone
pub claimed : (ws : List ℕ) (top next : ℕ) → header_words ≤ length ws
    → Claimed ws (with_header ws top next (get_or ws 2 0 + 1)) top next
claimed ws top next long =
    record {
      long = header-long ws top next (get_or ws 2 0 + 1);
      header = header-stored ws top next (get_or ws 2 0 + 1) long;
      same_slots = slots_stay ws top next (get_or ws 2 0 + 1);
    }

-- the words `whole`: those of `ws` with another header, and with `ss` after it
record Recast (ws : List ℕ) (root free live : ℕ) (ss whole : List ℕ) : Type 0 where
  long : length whole ≡ length ws
  header : Header whole root free live (get_or ws 3 0)
  slots_are : drop header_words whole ≡ ss

module _ (ws : List ℕ) (root free live : ℕ) {headed : List ℕ} (h : headed ≡ with_header ws root free live) where
  -- the header is stored, and then the part after it is lent: the part is the slots as they were
  pub lent_slots : part_from header_words headed ≡ drop header_words ws
  lent_slots = part_lent header_words headed ∙ ap (drop header_words) h ∙ slots_stay ws root free live

  -- and comes back
  recast : (ss : List ℕ) → header_words ≤ length ws → length ss ≡ length (drop header_words ws)
      → Recast ws root free live ss (with_part header_words headed ss)
  recast ss long same =
      let same_long : length headed ≡ length ws = ap length h ∙ header-long ws root free live in
      let room : header_words ≤ length headed = omega arith in
      let stays : drop header_words headed ≡ drop header_words ws =
      ap (drop header_words) h ∙ slots_stay ws root free live in
      record {
        long = length_with_part header_words headed ss room (same ∙ ap length (sym stays)) ∙ same_long;
        header = header_part {ws = headed} ss room (rw h (header-stored ws root free live long));
        slots_are = part_after header_words headed ss room;
      }

-- a release stores the header, and frees the slot in the part
pub released : {ws headed ss : List ℕ} {top slot : ℕ} → 1 ≤ slot → header_words + slot_words * slot ≤ length ws
    → headed ≡ with_header ws top slot (get_or ws 2 0 - 1)
    → ss ≡ with_slot (part_from header_words headed) slot (slot_of leaf (get_or ws 1 0))
    → Released ws (with_part header_words headed ss) top slot
released {ws} {headed} {ss} {top} {slot} from_one inside h k =
    let w = slot-there ws from_one inside in
    let old : List ℕ = drop header_words ws in
    let next : ℕ = get_or ws 1 0 in
    let left : ss ≡ with_slot old slot (slot_of leaf next) =
    k ∙ ap (λ us. with_slot us slot (slot_of leaf next)) (lent_slots ws top slot (get_or ws 2 0 - 1) h) in
    let kept : Kept (slot ∷ []) old (with_slot old slot (slot_of leaf next)) =
    slot_kept old slot (slot_of leaf next) w refl in
    let all = recast ws top slot (get_or ws 2 0 - 1) h ss (omega arith) (ap length left ∙ kept.long) in
    let slots_are : drop header_words (with_part header_words headed ss) ≡ with_slot old slot (slot_of leaf next) =
    all.slots_are ∙ left in
    record {
      long = all.long;
      header = all.header;
      freed = rw slots_are (freed old slot next w);
      kept = rw slots_are kept;
    }

-- the first of the numbers that are counted up
first_up : (n a : ℕ) → 1 ≤ n → first (count_up n a) ≡ a
first_up zero a h = absurd (omega arith)
first_up (suc n) a h = refl

-- formatting makes the header's last word zero, stores the header of an empty tree, and chains all slots in the part
pub formatted : (ws : List ℕ) {headed ss : List ℕ} → right_length (length ws) ≡ true
    → headed ≡ with_header (set ws 3 0) 0 1 0
    → length ss ≡ length (part_from header_words headed)
    → Chained ss (count_up (length (part_from header_words headed) / slot_words) 1)
    → with_part header_words headed ss ≡ words (capacity (length ws)) (fresh (capacity (length ws)))
formatted ws {headed} {ss} right h same chained =
    let room = roomy (length ws) right in
    let c : ℕ = capacity (length ws) in
    let lent = lent_slots (set ws 3 0) 0 1 0 h in
    let set_long : length (set ws 3 0) ≡ length ws = length-set ws 3 0 in
    let part_long : length (part_from header_words headed) ≡ slot_words * c =
    ap length lent ∙ length-drop header_words (set ws 3 0) ∙ omega (arith, room) in
    let slots : length (part_from header_words headed) / slot_words ≡ c = omega arith in
    let all = recast (set ws 3 0) 0 1 0 h ss (omega (arith, room)) (same ∙ ap length lent) in
    laid_words c (fresh c) (with_part header_words headed ss) (good-fresh c) (all.long ∙ set_long ∙ room.exact)
    (record {
      head =
          record {
            root_word = all.header.root_word;
            free_word = all.header.free_word ∙ sym (first_up c 1 room.some_slot);
            live_word = all.header.live_word;
            zero_word = all.header.last_word ∙ get_or-set_same ws 3 0 0 (omega (arith, room));
          };
      stored = none;
      chained = rw all.slots_are (rw slots at chained);
    })
