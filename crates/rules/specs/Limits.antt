-- The numbers of document 01 that a later request may raise, each named once.
use Rattle.std.specs.Prelude.{ℕ, ◌^◌}

-- "A pool has 1 to 4,095 slots."
abbrev pub most_slots : ℕ
most_slots = 4095

-- "so 4,095 entries give height 15 at most and 16 pending nodes": as many as the levels of the highest tree
abbrev pub most_pending : ℕ
most_pending = 16

-- "4 header words, then 6 for each slot"
abbrev pub header_words : ℕ
header_words = 4

abbrev pub slot_words : ℕ
slot_words = 6

-- "Links is left + 65,536 × right, two halves of one word"
abbrev pub half : ℕ
half = 65536

-- "positions and values are unsigned 64-bit": each is below this number
abbrev pub beyond : ℕ
beyond = 2 ^ 64
