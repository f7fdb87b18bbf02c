-- The laws of the tests: two entries as bounds, and the header's test as facts of the words.
pub mod Bounds
pub mod Heads
