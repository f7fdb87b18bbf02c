-- The laws of the walk: what is found at a node, the pending trees on the stack, the next hit, and that a sound pool can
-- be walked.
pub mod Looking
pub mod Stack
pub mod Taking
pub mod Onward
pub mod Seeking
pub mod Going
pub mod Sound
