-- The laws that the proofs of the functions cite.
pub mod Changed
pub mod Counting
pub mod Gained
pub mod Lost
