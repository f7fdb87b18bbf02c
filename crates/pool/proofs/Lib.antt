-- The laws of what stands around the slots: parts that are lent, freed slots, chains, the header, and the edited pool.
pub mod Parts
pub mod Freed
pub mod Chains
pub mod Headers
pub mod Changed
