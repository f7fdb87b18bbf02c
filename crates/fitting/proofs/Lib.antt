-- The laws of a slot with its children that the proofs of the functions and of the check cite.
pub mod Exact
pub mod Nodes
