-- Demand 3 of the entries.
pub mod Shown
