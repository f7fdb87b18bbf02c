-- The laws of the program's pool.
pub mod Holding
