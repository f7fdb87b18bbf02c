pub mod Flag
