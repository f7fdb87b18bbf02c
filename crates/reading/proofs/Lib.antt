-- Laws of what is read. The check finds most functions' proofs without them.
pub mod Numbers
pub mod Rows
pub mod Found
