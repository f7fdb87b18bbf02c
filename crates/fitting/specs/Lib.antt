-- What is asked of a slot with its children.
pub mod Fits
