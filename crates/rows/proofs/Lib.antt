-- The laws of the query by words: one row more, and the hits that are counted and written so far.
pub mod Lines
pub mod Listing
