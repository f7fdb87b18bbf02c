-- The laws of the entries: a refused pool, and a sound one.
pub mod Answering
pub mod Telling
