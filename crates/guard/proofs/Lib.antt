-- The laws of an entry that begins with the check: a refused pool, and a sound one.
pub mod Guarded
