-- The laws of the walk that keeps hold of its pool, and of the query by records: which hit is the first, and that records are
-- the words form's rows.
pub mod Earliest
pub mod Records
