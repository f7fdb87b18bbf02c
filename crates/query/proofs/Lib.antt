-- The laws of what is to be walked for a query.
pub mod Asking
