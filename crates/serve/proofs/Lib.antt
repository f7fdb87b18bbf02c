-- The laws of requests to a sound pool.
pub mod Laying
pub mod Putting
pub mod Taking
