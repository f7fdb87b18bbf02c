pub mod Arrays
pub mod Counting
pub mod Format
pub mod Lines
pub mod Noted
pub mod Nodes
