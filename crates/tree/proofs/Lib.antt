-- The laws of edits in slots: a changed child is hung in its place and balanced, on either side.
pub mod Hanging
pub mod Inserting
pub mod Shedding
pub mod Deleting
pub mod Removing
pub mod Containing
