-- What is asked of two slots, of a free slot and of the header.
pub mod Slot
