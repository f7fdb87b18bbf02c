-- The laws of rotations in slots. Those that split on the side stand in Sides, and all others hold for either side.
pub mod Sides
pub mod Rotated
pub mod Mended
pub mod Chosen
