-- What the answer of `Stretch::range` says of the range, and what a refusal is when it is answered on.
pub mod Refused
pub mod Ranged
