-- The laws of the check: strict order around an entry, the marks, and from them what each step finds.
pub mod Decisions
pub mod Split
pub mod Parents
pub mod Marks
pub mod Grows
pub mod Verdict
pub mod Spine
pub mod Chains
pub mod Counts
pub mod Whole
pub mod Answers
