pub mod Editing
pub mod Obeyed
pub mod Queries
pub mod Shapes
