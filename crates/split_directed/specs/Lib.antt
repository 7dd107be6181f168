pub mod Allowed
pub mod Half
pub mod Pairs
pub mod Rows
pub mod State
pub mod Turn
pub mod Ways
