pub mod Halves
pub mod Mader
pub mod Rows
pub mod Splits
pub mod Stars
pub mod Turns
pub mod WrittenPairs
