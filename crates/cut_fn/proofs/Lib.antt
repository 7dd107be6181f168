pub mod Families
pub mod Opposite
pub mod StarSums
pub mod Uncrossing
