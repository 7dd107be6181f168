pub mod Branch
pub mod Grown
pub mod Order
pub mod PairSide
pub mod Turn
pub mod Way
