pub mod Matroid
pub mod Sets
pub mod Growing
pub mod Parts
pub mod Search
pub mod Union
