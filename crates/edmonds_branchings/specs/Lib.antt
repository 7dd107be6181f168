pub mod LeastSide
pub mod Network
pub mod Rooted
pub mod Round
pub mod Row
