pub mod ArcStars
pub mod CrossPair
pub mod LeastProper
pub mod Lowering
pub mod TightFamilies
