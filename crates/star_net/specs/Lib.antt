pub mod LeastProper
pub mod Lowered
pub mod TightArcStar
pub mod TightFamily
pub mod TightStar
