pub mod Forcing
pub mod Kept
pub mod Marks
pub mod Rows
pub mod Search
pub mod Spent
pub mod Start
pub mod Ways
