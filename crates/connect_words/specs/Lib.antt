pub mod Commands
pub mod Places
pub mod Blanks
pub mod Asks
pub mod Trials
