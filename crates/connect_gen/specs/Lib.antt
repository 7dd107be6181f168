-- Generated graphs.
pub mod Draws
pub mod Generated
