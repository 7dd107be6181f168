-- What the number of failures is.
pub mod Failures
