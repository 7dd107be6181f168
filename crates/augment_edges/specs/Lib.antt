pub mod Even
pub mod Row
