pub mod NumberLemmas
pub mod CommandLemmas
pub mod VerbLemmas
pub mod PlaceLemmas
pub mod ReaderLemmas
pub mod AskLemmas
pub mod MeaningLemmas
