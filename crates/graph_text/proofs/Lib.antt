-- Lemmas on lines, names and texts.
pub mod ListLemmas
pub mod LinesLemmas
pub mod NamesLemmas
pub mod NumberLemmas
pub mod DraftLemmas
pub mod CutLemmas
pub mod TextLemmas
pub mod ReadLemmas
pub mod SkipLemmas
pub mod LawLemmas
pub mod SpellingLemmas
pub mod BackLemmas
