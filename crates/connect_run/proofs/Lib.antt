-- Lemmas on answers.
pub mod StatusLemmas
pub mod AnswerLemmas
pub mod CommandLemmas
pub mod ExactLemmas
