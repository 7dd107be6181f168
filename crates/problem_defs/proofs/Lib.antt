pub mod BestLaw
pub mod NeverLaw
pub mod TreeLines
pub mod VerbLaws
