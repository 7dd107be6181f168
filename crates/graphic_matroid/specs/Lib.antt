pub mod Chosen
pub mod ChosenLaws
pub mod Components
pub mod ForestLaws
pub mod Forests
pub mod Growing
pub mod Roots
pub mod Unfit
