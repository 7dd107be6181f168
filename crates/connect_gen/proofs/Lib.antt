mod DrawLaws
pub mod GeneratedLaws
