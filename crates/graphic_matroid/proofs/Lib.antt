pub mod RootLaws
pub mod ComponentLaws
pub mod Steps
pub mod GrowingLaws
pub mod RowForests
pub mod Dual
pub mod DualCounts
