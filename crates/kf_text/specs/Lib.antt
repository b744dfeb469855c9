-- Believed
pub mod Texts
pub mod ReportTexts
pub mod AttackTexts
pub mod BlameTexts
pub mod CapacityTexts
pub mod VerdictTexts
-- For bodies
pub mod AttackViews
pub mod BlameViews
pub mod CapacityViews
pub mod Endings
pub mod Parts
pub mod Views
