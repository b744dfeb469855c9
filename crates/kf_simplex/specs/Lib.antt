-- Believed
pub mod Answers
pub mod Base
pub mod Runs
pub mod Systems
pub mod Tableaus
-- For bodies
pub mod Building
pub mod Cells
pub mod Columns
pub mod Entries
pub mod Flat
pub mod Laws
pub mod Solutions
pub mod Turns
pub mod Views
