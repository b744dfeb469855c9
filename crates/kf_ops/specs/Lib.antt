-- Believed
pub mod Places
pub mod Rows
pub mod Values
-- For bodies
pub mod Answers
pub mod Fitting
pub mod Laws
pub mod Merging
pub mod Sets
pub mod Table
pub mod Views
