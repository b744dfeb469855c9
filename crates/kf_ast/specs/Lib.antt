-- Believed
pub mod Names
pub mod TypeForms
pub mod Exprs
pub mod Dists
pub mod Stmts
pub mod Sources
-- For bodies
pub mod Views
pub mod Built
