-- For bodies
pub mod Sums
pub mod Tables
pub mod Views
pub mod ClassViews
