-- For bodies
pub mod Traced
pub mod Folded
pub mod Laws
pub mod Views
pub mod Visits
