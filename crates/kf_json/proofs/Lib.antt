pub mod Carrying
pub mod Distinct
pub mod Viewing
