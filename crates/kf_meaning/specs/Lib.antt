-- For bodies
pub mod Channels
pub mod Choosing
pub mod Faults
pub mod Tasks
pub mod Trails
