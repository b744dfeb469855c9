-- For bodies
pub mod Channels
pub mod Order
pub mod Structure
