pub mod Found
pub mod Giving
pub mod Pieces
pub mod Rooms
pub mod Taking
