pub mod Averaging
pub mod InPlace
mod Joining
mod Moving
mod Neighbours
mod OneMore
pub mod Projecting
pub mod Reading
pub mod Rising
pub mod Searching
pub mod Summing
pub mod Made
