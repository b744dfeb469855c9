pub mod Blames
mod AllBlames
mod Unseen
mod Pushed
mod HushRuns
mod HushWorth
mod HushRows
mod Hushed
pub mod Widths
pub mod Worths
pub mod Refining
