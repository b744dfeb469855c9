mod Attacked
mod Inners
mod Least
mod MoreTries
pub mod Order
mod Positions
mod Ranks
mod Scoring
pub mod Shown
mod Taking
pub mod Worths
mod Zips
