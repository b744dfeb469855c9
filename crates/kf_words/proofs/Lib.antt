mod AskedTasks
mod FirstRows
mod GainNames
mod Matches
pub mod Numerals
mod TableRows
pub mod TaskRanges
