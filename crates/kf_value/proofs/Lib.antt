pub mod Alike
mod Apart
pub mod Ascending
pub mod Comparing
mod Deciding
mod Dividing
mod Digits
mod Examples
mod Finding
mod Items
mod LastItem
pub mod ListLemmas
pub mod Orders
mod ByForm
mod Numbering
mod Parts
pub mod Places
mod Printing
pub mod Ranges
mod ReadingElements
mod ReadingNumbers
mod ReadingRows
mod ReadingTargets
mod Replacing
mod Sets
mod Sizing
pub mod Sorting
mod Telling
pub mod Trees
mod Widening
