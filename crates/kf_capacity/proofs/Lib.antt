pub mod HyperCapacity
pub mod Cases
pub mod Channels
mod Choices
pub mod Denominators
mod Digits
mod Dividing
mod Fitting
mod Inners
pub mod HyperSums
mod Named
mod OwnDenominators
mod Paired
mod Passing
pub mod Pieces
mod Products
mod Sums
mod TraceOrder
mod Walking
mod Widths
mod Worth
