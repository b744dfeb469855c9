mod AtEachPrior
pub mod BeginPrograms
pub mod BeginRuns
mod Building
mod Counting
mod Evaluating
mod FullTargets
mod FullTypes
mod Literal
pub mod PriorCells
pub mod PriorFull
pub mod PriorHypers
pub mod PriorItems
pub mod PriorLaws
pub mod PriorRows
pub mod PriorStays
pub mod PriorStores
pub mod PriorTargets
pub mod PriorWorth
mod Turns
mod Written
