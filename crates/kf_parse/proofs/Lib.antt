mod TrimSteps
mod TrimMaps
mod TrimCuts
mod TrimTrees
mod TrimLong
mod FirstDeep
mod OneCause
mod EitherWay
mod Closing
mod Places
mod TakesTurns
mod TakesSteps
mod Takes
mod TakesExprs
mod TakesForms
mod TakesPrograms
mod KindsSame
mod KindsExprs
mod KindsPrograms
mod TakesOne
mod Built
pub mod Loops
pub mod Closed
pub mod ClosedForms
mod ExprTurns
mod Failing
mod Followed
pub mod Shrinks
pub mod Tame
pub mod Told
pub mod ToldTokens
pub mod ToldExprs
pub mod ToldTypes
pub mod ToldDists
pub mod ToldPrograms
pub mod Sinks
pub mod SinksExprs
pub mod SinksPrograms
pub mod Judging
mod Spelled
pub mod Turns
mod Answering
pub mod Runs
pub mod Behind
pub mod Depths
pub mod OperatorTokens
