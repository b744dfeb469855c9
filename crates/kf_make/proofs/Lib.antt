pub mod Fragments
pub mod Tokens
pub mod Derivations
pub mod Limits
pub mod Reading
pub mod Typing
mod Choosing
mod Ending
pub mod Lines
pub mod Clearing
pub mod Refusing
