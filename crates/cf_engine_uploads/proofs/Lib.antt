pub mod Courses
pub mod Drafted
pub mod Hydrated
pub mod Listed
pub mod Pushed
pub mod Put
pub mod ReadItems
pub mod Removed
pub mod StoredPins
pub mod Trees
pub mod Turned
mod Idle
mod NextTurns
