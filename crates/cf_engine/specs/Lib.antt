pub mod Actors
pub mod Engines
pub mod Openings
pub mod Playing
pub mod Sessions
