pub mod Accepting
pub mod Counts
pub mod Decisions
pub mod NextOnes
pub mod NextSteps
pub mod RunPoints
pub mod SameRuns
pub mod Testing
