pub mod FirstFound
pub mod FeedEnds
pub mod FeedOrder
pub mod FeedTurns
pub mod IndexFinds
pub mod IndexedParts
pub mod IndexSteps
pub mod PlannedTurns
pub mod StepRuns
mod NoEntries
