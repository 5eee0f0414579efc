pub mod Errs
pub mod Drafted
pub mod RemoteCounts
pub mod Traces
pub mod Ends
pub mod Concluded
pub mod Counted
pub mod Commanded
pub mod ModeEvents
pub mod WorldRuns
pub mod OverPowers
pub mod OfTexts
mod Imaged
pub mod Standing
