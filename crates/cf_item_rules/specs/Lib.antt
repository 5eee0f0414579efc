pub mod DehydrationFacts
pub mod Fitting
pub mod PinStates
pub mod PlaceholderPlans
pub mod Refusals
