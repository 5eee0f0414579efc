pub mod AccountedSteps
pub mod PolicyGuarded
pub mod PopulatedItems
pub mod PopulatedRuns
pub mod PopulatedSyncs
