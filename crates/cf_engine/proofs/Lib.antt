pub mod BesideSteps
pub mod FitRecords
pub mod Fitting
pub mod Opened
pub mod PeerFaults
pub mod SessionSteps
pub mod Started
