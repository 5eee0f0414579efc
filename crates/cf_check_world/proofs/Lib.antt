pub mod OffSteps
pub mod OnSteps
pub mod Powers
pub mod Standing
