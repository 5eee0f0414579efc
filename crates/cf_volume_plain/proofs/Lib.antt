pub mod Behind
pub mod PlainSteps
pub mod NewPlain
pub mod Restarted
