pub mod RemoteFaults
pub mod Acted
pub mod Led
pub mod Runs
pub mod Outputs
pub mod Steps
pub mod StateExamples
pub mod States
