pub mod Aims
pub mod Rising
