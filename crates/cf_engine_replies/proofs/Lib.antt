pub mod Parts
pub mod Rebased
pub mod Replied
pub mod Uploaded
