pub mod Aiming
pub mod Answering
pub mod Counting
pub mod Judging
