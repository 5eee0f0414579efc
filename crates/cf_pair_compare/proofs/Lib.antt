pub mod Firsts
pub mod Reaching
