pub mod Asked
pub mod LastPass
pub mod Endings
