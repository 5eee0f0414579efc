pub mod Overs
pub mod Laid
pub mod Unlaid
pub mod Puts
pub mod Elsewhere
