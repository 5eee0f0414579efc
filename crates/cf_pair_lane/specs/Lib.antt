pub mod Absences
pub mod Lanes
