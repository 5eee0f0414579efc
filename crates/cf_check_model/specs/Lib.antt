pub mod Judging
pub mod Reports
pub mod Rows
