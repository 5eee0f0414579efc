pub mod Deliveries
pub mod Settlements
pub mod Syncs
pub mod Unsettled
pub mod Works
