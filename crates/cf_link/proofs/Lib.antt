pub mod Asked
pub mod FaultCounts
pub mod ListedAsks
pub mod PeerLinks
pub mod PeerWalk
pub mod Sending
pub mod Ways
