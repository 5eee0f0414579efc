pub mod ChunkEdits
pub mod ChunkFronts
pub mod Spares
pub mod Splits
