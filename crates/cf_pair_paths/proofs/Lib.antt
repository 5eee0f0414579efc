pub mod ApartRows
pub mod OrderlyTrees
pub mod PathsAlike
