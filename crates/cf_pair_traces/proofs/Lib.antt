pub mod OneRemote
pub mod EqualTrees
