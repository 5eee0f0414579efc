pub mod Alls
pub mod Alone
pub mod FirstLines
pub mod Texts
pub mod ToldLines
