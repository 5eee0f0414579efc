pub mod SentAsks
