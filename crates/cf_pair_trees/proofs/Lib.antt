pub mod SortedRows
pub mod OneComparison
