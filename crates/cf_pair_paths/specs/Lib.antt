pub mod PathsByRows
