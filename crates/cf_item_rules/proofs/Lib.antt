pub mod Creating
pub mod Fitted
pub mod Inheriting
pub mod PinsFit
pub mod Reaching
pub mod TreeOrder
pub mod WholeRows
