mod RowLaws
mod FaultOrder
pub mod AnyOrderLaws
pub mod WrittenLaws
