pub mod KeyedLaws
pub mod EachLaws
pub mod ShuffleLaws
