pub mod KeyRangeLaws
