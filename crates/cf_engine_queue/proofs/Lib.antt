pub mod Spelled
pub mod StaysKeepable
pub mod Steps
pub mod InOrder
pub mod KeyOrder
pub mod Mapped
pub mod Numbered
pub mod Loading
pub mod OneMeaning
pub mod ByKey
pub mod Found
pub mod UploadRecords
pub mod PutBack
mod WalkLaws
pub mod SeenRecords
