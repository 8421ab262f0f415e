pub mod LineLists
pub mod Floats
pub mod MappedLists
pub mod OneReport
