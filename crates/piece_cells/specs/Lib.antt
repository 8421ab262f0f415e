pub mod Cells
pub mod Deciding
pub mod Tables
pub mod Telling
