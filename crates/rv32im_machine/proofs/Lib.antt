pub mod Rounds
pub mod Laying
pub mod Memories
pub mod Pages
pub mod Steps
pub mod Standings
pub mod Spreading
