pub mod Classes
pub mod Rules
pub mod Shifts3
pub mod Soundness
pub mod Table1
pub mod Table2
pub mod Table3
pub mod Tables
