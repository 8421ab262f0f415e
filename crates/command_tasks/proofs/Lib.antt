pub mod OneSegment
pub mod LoadSteps
pub mod Shown
pub mod Refusing
pub mod Others
