pub mod Phases
pub mod Machine
pub mod StepNumbers
pub mod Walk
pub mod Runs
pub mod Heads
pub mod Places
pub mod WalkNumbers
