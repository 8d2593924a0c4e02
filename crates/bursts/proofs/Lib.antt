pub mod BurstCrc
pub mod AreaAlone
pub mod BurstLaws
pub mod HitLines
pub mod AreaChanged
pub mod BurstSamples
pub mod BurstsHold
pub mod BurstsCited
