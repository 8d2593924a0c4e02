pub mod TextLaws
pub mod LineLaws
pub mod BetweenLaws
pub mod LoopLaws
