pub mod HeldLaws
pub mod ShownLaws
pub mod ImageLaws
