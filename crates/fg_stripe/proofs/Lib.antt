pub mod HeldLaws
pub mod LabelLaws
pub mod StripingLaws
