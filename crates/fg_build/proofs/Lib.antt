mod AppendLaws
pub mod AskedLaws
pub mod BuildLaws
pub mod BuiltLaws
pub mod CallLaws
mod EmptyLaws
mod FrontLaws
pub mod HeldLaws
pub mod ImageLaws
mod LabelLaws
mod OpeningLaws
pub mod OrderLaws
pub mod PageLaws
pub mod PlaceLaws
mod RefusalLaws
mod ToldLaws
