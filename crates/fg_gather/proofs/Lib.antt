pub mod ArrivalsLaws
pub mod DeliverLaws
pub mod GatherLaws
pub mod InboxesLaws
pub mod MarksLaws
pub mod PieceLaws
pub mod RunLaws
