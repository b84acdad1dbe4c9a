pub mod LeastLaws
pub mod RunLaws
pub mod AlongLaws
pub mod GroupLaws
pub mod PagesLaws
pub mod GroupRunLaws
pub mod BlockLaws
pub mod CountLaws
