pub mod CountLemmas
mod UsedLemmas
mod SetDeskLemmas
mod QueueDeskLemmas
mod BufferLemmas
pub mod SiteLemmas
mod ShelfLemmas
mod ServeLemmas
mod EachLemmas
mod CloseLemmas
mod JoinLemmas
mod OwnedLemmas
mod GatherLemmas
mod OpenLemmas
