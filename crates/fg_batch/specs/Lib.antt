pub mod Word
pub mod Mails
pub mod Bits
pub mod Lanes
pub mod Inbox
pub mod Outbox
