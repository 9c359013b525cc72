pub mod Entry
pub mod Replies
pub mod Acceptance
