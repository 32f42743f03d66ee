mod ReplyLaws
mod StatusLaws
pub mod Unread
pub mod Handed
mod WholeAnswers
