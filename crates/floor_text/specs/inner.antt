-- Definitions that only contracts of private functions cite. No public contract rests on them.
pub mod DraftAt
