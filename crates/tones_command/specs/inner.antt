-- Definitions that only contracts of private functions and the command's ghost members cite, and its laws, proved. No
-- public contract rests on them.
pub mod Hearing
pub mod Loud
pub mod ToneLaws
pub mod ToneSeen
pub mod ToneTurns
