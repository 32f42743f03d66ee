pub mod Gathering
pub mod Held
pub mod Judged
pub mod Kinds
pub mod Lending
pub mod Plain
