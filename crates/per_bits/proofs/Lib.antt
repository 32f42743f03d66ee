pub mod Digits
pub mod Places
pub mod Octets
pub mod Buffer
pub mod SectionLaws
pub mod Inside
