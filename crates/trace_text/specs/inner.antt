pub mod Decoding
pub mod Drafting
pub mod NextWords
pub mod Placing
pub mod ShortFacts
pub mod TextListenerLaws
