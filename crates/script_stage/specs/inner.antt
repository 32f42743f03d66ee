-- Laws that the laws of commands cite, proved. No public contract rests on them.
pub mod ScriptLaws
pub mod TraceLaws
