-- what one more octet makes of a frame that has begun
pub mod FrameNext
-- what the reader of messages makes of an octet that ends a part
mod MessageLemmas
-- what the reader of a part makes of the octets of a frame
mod PartLemmas
