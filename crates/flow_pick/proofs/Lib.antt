pub mod PickingStream
pub mod UniqueStream
pub mod HeadStream
pub mod Lasts
pub mod TailStream
pub mod Carrying
pub mod PlainStreams
