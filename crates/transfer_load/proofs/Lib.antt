mod Sent
mod ReadReplies
mod DoneConnections
mod Messages
mod Closing
mod OneEach
mod AllClosed
mod OneReading
pub mod OnlyServing
mod ServedBytes
