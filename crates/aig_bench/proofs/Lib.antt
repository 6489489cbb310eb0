pub mod carries
pub mod cells
pub mod edits
pub mod growing
pub mod new_frames
pub mod passes
pub mod queues
pub mod renewals
