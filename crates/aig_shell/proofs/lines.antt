-- From the end of a request to that of a line, and from lines to a whole session.
pub mod Answering
pub mod Commands
pub mod Lines
pub mod Shells
pub mod Talks
