-- what hanging leaves: Hanging; what the pegs carry: Pegs; what a call that hangs answers, and each call: Calling, Calls; opening: Opening
pub mod Hanging
pub mod Pegs
pub mod Calling
pub mod Calls
pub mod Opening
