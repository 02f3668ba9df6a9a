-- slots that grow kid by kid: Growing; a level above, and a fan of charts with one entry: Levels, Fans
pub mod Growing
pub mod Levels
pub mod Fans
-- slots and pegs that hold nothing: Empties
pub mod Empties
-- what is remembered: Recalls; two edges with times joined: Joining
pub mod Recalls
pub mod Joining
-- an edge at the device, or above it: Puts; one at 0 above it, kid by kid: Kids
pub mod Puts
pub mod Kids
-- the steps of copying, and of a sweep: Copies, Sweeps
pub mod Copies
pub mod Sweeps
-- the steps of an attempt: Trying
pub mod Trying
