-- an edge at the device, or above it: Putting; one at 0 above it, kid by kid: Kids
pub mod Putting
pub mod Kids
