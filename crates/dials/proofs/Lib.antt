-- charts with one entry, dials and fans: Turns; an edge lifted to a level above: Lifts
pub mod Turns
pub mod Lifts
