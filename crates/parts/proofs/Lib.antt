-- lemmas on lists with no element twice: Counts; on charts cut into pieces: Pieces; on charts made of a function: Tabulated
pub mod Counts
pub mod Pieces
pub mod Tabulated
