-- greatest times: Greatest; what is known of an edge, and that it is canonical: Canon; a store that grows: Grows; parts and slots: Fits; at most one proof: Once
pub mod Greatest
pub mod Canon
pub mod Grows
pub mod Fits
