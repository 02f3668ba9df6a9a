-- lemmas about bytes: Codes; about moves and devices: Parts; about tables: Tables; about lengths: Sizes; about whole
-- files: Whole; about listings that a table takes: Taking, Taken
pub mod Codes
pub mod Parts
pub mod Tables
pub mod Sizes
pub mod Whole
pub mod Taking
pub mod Taken
