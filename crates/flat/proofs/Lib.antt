-- lemmas about the shelf's calls; those about rows as charts and about the shelf's meaning stand in specs/, where the law of the impl reads them
pub mod Calling
