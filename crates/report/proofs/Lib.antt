-- bounds of both sizes, and the listing from the arrays of an instrument
pub mod Sizes
pub mod Listings
