-- The listing of the text of written lines.
pub mod Columns
pub mod Tells
pub mod Margins
pub mod Runs
pub mod Relisting
