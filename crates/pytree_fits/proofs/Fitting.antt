-- What the grammar gives, fits.
pub mod Fits
pub mod PatternFits
pub mod FormFits
pub mod BlockFits
