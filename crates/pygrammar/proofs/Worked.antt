-- Worked rows: the reader computes them.
mod Expressions
mod DrawnTests
mod DrawnOperands
mod DrawnPlaces
mod DrawnItems
mod FormattedStrings
mod OpenStrings
mod Rooms
