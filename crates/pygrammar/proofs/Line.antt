pub mod Brackets
pub mod Tools
pub mod Imports
pub mod Values
pub mod Types
pub mod Simple
pub mod Headers
pub mod Colons
pub mod Patterns
pub mod MatchLines
pub mod SoundParts
pub mod Invert
pub mod With
pub mod Law
pub mod SoundSimple
pub mod SoundLines
pub mod Depth
pub mod Answered
pub mod Stays
pub mod CapsTools
pub mod CapsBrackets
pub mod CapsLines
pub mod Limit
mod WorkedExpressions
mod WorkedKeywords
mod WorkedHeaders
mod WorkedTypes
mod WorkedMatches
mod DepthsExpressions
mod DepthsKeywords
mod DepthsHeaders
mod DrawnExpressions
mod DrawnKeywords
mod DrawnHeaders
mod DrawnTypes
mod WorkedHeights
