-- A tree fits exactly where the grammar gives it to some tokens.
pub mod Exactly
pub mod NumberTokens
pub mod ProperNames
pub mod Walks
pub mod FieldCharacters
pub mod FormattedTokens
pub mod Tokens
pub mod Words
pub mod Patterns
pub mod Modules
pub mod Stays
pub mod Passing
pub mod FromPieces
pub mod InTokens
pub mod Lawful
