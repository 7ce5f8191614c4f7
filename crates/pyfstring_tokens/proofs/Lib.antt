pub mod Callers
mod Cutting
mod LastChars
mod PlainEnds
mod Following
mod Parentheses
mod Steps
mod Texts
mod Places
mod Passing
mod OwnTokens
