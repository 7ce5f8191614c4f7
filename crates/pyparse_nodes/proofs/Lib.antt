pub mod Callers
mod Places
mod LiteralRuns
mod FormalParameters
mod Stores
mod JoinedTexts
mod MadeParts
