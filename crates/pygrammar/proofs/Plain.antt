mod Terminals
mod Targets
mod Entries
mod Parameters
mod Expressions
pub mod Forms
mod Blocks
mod FormattedStrings
mod Numbers
mod OpenLines
mod Tokens
pub mod Law
