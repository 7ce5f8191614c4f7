pub mod Callers
mod Joined
mod Full
mod Lexed
mod Significant
mod Stack
mod Law
mod Leads
mod Run
