mod Places
mod Reader
mod Lists
mod Calls
mod FormalParameters
mod ForClauses
mod Formatted
mod Recorders
