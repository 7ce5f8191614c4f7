mod FrontSteps
mod MatchSteps
mod OpeningSteps
mod Spellings
mod Wholes
mod Recorders
