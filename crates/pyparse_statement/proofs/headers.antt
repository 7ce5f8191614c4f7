pub mod DefinitionSteps
mod ItemPushes
mod ItemSteps
mod WordSteps
