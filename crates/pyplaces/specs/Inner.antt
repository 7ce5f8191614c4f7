pub mod Looks
pub mod Questions
pub mod ExpressionSteps
pub mod AtomSteps
pub mod ListSteps
pub mod PatternSteps
pub mod LineSteps
pub mod Steps
