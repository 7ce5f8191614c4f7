mod ImportSteps
mod NameSteps
mod OptionalSteps
mod StatementSteps
mod TypeNameSteps
mod TypeSteps
mod ValueSteps
