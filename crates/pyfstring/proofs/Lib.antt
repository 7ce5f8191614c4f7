pub mod Callers
mod Faults
mod Fronts
mod ScannerLemmas
mod Scanning
mod Stepping
mod Reading
mod FieldSteps
mod Cutting
mod PieceSteps
mod SingleSteps
mod ReturnTexts
mod ReturnScans
mod ReturnFields
mod ReturnCuts
mod Lawful
mod Worked
