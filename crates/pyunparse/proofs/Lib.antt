mod Sequences
mod ExpressionParts
mod StatementParts
mod Shapes
mod Texts
mod PatternLemmas
