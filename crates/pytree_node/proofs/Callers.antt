-- What callers compute with: the value of each class of the tree, of its children's values.
pub mod ExprClasses
pub mod ExprShapes
pub mod MadeShapes
pub mod PatternShapes
pub mod StmtClasses
pub mod StmtShapes
