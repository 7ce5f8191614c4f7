-- Lines without the trees.
use Rattle.std.specs.Prelude.{Some, None}
use Rattle.pygrammar.specs.Lines.{Header, if_header, elif_header, else_header, loop_header, with_header, try_header, except_header}
use Rattle.pygrammar.specs.Lines.{finally_header, def_header, match_header, case_header, Form, simple_form, decorator_form, header_form}
use Rattle.pyparse_block.specs.declared.outline.shapes.Clause.{Clause}
use Rattle.pyparse_block.specs.declared.outline.shapes.Clause.TheVariants as clause
use Rattle.pyparse_block.specs.declared.outline.shapes.Shape.{Shape}
use Rattle.pyparse_block.specs.declared.outline.shapes.Shape.TheVariants as shape

-- what a header begins or goes on with
abbrev pub clause_of : Header → Clause
clause_of (if_header _) = clause.If
clause_of (elif_header _) = clause.Elif
clause_of else_header = clause.Else
clause_of (loop_header _) = clause.Loop
clause_of (with_header _ _) = clause.With
clause_of try_header = clause.Try
clause_of (except_header star _ _) = clause.Except star
clause_of finally_header = clause.Finally
clause_of (def_header _) = clause.Def
clause_of (match_header _) = clause.Match
clause_of (case_header _ _) = clause.Case

-- the form of a line
abbrev pub shape_of : Form → Shape
shape_of (simple_form _) = shape.Simple
shape_of (decorator_form _) = shape.Decorator
shape_of (header_form h None) = shape.Opening (clause_of h)
shape_of (header_form h (Some _)) = shape.Inline (clause_of h)
