-- What the entry of a lexeme is, where its line is known to go on or to end.
use Rattle.std.specs.Prelude.{Bool, if◌then◌else◌, Option, Some, None}
use Rattle.pylex_lexeme.specs.declared.kinds.Exact.{Exact}
use Rattle.pylex_lexeme.specs.declared.lexeme.Class.{Class}
use Rattle.pylex_lexeme.specs.declared.lexeme.Class.TheVariants.{Name, Number, String, Operator, Comment}
use Rattle.pylex_listing.specs.declared.kind.Kind.{Kind}
use Rattle.pylex_listing.specs.declared.kind.Kind.TheVariants as kinds

-- the type of the entry of a lexeme, by whether a logical line is open after it
abbrev pub kind_of : Class → Bool → Kind
kind_of k goes = elim k [
  | Name ↦ kinds.Name
  | Number ↦ kinds.Number
  | String ↦ kinds.String
  | Operator e ↦ kinds.Op
  | Comment ↦ kinds.Comment
  | _ ↦ if goes then kinds.Nl else kinds.Newline
]

-- and its exact type
abbrev pub operator_of : Class → Option Exact
operator_of k = elim k [ Operator e ↦ Some e | _ ↦ None ]
