-- What a list of parameters is, and what a list of arguments is.
use Rattle.std.specs.Prelude.{◌≡◌, Bool, true, false, List, Some}
use Rattle.pytree_node.specs.Trees.{Exprs, Keywords, Arguments}
use Rattle.pytoken.specs.Terminals.{Terminal}
use Rattle.pygrammar.specs.Entries.{Entry, Argument, Parameter}
use Rattle.pygrammar.specs.Arguments.{in_order, positional, keywords}
use Rattle.pygrammar.specs.Parameters.{arranged}
use Rattle.pygrammar.specs.Grammar.{Listing}

-- a list of parameters gives the arguments of a `lambda`, or with annotations of a `def`
pub record IsArranged (annotated : Bool) (ts : List Terminal) (a : Arguments) : Type 0 where
  pub entries : List Entry
  pub listing : Listing (Parameter annotated) ts entries
  pub arranged_as : arranged entries ≡ Some a

-- a list of arguments gives the fields `args` and `keywords`, of a call or of a class
pub record AreArguments (ts : List Terminal) (fields : Exprs × Keywords) : Type 0 where
  pub entries : List Entry
  pub listing : Listing Argument ts entries
  pub order : in_order false false entries ≡ true
  pub positional_are : positional entries ≡ fields.0
  pub keywords_are : keywords entries ≡ fields.1
