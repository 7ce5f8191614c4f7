-- What the values that the code makes are.
use Rattle.pytree_node.specs.Values as value
use Rattle.pytree_node.specs.Values.{Value, Str}
use Rattle.pytoken.specs.declared.values.literals.Literal.{Literal}
use Rattle.pytoken.specs.declared.values.literals.Literal.TheVariants.{Text, Bytes}

-- what a literal stands for, as the value of a constant
abbrev pub literal_value : Literal → Value
literal_value (Text points unicode) = Str points unicode
literal_value (Bytes bytes) = value.Bytes bytes.items
