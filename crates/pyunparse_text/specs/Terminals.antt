-- The terminals that an expression is written in, as the grammar reads them.
use Rattle.std.specs.Prelude.{List, [], ◌∷◌, ◌++◌}
use Rattle.std.specs.List.{flat_map}
use Rattle.pylex_lexeme.specs.declared.kinds.Exact.TheVariants.{LPar, RPar}
use Rattle.pytree_node.specs.Trees.{Expr}
use Rattle.pytoken.specs.Terminals.{Terminal, Op, FormattedBegin, FormattedEnd, FormattedText, FieldBegin, SpecBegin, FieldEnd}
use Rattle.pygrammar.specs.declared.levels.Level.{Level}
use Rattle.pyunparse_text.specs.Written.{Maker, Element, Text, Field, Spec, End, written}

-- the expression of a field stands in round brackets
abbrev pub element_terminals : Element Terminal → List Terminal
element_terminals (Text b t) = FormattedText t ∷ []
element_terminals (Field c ts) = FieldBegin c ∷ (Op LPar ∷ (ts ++ (Op RPar ∷ [])))
element_terminals Spec = SpecBegin ∷ []
element_terminals End = FieldEnd ∷ []

abbrev pub formatted_terminals : List (Element Terminal) → List Terminal
formatted_terminals es = FormattedBegin ∷ (flat_map element_terminals es ++ (FormattedEnd ∷ []))

-- the grammar reads no blanks
abbrev pub terminal : Maker Terminal
terminal = record { token = λ t before following. t; formatted = formatted_terminals }

abbrev pub terminals : Level → Expr → List Terminal
terminals l e = written terminal l e
