-- The constants that are keywords or signs, and what literals side by side are (language reference, 2.4.2 and 6.2.2).
use Rattle.std.specs.Prelude.{List, [], ◌∷◌, ◌++◌, Option, Some, None, true, false}
use Rattle.pylex_lexeme.specs.declared.kinds.Exact.TheVariants.{Ellipsis}
use Rattle.pytoken.specs.declared.keywords.Keyword.TheVariants as Key
use Rattle.pytree_node.specs.Values
use Rattle.pytoken.specs.Terminals.{Terminal, Op, Word}

-- None, True, False and the three dots
abbrev pub constant_word : Terminal → Option Values.Value
constant_word (Word Key.None) = Some Values.None
constant_word (Word Key.True) = Some (Values.Bool true)
constant_word (Word Key.False) = Some (Values.Bool false)
constant_word (Op Ellipsis) = Some Values.Ellipsis
constant_word _ = None

-- literals side by side are one, if all are texts or all are bytes; the kind is that of the first
abbrev pub joined : Values.Value → List Values.Value → Option Values.Value
joined v [] = Some v
joined (Values.Str t u) (Values.Str s v ∷ vs) = joined (Values.Str (t ++ s) u) vs
joined (Values.Bytes t) (Values.Bytes s ∷ vs) = joined (Values.Bytes (t ++ s)) vs
joined _ _ = None
