-- What the parts of f-strings and of the literals beside them are as the values of a JoinedStr (language reference, 2.4.2 and 2.4.3).
use Rattle.std.specs.Prelude.{ℕ, Bool, true, false, List, [], ◌∷◌, ◌++◌, Option, Some, None, option_map}
use Rattle.pytree_node.specs.Trees
use Rattle.pytree_node.specs.Trees.{Expr, Exprs, no_exprs, an_expr}
use Rattle.pytree_node.specs.Values
use Rattle.pytoken.specs.Terminals.{Terminal, Literal, FormattedBegin}

-- a text, or the FormattedValue of a field
pub data StringPart : Type 0 where
  Text : List ℕ → StringPart
  Field : Expr → StringPart

-- a text in front of others: texts side by side are one, and an empty one is left out
abbrev pub with_text : List ℕ → List StringPart → List StringPart
with_text [] ps = ps
with_text (c ∷ cs) (Text t ∷ ps) = Text ((c ∷ cs) ++ t) ∷ ps
with_text t ps = Text t ∷ ps

abbrev pub merged : List StringPart → List StringPart
merged [] = []
merged (Text t ∷ ps) = with_text t (merged ps)
merged (Field e ∷ ps) = Field e ∷ merged ps

-- the values of a JoinedStr, its texts with this kind
abbrev pub values_of : Bool → List StringPart → Exprs
values_of u [] = no_exprs
values_of u (Text t ∷ ps) = an_expr (Trees.Constant (Values.Str t u)) (values_of u ps)
values_of u (Field e ∷ ps) = an_expr e (values_of u ps)

-- those of a format spec: its last text has no kind
abbrev pub spec_values_of : Bool → List StringPart → Exprs
spec_values_of u [] = no_exprs
spec_values_of u (Text t ∷ []) = an_expr (Trees.Constant (Values.Str t false)) no_exprs
spec_values_of u (Text t ∷ ps) = an_expr (Trees.Constant (Values.Str t u)) (spec_values_of u ps)
spec_values_of u (Field e ∷ ps) = an_expr e (spec_values_of u ps)

-- the kind of a literal, and its text
abbrev pub kind_of : Values.Value → Bool
kind_of (Values.Str t u) = u
kind_of _ = false

abbrev pub text_of : Values.Value → Option (List ℕ)
text_of (Values.Str t u) = Some t
text_of _ = None

-- the texts of some literals, if none of them is bytes
abbrev pub texts_of : List Values.Value → Option (List StringPart)
texts_of [] = Some []
texts_of (Values.Str t u ∷ vs) = option_map (λ ps. Text t ∷ ps) (texts_of vs)
texts_of _ = None

-- the first of some literals has kind u
abbrev pub begins_unicode : List Terminal → Bool
begins_unicode (Literal v ∷ ts) = kind_of v
begins_unicode _ = false

-- there is an f-string among them
abbrev pub has_formatted : List Terminal → Bool
has_formatted [] = false
has_formatted (FormattedBegin ∷ ts) = true
has_formatted (t ∷ ts) = has_formatted ts
