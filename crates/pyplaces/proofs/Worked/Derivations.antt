-- Derivations of worked examples, through the levels that have nothing of their own.
use Rattle.std.specs.Prelude.{ℕ, List, [], ◌∷◌}
use Rattle.pygrammar.specs.declared.levels.Level.TheVariants.{Value, Stars, StarItem, Named, Expression, Or, BitOr, Primary, Atom}
use Rattle.pytree_node.specs.declared.operators.Context.TheVariants.{Load}
use Rattle.pytree_node.specs.Trees
use Rattle.pytree_node.specs.Trees.{Expr, Identifier}
use Rattle.pytree_node.specs.Values as Values
use Rattle.pytoken.specs.Terminals.{Terminal, in_form, whole}
use Rattle.pygrammar.specs.Grammar.{Derives, next, name, number}
use Rattle.pyplaces.specs.Stretches.{Span, span}

abbrev pub atom : {ts : List Terminal} {e : Expr} → Derives Atom ts e → Derives Primary ts e
atom p = next p

abbrev pub bit_or : {ts : List Terminal} {e : Expr} → Derives Primary ts e → Derives BitOr ts e
bit_or p = next (next (next (next (next (next (next (next (next p))))))))

abbrev pub or : {ts : List Terminal} {e : Expr} → Derives Primary ts e → Derives Or ts e
or p = next (next (next (next (bit_or p))))

abbrev pub expression : {ts : List Terminal} {e : Expr} → Derives Primary ts e → Derives Expression ts e
expression p = next (or p)

abbrev pub named : {ts : List Terminal} {e : Expr} → Derives Primary ts e → Derives Named ts e
named p = next (expression p)

abbrev pub star_item : {ts : List Terminal} {e : Expr} → Derives Primary ts e → Derives StarItem ts e
star_item p = next (expression p)

abbrev pub stars : {ts : List Terminal} {e : Expr} → Derives Primary ts e → Derives Stars ts e
stars p = next (star_item p)

abbrev pub value : {ts : List Terminal} {e : Expr} → Derives Primary ts e → Derives Value ts e
value p = next (stars p)

-- Expression and Stars as they are
abbrev pub of_expression : {ts : List Terminal} {e : Expr} → Derives Expression ts e → Derives Value ts e
of_expression p = next (next (next p))

abbrev pub of_stars : {ts : List Terminal} {e : Expr} → Derives Stars ts e → Derives Value ts e
of_stars p = next p

-- a NAME, and a NUMBER
abbrev pub a : (x : Identifier) → Derives Primary (in_form x ∷ []) (Trees.Name x Load)
a x = next name

abbrev pub n : (v : ℕ) → Derives Primary (whole v ∷ []) (Trees.Constant (Values.Int v))
n v = next number

-- spans of these bytes, start and stop of each in turn
abbrev pub marks : List ℕ → List Span
marks (x ∷ (y ∷ more)) = span x y ∷ marks more
marks _ = []
