-- Numbers, literals and keys, as the program reads them.
use Rattle.std.specs.Prelude.{◌≡◌, ℕ, ◌+◌, ◌-◌, ◌≤◌, List, [], ◌∷◌, Bool, true, false, None, cond, length}
use Rattle.pylex_lexeme.specs.declared.kinds.Exact.TheVariants.{Minus}
use Rattle.pytoken.specs.declared.keywords.Keyword.{Keyword}
use Rattle.pytree_node.specs.declared.operators.UnaryOperator.TheVariants as Un
use Rattle.pytree_node.specs.Trees
use Rattle.pytree_node.specs.Trees.{Expr}
use Rattle.pytree_node.specs.TreeOf.{tree_of}
use Rattle.pytree_node.specs.Values.{Value}
use Rattle.pytoken.specs.Terminals as tokens
use Rattle.pytoken.specs.declared.values.terminals.Terminal.{Terminal}
use Rattle.pygrammar.specs.declared.levels.Level.TheVariants.{Sum}
use Rattle.pygrammar.specs.Looks.{is_op, name_in}
use Rattle.pygrammar.specs.Operators.{left_operator}
use Rattle.pygrammar.specs.PatternOperators.{is_imaginary, singleton_word}
use Rattle.pygrammar.specs.PatternReader.{dotted_from, imaginary_in, literal_or, named_key, number_in, number_rest}
use Rattle.pygrammar.specs.Reader.{Answer, Found, NoForm, and_then, on_first}
use Rattle.pyparse_nodes.specs.declared.stop.Stop.{Stop}
use Rattle.pyparse_nodes.specs.declared.stop.Stop.TheVariants as stop
use Rattle.pyparse_nodes.specs.Answers.{Failed}
use Rattle.pyparse_nodes.specs.Views.{Stands, seen}
use Rattle.pyparse_reads.specs.declared.depth.Depth.{Depth}
use Rattle.pyparse_pattern.specs.declared.numbers.Number.{Number}
use Rattle.pyparse_pattern.specs.Inner.Readings.{field_reads}

-- what may follow a number, imaginary or not
abbrev pub summed : Bool → Expr → List tokens.Terminal → Answer Expr
summed b e r =
    cond b (Found e r)
    (on_first (left_operator Sum) r (λ o r1. on_first imaginary_in r1 (λ w r2. Found (Trees.BinOp e o (Trees.Constant w)) r2) NoForm)
    (Found e r))

-- ["-"] NUMBER, and what may follow
abbrev pub numbers : List tokens.Terminal → Answer Expr
numbers i =
    on_first (is_op Minus) i (λ _ r. on_first number_in r (λ v r1. number_rest v (Trees.UnaryOp Un.USub (Trees.Constant v)) r1) NoForm)
    (on_first number_in i (λ v r. number_rest v (Trees.Constant v) r) NoForm)

-- a NUMBER stands at a place; or none does
pub record NumberAt (ts : List Terminal) (at : ℕ) (n : Number) : Type 0 where
  pub value : Value
  pub stands : Stands (tokens.Number value) ts at
  pub tree : tree_of n.read.expr.value ≡ Trees.Constant value
  pub imaginary : n.imaginary ≡ is_imaginary value
  pub next : n.read.next ≡ at + 1
  pub low : n.read.height ≤ 1

abbrev pub NoNumberAt : List Terminal → ℕ → Stop → Type 0
NoNumberAt ts at s = Failed s (on_first number_in (seen ts at) (λ v r. Found v r) NoForm)

-- one with its sign
pub record SignedAt (ts : List Terminal) (at : ℕ) (n : Number) : Type 0 where
  pub ahead : at + 1 ≤ n.read.next
  pub within : n.read.next ≤ length ts
  pub low : n.read.height ≤ 2
  pub is : numbers (seen ts at) ≡ summed n.imaginary (tree_of n.read.expr.value) (seen ts n.read.next)

-- a word that is no constant
abbrev pub IsNoSingleton : Stop → Keyword → Type 0
IsNoSingleton stop.NoForm w = singleton_word (tokens.Word w) ≡ None
IsNoSingleton stop.TooDeep w = ⊥
IsNoSingleton stop.Memory w = Unit {0}

-- a string literal or an f-string
abbrev pub begins_string : tokens.Terminal → Bool
begins_string (tokens.Literal v) = true
begins_string tokens.FormattedBegin = true
begins_string _ = false

abbrev pub starts_string : List tokens.Terminal → Bool
starts_string [] = false
starts_string (t ∷ r) = begins_string t

-- a key of any height, among the parts of a pattern
abbrev pub keys : Depth → List tokens.Terminal → Answer Expr
keys d i = literal_or (field_reads d) i (on_first singleton_word i (λ v r. Found (Trees.Constant v) r)
    (on_first name_in i (λ x r. and_then (dotted_from (d.room - 1) x r) named_key) NoForm))
