-- Parameters that were read, as the grammar's entries.
use Rattle.std.specs.Prelude.{◌≡◌, ℕ, ◌≤◌, ◌<◌, List, Option, Some, None, Bool, length, Result, MatchResult}
use Rattle.pylex_lexeme.specs.declared.kinds.Exact.TheVariants.{Colon, Equal}
use Rattle.pytree_node.specs.Trees
use Rattle.pytree_node.specs.Trees.{Arguments, Expr, Identifier, arg}
use Rattle.pytree_height.specs.Heights.{arguments_height, height}
use Rattle.pytoken.specs.Terminals as tokens
use Rattle.pytoken.specs.declared.values.terminals.Terminal.{Terminal}
use Rattle.pygrammar.specs.Entries.{Entry, Plain, Gathered, Collected}
use Rattle.pygrammar.specs.declared.levels.Level.TheVariants as level
use Rattle.pygrammar.specs.Looks.{is_op}
use Rattle.pygrammar.specs.Reader.{Answer, Found, NoForm, and_then, annotated, lambda_of, made, on_first, star_annotated, suffixed}
use Rattle.pyparse_reads.specs.declared.depth.Depth.{Depth}
use Rattle.pyparse_expr.specs.declared.signatures.ReadParameter.{ReadParameter}
use Rattle.pyparse_expr.specs.declared.signatures.Signature.{Signature}
use Rattle.pyparse_nodes.specs.declared.found.Read.{Read}
use Rattle.pyparse_nodes.specs.declared.stop.Stop.{Stop}
use Rattle.pyparse_nodes.specs.declared.stop.Stop.TheVariants as stop
use Rattle.pyparse_nodes.specs.Answers.{Failed, Made}
use Rattle.pyparse_nodes.specs.Formals.{State, outcome, start, steps}
use Rattle.pyparse_nodes.specs.FormalStates.{state_of, entry_of}
use Rattle.pyparse_expr.specs.Inner.Readings.{inner_reads}
use Rattle.pyparse_nodes.specs.Views.{seen}
use Rattle.pyparse_expr.specs.Inner.FormalHeights.{entry_height, entry_heights}

-- what stands after the name of a parameter
abbrev pub plain_reads : Depth → Bool → Identifier → List tokens.Terminal → Answer Entry
plain_reads d b x r = and_then (annotated (inner_reads d) b r) (λ a r2. and_then (suffixed (inner_reads d) (Some Equal) r2)
    (λ e r3. Found (Plain (arg x a) e) r3))

abbrev pub gathered_reads : Depth → Bool → Identifier → List tokens.Terminal → Answer Entry
gathered_reads d b x r = and_then (star_annotated (inner_reads d) b r) (λ a r2. Found (Gathered (arg x a)) r2)

abbrev pub collected_reads : Depth → Bool → Identifier → List tokens.Terminal → Answer Entry
collected_reads d b x r = and_then (annotated (inner_reads d) b r) (λ a r2. Found (Collected (arg x a)) r2)

-- a parameter found at a place
pub record ParameterAt (ts : List Terminal) (room least : ℕ) (x : Answer Entry) (r : ReadParameter) : Type 0 where
  pub ahead : least ≤ r.next
  pub within : r.next ≤ length ts
  pub low : r.height ≤ room
  pub is : x ≡ Found (entry_of r.parameter) (seen ts r.next)
  pub tall : r.height ≡ entry_height (entry_of r.parameter)

-- or none, for the reader's reason
abbrev pub ParameterAnswered : List Terminal → (room least : ℕ) → Answer Entry → Result ReadParameter Stop → Type 0
ParameterAnswered ts room least x z = MatchResult z (λ r. ParameterAt ts room least x r) (λ s. Failed s x)

-- a list of them
pub record SignatureAt (ts : List Terminal) (room least : ℕ) (x : Answer (List Entry)) (r : Signature) : Type 0 where
  pub ahead : least ≤ r.next
  pub within : r.next ≤ length ts
  pub low : r.height ≤ room
  pub entries : List Entry
  pub is : x ≡ Found entries (seen ts r.next)
  pub state : state_of r.formal ≡ steps start entries
  pub tall : r.height ≡ entry_heights entries

-- the height of a signature is that of its node
pub record IsTall (s : Signature) : Type 0 where
  pub is : (a : Arguments) → outcome (state_of s.formal) ≡ Some a → s.height ≡ arguments_height a

-- what stands after the parameters of a lambda
abbrev pub body_reads : Depth → Option Arguments → List tokens.Terminal → Answer Expr
body_reads d o r1 = on_first (is_op Colon) r1 (λ _ r2. and_then (inner_reads d level.Expression r2) (λ e r3. made (lambda_of o e) r3))
    NoForm

-- a lambda of the parameters so far
pub record LambdaMade (room : ℕ) (x : State) (e : Expr) (next : ℕ) (r : Read) : Type 0 where
  pub args : Arguments
  pub is : outcome x ≡ Some args
  pub made : Made room (Trees.Lambda args e) next r

-- or none: they may not end here, it is too high, or there was no memory
abbrev pub LambdaUnmade : ℕ → State → Expr → Stop → Type 0
LambdaUnmade room x e stop.NoForm = outcome x ≡ None
LambdaUnmade room x e stop.TooDeep = (a : Arguments) × (outcome x ≡ Some a) × (room < height (Trees.Lambda a e))
LambdaUnmade room x e stop.Memory = Unit {0}

abbrev pub MakesLambda : (room : ℕ) → State → Expr → (next : ℕ) → Result Read Stop → Type 0
MakesLambda room x e next z = MatchResult z (λ r. LambdaMade room x e next r) (λ s. LambdaUnmade room x e s)
