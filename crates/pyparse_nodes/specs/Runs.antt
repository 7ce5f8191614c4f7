-- Neighbouring literals after a first one, of this value.
use Rattle.std.specs.Prelude.{◌≡◌, List, [], ◌∷◌, None}
use Rattle.pytree_node.specs.Values.{Value}
use Rattle.pytoken.specs.Terminals.{Terminal, Literal}
use Rattle.pygrammar.specs.Constants.{joined}
use Rattle.pygrammar.specs.FormattedStrings.{text_of}
use Rattle.pygrammar.specs.Reader.{Answer, and_then, made, string_run}
use Rattle.pyparse_nodes.specs.declared.stop.Stop.{Stop}
use Rattle.pyparse_nodes.specs.declared.stop.Stop.TheVariants as stop
use Rattle.pyparse_nodes.specs.Answers.{Failed}

abbrev pub run : Value → List Terminal → Answer Value
run v r = and_then (string_run [] r) (λ vs s. made (joined v vs) s)

-- one more literal makes one value of another; or it may not stand after it
pub record Joins (v w new : Value) : Type 0 where
  pub is : (r : List Terminal) → run v (Literal w ∷ r) ≡ run new r

pub record Parts (s : Stop) (v w : Value) : Type 0 where
  pub is : (r : List Terminal) → Failed s (run v (Literal w ∷ r))

-- it is no text, or there was no memory
abbrev pub IsNoText : Value → Stop → Type 0
IsNoText v stop.NoForm = text_of v ≡ None
IsNoText v stop.TooDeep = ⊥
IsNoText v stop.Memory = Unit {0}
