-- The lines of the five kinds, as the program reads them.
use Rattle.std.specs.Prelude.{suc, List, [], ◌∷◌, length, Option, Some, None, Bool, cond}
use Rattle.pylex_lexeme.specs.declared.kinds.Exact.TheVariants.{Colon}
use Rattle.pytree_node.specs.declared.profiles.Profile.{Profile}
use Rattle.pytree_node.specs.Trees.{Stmt}
use Rattle.pytoken.specs.declared.keywords.Keyword.TheVariants.{If}
use Rattle.pytoken.specs.Terminals.{Terminal, Word}
use Rattle.pygrammar.specs.declared.levels.Level.TheVariants.{Named, Subject}
use Rattle.pygrammar.specs.declared.pattern_levels.PatternLevel.TheVariants.{Patterns}
use Rattle.pygrammar.specs.Forms.{is_case_line}
use Rattle.pygrammar.specs.LineReader as reader
use Rattle.pygrammar.specs.Lines.{Form, Header, case_header, decorator_form, header_form, match_header, simple_form}
use Rattle.pygrammar.specs.Looks.{is_op}
use Rattle.pygrammar.specs.PatternReader.{PatternReads}
use Rattle.pygrammar.specs.Reader.{Answer, Found, NoForm, Reads, and_then, on_first}
use Rattle.pyparse_line.specs.declared.openings.Opening.{Opening}
use Rattle.pyparse_line.specs.declared.openings.Opening.TheVariants as kind

-- after an `@`
abbrev pub decorator : Reads → List Terminal → Answer Form
decorator self r = and_then (self Named r) (λ e r1. Found (decorator_form e) r1)

-- after a header's colon
abbrev pub suite : Profile → Reads → List Terminal → Answer (Option (List Stmt))
suite profile self [] = Found None []
suite profile self (t ∷ r) = and_then (reader.statements profile self (suc (length (t ∷ r))) (t ∷ r)) (λ ss r1. Found (Some ss) r1)

-- the colon, and what stands after it
abbrev pub colon : Profile → Reads → List Terminal → Answer (Option (List Stmt))
colon profile self i = on_first (is_op Colon) i (λ _ r. suite profile self r) NoForm

-- a header with both
abbrev pub with_colon : Profile → Reads → Answer Header → Answer Form
with_colon profile self x = and_then x (λ h r. and_then (colon profile self r) (λ s r1. Found (header_form h s) r1))

abbrev pub headed : Profile → Reads → List Terminal → Answer Form
headed profile self i = with_colon profile self (reader.read_header profile self i)

-- after `match`
abbrev pub matched : Reads → List Terminal → Answer Form
matched self i = and_then (self Subject i) (λ e r. on_first (is_op Colon) r (λ _ r1. Found (header_form (match_header e) None) r1) NoForm)

-- after `case`, up to the colon
abbrev pub case_header_of : Reads → PatternReads → List Terminal → Answer Header
case_header_of self patterns i =
    and_then (patterns Patterns i) (λ p r. and_then (reader.after self (Word If) Named r) (λ g r1. Found (case_header p g) r1))

abbrev pub cased : Profile → Reads → PatternReads → List Terminal → Answer Form
cased profile self patterns i = with_colon profile self (case_header_of self patterns i)

-- simple statements
abbrev pub simple : Profile → Reads → List Terminal → Answer Form
simple profile self i = and_then (reader.statements profile self (suc (length i)) i) (λ ss r1. Found (simple_form ss) r1)

module _ (profile : Profile) (self : Reads) (patterns : PatternReads) where
  -- the form at the front of a line at its place
  abbrev pub front : Bool → List Terminal → Answer Form
  front inside i = cond (is_case_line profile inside i) (reader.case_front profile self patterns i) (reader.line_front profile self i)

  -- that of a line of a kind; r are the terminals after the first
  abbrev pub front_of : Opening → (i r : List Terminal) → Answer Form
  front_of kind.Decorates i r = decorator self r
  front_of kind.Heads i r = headed profile self i
  front_of kind.Matches i r = matched self r
  front_of kind.Cases i r = cased profile self patterns r
  front_of kind.States i r = simple profile self i
