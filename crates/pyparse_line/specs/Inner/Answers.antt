-- What the program's answers say of the reader's forms.
use Rattle.std.specs.Prelude.{ℕ, List, Result}
use Rattle.pytoken.specs.declared.values.terminals.Terminal.{Terminal}
use Rattle.pygrammar.specs.Lines.{Form}
use Rattle.pygrammar.specs.Reader.{Answer}
use Rattle.pygrammar.specs.FormOf.{form_of}
use Rattle.pyparse_nodes.specs.declared.stop.Stop.{Stop}
use Rattle.pyparse_nodes.specs.Answers.{PartAnswered}
use Rattle.pyparse_line.specs.declared.found.ReadForm.{ReadForm}

-- a form is the reader's answer, or there is none, for the reader's reason
abbrev pub FormAnswered : List Terminal → (least : ℕ) → Answer Form → Result ReadForm Stop → Type 0
FormAnswered ts least x z = PartAnswered ts least x (λ r. form_of r.form) (λ r. r.next) z
