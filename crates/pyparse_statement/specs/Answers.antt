-- What the program's answers say of the reader's headers.
use Rattle.std.specs.Prelude.{ℕ, List, Result}
use Rattle.pytoken.specs.declared.values.terminals.Terminal.{Terminal}
use Rattle.pygrammar.specs.Lines.{Header}
use Rattle.pygrammar.specs.Reader.{Answer}
use Rattle.pygrammar.specs.FormOf.{header_of}
use Rattle.pyparse_nodes.specs.declared.stop.Stop.{Stop}
use Rattle.pyparse_nodes.specs.Answers.{PartAnswered}
use Rattle.pyparse_statement.specs.declared.headers.found.ReadHeader.{ReadHeader}

-- a header is the reader's answer, or there is none, for the reader's reason
abbrev pub HeaderAnswered : List Terminal → (least : ℕ) → Answer Header → Result ReadHeader Stop → Type 0
HeaderAnswered ts least x z = PartAnswered ts least x (λ r. header_of r.header) (λ r. r.next) z
