-- The items of a `with`, as the program reads them.
use Rattle.std.specs.Prelude.{ℕ, List, Bool, true, false, map, Result}
use Rattle.pytree_node.specs.Trees.{Item}
use Rattle.pytree_node.specs.TreeOf.{item_of}
use Rattle.pytoken.specs.Terminals as tokens
use Rattle.pytoken.specs.declared.values.terminals.Terminal.{Terminal}
use Rattle.pygrammar.specs.declared.levels.Level.TheVariants.{Expression}
use Rattle.pygrammar.specs.Entries.{Of}
use Rattle.pygrammar.specs.Precedence.{starts}
use Rattle.pygrammar.specs.LineReader.{always}
use Rattle.pygrammar.specs.Reader.{Answer}
use Rattle.pyparse_nodes.specs.declared.stop.Stop.{Stop}
use Rattle.pyparse_nodes.specs.Answers.{PartAnswered}
use Rattle.pyparse_statement.specs.declared.headers.found.ReadItems.{ReadItems}

-- whether another item follows a comma: in brackets where an expression begins, else always
abbrev pub more_items : Bool → List tokens.Terminal → Bool
more_items true = starts (Of Expression)
more_items false = always

-- items are the reader's answer, or there are none, for the reader's reason
abbrev pub ItemsAnswered : List Terminal → (least : ℕ) → Answer (List Item) → Result ReadItems Stop → Type 0
ItemsAnswered ts least x z = PartAnswered ts least x (λ r. map item_of r.items.items) (λ r. r.next) z
