-- The simple statements, after the keyword that each begins with.
use Rattle.std.specs.Prelude.{List, Some, None, cond}
use Rattle.pylex_lexeme.specs.declared.kinds.Exact.TheVariants.{Comma}
use Rattle.pytree_node.specs.declared.profiles.Profile.{Profile}
use Rattle.pytree_node.specs.Trees.{Assert, Delete, Global, Nonlocal, Raise, Return, Stmt}
use Rattle.pytoken.specs.declared.keywords.Keyword.TheVariants.{From}
use Rattle.pytoken.specs.Terminals.{Op, Terminal, Word}
use Rattle.pygrammar.specs.declared.levels.Level.TheVariants.{Expression, Stars}
use Rattle.pygrammar.specs.Entries.{Of}
use Rattle.pygrammar.specs.LineReader.{after, alias_rest, always, commas_of, deleted_one, if_any, on_type, read_name, value_statement}
use Rattle.pygrammar.specs.Precedence.{starts}
use Rattle.pygrammar.specs.Reader.{Answer, Found, Reads, and_then}

abbrev pub globals : List Terminal → Answer Stmt
globals i = and_then (commas_of read_name always i) (λ xs r. Found (Global xs) r)

abbrev pub nonlocals : List Terminal → Answer Stmt
nonlocals i = and_then (commas_of read_name always i) (λ xs r. Found (Nonlocal xs) r)

module _ (self : Reads) where
  abbrev pub returns : List Terminal → Answer Stmt
  returns i = and_then (if_any self Stars i) (λ e r. Found (Return e) r)

  abbrev pub raises : List Terminal → Answer Stmt
  raises i = cond (starts (Of Expression) i)
      (and_then (self Expression i) (λ e r. and_then (after self (Word From) Expression r) (λ c r1. Found (Raise (Some e) c) r1)))
      (Found (Raise None None) i)

  abbrev pub asserts : List Terminal → Answer Stmt
  asserts i = and_then (self Expression i) (λ e r. and_then (after self (Op Comma) Expression r) (λ m r1. Found (Assert e m) r1))

  abbrev pub deletes : List Terminal → Answer Stmt
  deletes i = and_then (commas_of (deleted_one self) (starts (Of Expression)) i) (λ es r. Found (Delete es) r)

-- a statement with no keyword in front
abbrev pub begun : Profile → Reads → List Terminal → Answer Stmt
begun profile self i = on_type profile i (alias_rest profile self) (value_statement self i)
