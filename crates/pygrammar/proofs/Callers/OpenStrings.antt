-- On: lists that the grammar gives close the f-strings that they open; what is open after lists, and how many tokens they are.
--
-- Carries: what crates above need to count tokens.
use Rattle.std.proofs.Common.{◌≡◌, ℕ, Bool, List, Option}
use Rattle.std.specs.List.{flat_map}
use Rattle.pylex_lexeme.specs.declared.kinds.Exact.{Exact}
use Rattle.pylex_listing.specs.declared.kind.Kind.{Kind}
use Rattle.pytree_node.specs.declared.profiles.Profile.{Profile}
use Rattle.pytree_node.specs.declared.operators.BoolOperator.{BoolOperator}
use Rattle.pytree_node.specs.declared.operators.Comparison.{Comparison}
use Rattle.pytree_node.specs.Trees.{Expr, OptionalExpr, Comprehension, Pattern, Stmt}
use Rattle.pytoken.specs.Terminals.{Terminal, terminals_of}
use Rattle.pytoken.specs.Tokens.{Token}
use Rattle.pygrammar.specs.declared.levels.Level.{Level}
use Rattle.pygrammar.specs.declared.pattern_levels.PatternLevel.{PatternLevel}
use Rattle.pygrammar.specs.FormattedStrings.{StringPart}
use Rattle.pygrammar.specs.Entries.{Item, Entry}
use Rattle.pygrammar.specs.PatternEntries.{PatternItem, PatternEntry}
use Rattle.pygrammar.specs.Lines.{Form, Header}
use Rattle.pygrammar.specs.OpenStrings.{Open, open_after_all}
use Rattle.pygrammar.specs.Grammar
use Rattle.pygrammar.specs.PatternGrammar
use Rattle.pygrammar.specs.Forms
use Rattle.pygrammar.proofs.Opened.Expressions
use Rattle.pygrammar.proofs.Opened.Patterns
use Rattle.pygrammar.proofs.Opened.Forms as Lines
use Rattle.pygrammar.proofs.Opened.Tokens
pub use Rattle.pygrammar.proofs.Opened.Counts.{after_append, tokens_append, count_append, count_most, count_plain, count_within}
pub use Rattle.pygrammar.proofs.Opened.Counts.{count_formatted}
pub use Rattle.pygrammar.proofs.Opened.Tokens.{terminals_counted, tokens_counted}
pub use Rattle.pygrammar.proofs.Opened.Closing.{one_less, none_some}

-- ---- Tokens.

pub terminals_close : (k : Kind) (t : List ℕ) (o : Open) → open_after_all o (terminals_of k t) ≡ o
terminals_close k t = (Tokens.terminals_close k t).is

pub tokens_close : (ts : List Token) (o : Open) → open_after_all o (flat_map (λ (t : Token). terminals_of t.kind t.text) ts) ≡ o
tokens_close ts = (Tokens.tokens_close ts).is

-- ---- Expressions.

pub expression_closes : {l : Level} {ts : List Terminal} {e : Expr} → Grammar.Derives l ts e → (o : Open) → open_after_all o ts ≡ o
expression_closes p = (Expressions.closes p).is

pub perhaps_closes : {l : Level} {ts : List Terminal} {a : OptionalExpr} → Grammar.Perhaps l ts a → (o : Open) → open_after_all o ts ≡ o
perhaps_closes p = (Expressions.closes_perhaps p).is

pub suffix_closes : {s : Option Exact} {ts : List Terminal} {a : OptionalExpr} → Grammar.Suffix s ts a → (o : Open)
    → open_after_all o ts ≡ o
suffix_closes p = (Expressions.closes_suffix p).is

pub chain_closes : {b : BoolOperator} {ts : List Terminal} {es : List Expr} → Grammar.Chain b ts es → (o : Open) → open_after_all o ts ≡ o
chain_closes p = (Expressions.closes_chain p).is

pub compared_closes : {ts : List Terminal} {c : Comparison} → Grammar.Compared ts c → (o : Open) → open_after_all o ts ≡ o
compared_closes p = (Expressions.closes_comparison p).is

-- the parts of f-strings
pub formatted_closes : {u : Bool} {ts : List Terminal} {ps : List StringPart} → Grammar.Formatted u ts ps → (o : Open)
    → open_after_all o ts ≡ o
formatted_closes p = (Expressions.closes_formatted p).is

pub spec_closes : {u : Bool} {ts : List Terminal} {a : OptionalExpr} → Grammar.Spec u ts a → (o : Open) → open_after_all o ts ≡ o
spec_closes p = (Expressions.closes_spec p).is

-- elements, arguments and parameters
pub listing_closes : {i : Item} {ts : List Terminal} {es : List Entry} → Grammar.Listing i ts es → (o : Open) → open_after_all o ts ≡ o
listing_closes p = (Expressions.closes_listing p).is

pub piece_closes : {i : Item} {ts : List Terminal} {e : Entry} → Grammar.Piece i ts e → (o : Open) → open_after_all o ts ≡ o
piece_closes p = (Expressions.closes_piece p).is

-- the clauses of comprehensions
pub comp_closes : {ts : List Terminal} {g : Comprehension} → Grammar.Comp ts g → (o : Open) → open_after_all o ts ≡ o
comp_closes p = (Expressions.closes_comp p).is

-- targets
pub target_closes : {ts : List Terminal} {s : Expr} → Grammar.Target ts s → (o : Open) → open_after_all o ts ≡ o
target_closes p = (Expressions.closes_target p).is

pub single_target_closes : {ts : List Terminal} {s : Expr} → Grammar.SingleTarget ts s → (o : Open) → open_after_all o ts ≡ o
single_target_closes p = (Expressions.closes_single_target p).is

pub del_target_closes : {ts : List Terminal} {s : Expr} → Grammar.DelTarget ts s → (o : Open) → open_after_all o ts ≡ o
del_target_closes p = (Expressions.closes_del_target p).is

pub item_target_closes : {ts : List Terminal} {s : Expr} → Grammar.ItemTarget ts s → (o : Open) → open_after_all o ts ≡ o
item_target_closes p = (Expressions.closes_item_target p).is

-- ---- Patterns.

pub key_closes : {ts : List Terminal} {e : Expr} → PatternGrammar.KeyOf ts e → (o : Open) → open_after_all o ts ≡ o
key_closes p = (Patterns.closes_key p).is

pub class_closes : {ts : List Terminal} {e : Expr} → PatternGrammar.ClassOf ts e → (o : Open) → open_after_all o ts ≡ o
class_closes p = (Patterns.closes_class p).is

pub pattern_closes : {l : PatternLevel} {ts : List Terminal} {p : Pattern} → PatternGrammar.DerivesPattern l ts p
    → (o : Open) → open_after_all o ts ≡ o
pattern_closes p = (Patterns.closes_pattern p).is

pub entry_closes : {i : PatternItem} {ts : List Terminal} {e : PatternEntry} → PatternGrammar.PatternPiece i ts e
    → (o : Open) → open_after_all o ts ≡ o
entry_closes p = (Patterns.closes_entry p).is

-- ---- Lines.

pub simple_closes : {profile : Profile} {ts : List Terminal} {s : Stmt} → Forms.Simple profile ts s → (o : Open) → open_after_all o ts ≡ o
simple_closes p = (Lines.closes_simple p).is

pub header_closes : {profile : Profile} {ts : List Terminal} {h : Header} → Forms.HeaderOf profile ts h → (o : Open)
    → open_after_all o ts ≡ o
header_closes p = (Lines.closes_header p).is

pub case_closes : {ts : List Terminal} {h : Header} → Forms.CaseOf ts h → (o : Open) → open_after_all o ts ≡ o
case_closes p = (Lines.closes_case p).is

pub line_closes : {profile : Profile} {inside : Bool} {ts : List Terminal} {f : Form} → Forms.FormAt profile inside ts f
    → (o : Open) → open_after_all o ts ≡ o
line_closes p = (Lines.closes_line p).is
