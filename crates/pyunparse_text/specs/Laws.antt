-- What holds of what a tree is written in.
use Rattle.std.specs.Prelude.{◌≡◌, ◌+◌, ◌≤◌, ◌↔◌, List, [], ◌∷◌, ◌++◌, Bool, true, false, ℕ, All, None}
use Rattle.std.specs.List.{list_all, list_any}
use Rattle.std.specs.Str.{all_scalars, encode_utf8_all}
use Rattle.pylex_listing.specs.Listing.{Source, in_characters}
use Rattle.pylex_listing.specs.Laws.{IsLawful}
use Rattle.pytree_node.specs.declared.profiles.Extent.{Extent}
use Rattle.pytree_node.specs.declared.profiles.Profile.{Profile}
use Rattle.pytree_node.specs.Values.{Value, Int, Float, Imaginary, Str, Bytes}
use Rattle.pytree_node.specs.Trees.{Expr, Exprs, Keywords, Arguments, Pattern, Module}
use Rattle.pytoken.specs.Tokens as Tokens
use Rattle.pytoken.specs.SourceTokens.{IsOfSource}
use Rattle.pytoken.specs.Terminals.{Terminal, Number, Literal, IsSound, terminals_of, fault_of}
use Rattle.pytree_height.specs.Heights.{height, pattern_height, expression_height, statement_height}
use Rattle.pygrammar.specs.declared.levels.Level.{Level}
use Rattle.pygrammar.specs.declared.levels.Level.TheVariants.{Stars, Expression, Primary, Atom, Named}
use Rattle.pygrammar.specs.declared.pattern_levels.PatternLevel.{PatternLevel}
use Rattle.pygrammar.specs.Grammar.{Derives, Target, SingleTarget, DelTarget, ItemTarget}
use Rattle.pygrammar.specs.PatternGrammar.{DerivesPattern}
use Rattle.pygrammar.specs.ArgumentLists.{IsArranged, AreArguments}
use Rattle.pygrammar.specs.Lines.{Line, line, Form}
use Rattle.pygrammar.specs.Forms.{FormAt}
use Rattle.pygrammar.specs.FormHeights.{form_height}
use Rattle.pygrammar.specs.Blocks.{Block, kind_of, is_case, stands_in_match}
use Rattle.pygrammar.specs.Refusals as Refusals
use Rattle.pygrammar.specs.Refusals.{Accepted}
use Rattle.pygrammar.specs.Reader.{Found, reads}
use Rattle.pygrammar.specs.FormattedStrings.{has_formatted}
use Rattle.pygrammar.specs.OpenStrings.{token_count}
use Rattle.pylex_listing.specs.declared.kind.Kind.{Kind}
use Rattle.pyunparse_text.specs.Spacing.{Piece}
use Rattle.pyunparse_text.specs.Tokens.{is_written, are_written}
use Rattle.pyunparse_text.specs.SpacingLaws.{ReadsBack}
use Rattle.pyunparse_text.specs.Written.{listed, each, by_name, parameters}
use Rattle.pyunparse_text.specs.WrittenPatterns.{written_pattern}
use Rattle.pyunparse_text.specs.Terminals.{terminal, terminals}
use Rattle.pyunparse_text.specs.Pieces.{Sited, outside, piece, pieces}
use Rattle.pyunparse_text.specs.Statements.{item_target}
use Rattle.pyunparse_text.specs.Modules.{WrittenLine, written_line, module_lines, terminal_lines, piece_lines, module_text}
use Rattle.pyunparse_text.specs.Brackets.{brackets}

-- ---- Fewest brackets.

-- a list of terminals gives something, by a relation, and no list of fewer tokens does; an f-string is one token
pub record Shortest {A : Type 0} (Gives : List Terminal → A → Type 0) (ts : List Terminal) (a : A) : Type 0 where
  pub gives : Gives ts a
  pub least : (us : List Terminal) → Gives us a → token_count ts ≤ token_count us

-- An expression that the grammar gives to some list at a level is written there in terminals that give it back, and in no more of them than
-- any list has that does.
abbrev pub ExpressionsAreShortest : Type 0
ExpressionsAreShortest = (l : Level) (ts : List Terminal) (e : Expr) → Derives l ts e → Shortest (Derives l) (terminals l e) e

-- So the reader finds it in its own terminals exactly where some list gives it.
abbrev pub ExpressionsComeBack : Type 0
ExpressionsComeBack = (l : Level) (e : Expr) → ((ts : List Terminal) × Derives l ts e) ↔ (reads l (terminals l e) ≡ Found e [])

-- Targets are written as expressions at the level of their place, as if their contexts were Load.
pub record TargetIsShortest (ts : List Terminal) (s : Expr) : Type 0 where
  pub target : Target ts s → Shortest Target (terminals Stars s) s
  pub single : SingleTarget ts s → Shortest SingleTarget (terminals Primary s) s
  pub del : DelTarget ts s → Shortest DelTarget (terminals Expression s) s
  pub item : ItemTarget ts s → Shortest ItemTarget (item_target terminal s) s

abbrev pub TargetsAreShortest : Type 0
TargetsAreShortest = (ts : List Terminal) (s : Expr) → TargetIsShortest ts s

abbrev pub ParametersAreShortest : Type 0
ParametersAreShortest = (annotated : Bool) (ts : List Terminal) (a : Arguments) → IsArranged annotated ts a
    → Shortest (IsArranged annotated) (listed terminal (parameters terminal a)) a

abbrev pub ArgumentsAreShortest : Type 0
ArgumentsAreShortest = (ts : List Terminal) (es : Exprs) (ks : Keywords) → AreArguments ts (es, ks)
    → Shortest AreArguments (listed terminal (each terminal Named es ++ by_name terminal ks)) (es, ks)

-- ---- Fewest brackets in patterns.

-- what a NUMBER may stand for
abbrev pub is_number : Value → Bool
is_number (Int n) = true
is_number (Float x) = true
is_number (Imaginary x) = true
is_number _ = false

-- what one STRING may stand for
abbrev pub is_string : Value → Bool
is_string (Str points unicode) = true
is_string (Bytes bytes) = true
is_string _ = false

-- a terminal that a token may be
abbrev pub may_be_token : Terminal → Bool
may_be_token (Number v) = is_number v
may_be_token (Literal v) = is_string v
may_be_token _ = true

-- A pattern that the grammar gives to some terminals of tokens at a level is written there in terminals that give it back, and in no more
-- of them
-- than any list has that does. (A NUMBER that stood for None would be a value to the grammar, but is written as the word, which is none.)
abbrev pub PatternsAreShortest : Type 0
PatternsAreShortest = (l : PatternLevel) (ts : List Terminal) (p : Pattern) → list_all may_be_token ts ≡ true → DerivesPattern l ts p
    → Shortest (DerivesPattern l) (written_pattern terminal l p) p

-- ---- Brackets within heights.

-- no place is at Atom
abbrev pub not_atom : Level → Bool
not_atom Atom = false
not_atom _ = true

-- no more brackets are open at once than the expression is high
abbrev pub BracketsAreWithinHeight : Type 0
BracketsAreWithinHeight = (l : Level) (e : Expr) → not_atom l ≡ true → brackets (terminals l e) ≤ height e

-- a pattern's, at every level
abbrev pub PatternBracketsAreWithinHeight : Type 0
PatternBracketsAreWithinHeight = (l : PatternLevel) (p : Pattern) → brackets (written_pattern terminal l p) ≤ pattern_height p

-- what a tree is written in has the fewest tokens at each place of an expression, and no more nested brackets than the tree is high
pub record WritingIsShortest : Type 0 where
  pub expressions : ExpressionsAreShortest
  pub targets : TargetsAreShortest
  pub parameters : ParametersAreShortest
  pub arguments : ArgumentsAreShortest
  pub patterns : PatternsAreShortest
  pub brackets : BracketsAreWithinHeight
  pub pattern_brackets : PatternBracketsAreWithinHeight

-- ---- Pieces.

-- In an extent of the language a token of this type and text gives these terminals: it is what its type says, and has no fault, in that
-- extent
-- either.
pub record GivesAll (extent : Extent) (k : Kind) (text : List ℕ) (ts : List Terminal) : Type 0 where
  pub terminals : terminals_of k text ≡ ts
  pub sound : IsSound k text
  pub faultless : fault_of extent k text ≡ None

-- pieces give terminals one after another
pub data Give (extent : Extent) : List Piece → List Terminal → Type 0 where
  give_none : Give extent [] []
  give : {p : Piece} {ps : List Piece} {ts us : List Terminal} → GivesAll extent p.kind p.text ts → Give extent ps us
      → Give extent (p ∷ ps) (ts ++ us)

-- the terminals of some tokens of Unicode characters, one after another
pub data AreOfTokens (extent : Extent) : List Terminal → Type 0 where
  no_token : AreOfTokens extent []
  a_token : {k : Kind} {text : List ℕ} {ts us : List Terminal} → all_scalars text ≡ true → GivesAll extent k text ts → AreOfTokens extent us
      → AreOfTokens extent (ts ++ us)

-- Pieces give these terminals, and are a line that is read back: those that touch are told apart, and brackets are closed.
pub record AreRead (extent : Extent) (ps : List Piece) (ts : List Terminal) : Type 0 where
  pub give : Give extent ps ts
  pub line : (level : ℕ) → is_written (record { level = level; pieces = ps }) ≡ true

-- What is written for an expression that the grammar gives to some tokens, and that is no higher than 500 where it has an f-string. (A much
-- higher
-- one may open more brackets in a field than may be open there.)
abbrev pub ExpressionsAreRead : Type 0
ExpressionsAreRead = (extent : Extent) (l : Level) (ts : List Terminal) (e : Expr) → AreOfTokens extent ts → Derives l ts e
    → (has_formatted (terminals l e) ≡ true → height e ≤ 500) → AreRead extent (outside (pieces l e)) (terminals l e)

-- and for a pattern
abbrev pub PatternsAreRead : Type 0
PatternsAreRead = (extent : Extent) (l : PatternLevel) (ts : List Terminal) (p : Pattern) → AreOfTokens extent ts → DerivesPattern l ts p
    → (has_formatted (written_pattern terminal l p) ≡ true → pattern_height p ≤ 500)
    → AreRead extent (outside (written_pattern piece l p)) (written_pattern terminal l p)

-- ---- Modules.

-- the lines have these forms at their places in a version of Python, after earlier lines, which are given nearest first
pub data HaveForms (profile : Profile) : List Line → List (WrittenLine Terminal) → List Line → Type 0 where
  no_form : {earlier : List Line} → HaveForms profile earlier [] []
  a_form : {earlier : List Line} {l : ℕ} {ts : List Terminal} {f : Form} {ws : List (WrittenLine Terminal)} {xs : List Line}
      → FormAt profile (stands_in_match l earlier) ts f → HaveForms profile (line l f ∷ earlier) ws xs
      → HaveForms profile earlier (written_line l ts ∷ ws) (line l f ∷ xs)

-- they have forms, and the statements of these are a module's
pub record AreModule (profile : Profile) (ws : List (WrittenLine Terminal)) (m : Module) : Type 0 where
  pub forms : List Line
  pub formed : HaveForms profile [] ws forms
  pub block : Block 0 forms m.body

-- terminals that tokens may be
abbrev pub MayBeTokens : WrittenLine Terminal → Type 0
MayBeTokens w = list_all may_be_token w.tokens ≡ true

-- A module that some lines of terminals of tokens give is given by the lines that it is written in. Lines give one module at most
-- (`pygrammar`'s
-- laws), so these give no other.
abbrev pub ModulesComeBack : Type 0
ModulesComeBack = (profile : Profile) (ws : List (WrittenLine Terminal)) (m : Module) → AreModule profile ws m → All MayBeTokens ws
    → AreModule profile (terminal_lines m) m

-- after earlier lines each line stands in a `match` exactly where it is the header of a case
abbrev pub ArePlaced : List Line → List Line → Type 0
ArePlaced earlier [] = Unit {0}
ArePlaced earlier (x ∷ xs) = (stands_in_match x.level earlier ≡ is_case (kind_of x.form)) × ArePlaced (x ∷ earlier) xs

-- In a module's lines a line stands in a `match` exactly where it is written as a case.
abbrev pub CasesStandInMatches : Type 0
CasesStandInMatches = (profile : Profile) (m : Module) (a : AreModule profile (terminal_lines m) m) → ArePlaced [] a.forms

-- lines give one module at most
abbrev pub LinesAreOneModule : Type 0
LinesAreOneModule = (profile : Profile) (ws : List (WrittenLine Terminal)) (m n : Module) → AreModule profile ws m
    → AreModule profile ws n → m ≡ n

-- a module that is accepted is given by its own lines
abbrev pub AcceptedComeBack : Type 0
AcceptedComeBack = (profile : Profile) (s : Source) (m : Module) → Accepted profile s m → AreModule profile (terminal_lines m) m

-- no expression of these forms is higher
abbrev pub AreWithin : ℕ → List Line → Type 0
AreWithin height [] = Unit {0}
AreWithin height (x ∷ xs) = (form_height x.form ≤ height) × AreWithin height xs

-- forms have no higher expressions than their module, and the module none higher than they
abbrev pub FormsAreLow : Type 0
FormsAreLow = (xs : List Line) (m : Module) → Block 0 xs m.body → AreWithin (expression_height m) xs

abbrev pub ModulesAreLow : Type 0
ModulesAreLow = (n : ℕ) (xs : List Line) (m : Module) → Block 0 xs m.body → AreWithin n xs → expression_height m ≤ n

-- a line's own brackets are one pair around its expressions, so no more are open at once in any line
abbrev pub LineBracketsAreWithinHeight : Type 0
LineBracketsAreWithinHeight = (m : Module) → All (λ w. brackets w.tokens ≤ expression_height m + 1) (terminal_lines m)

-- ---- Modules as text.

-- a line of terminals of tokens of Unicode characters that have no fault, in an extent of the language either
abbrev pub IsOfTokens : Extent → WrittenLine Terminal → Type 0
IsOfTokens extent w = AreOfTokens extent w.tokens

-- lines of pieces give lines of terminals, each at its level
pub data GiveLines (extent : Extent) : List (WrittenLine Sited) → List (WrittenLine Terminal) → Type 0 where
  no_line : GiveLines extent [] []
  a_line : {l : ℕ} {ps : List Sited} {ts : List Terminal} {rs : List (WrittenLine Sited)} {qs : List (WrittenLine Terminal)}
      → Give extent (outside ps) ts → GiveLines extent rs qs → GiveLines extent (written_line l ps ∷ rs) (written_line l ts ∷ qs)

-- The lines of a module are read back, and give its lines of terminals.
pub record ModuleIsRead (extent : Extent) (m : Module) : Type 0 where
  pub written : are_written (piece_lines m) ≡ true
  pub give : GiveLines extent (module_lines piece m) (terminal_lines m)

-- so are the lines of a module that some lines of tokens give, and that is no higher than 500 where it has an f-string
abbrev pub ModulesAreRead : Type 0
ModulesAreRead = (profile : Profile) (ws : List (WrittenLine Terminal)) (m : Module) → AreModule profile ws m
    → All (IsOfTokens profile.extent) ws
    → (list_any (λ w. has_formatted w.tokens) (terminal_lines m) ≡ true → expression_height m ≤ 500) → ModuleIsRead profile.extent m

-- The UTF-8 of a module's text is a source in UTF-8, without a mark, a cookie or a fault, whose tokens and lines are the module's pieces;
-- it is
-- accepted as this module, and as no other.
pub record TextIsAccepted (profile : Profile) (m : Module) : Type 0 where
  pub back : ReadsBack (encode_utf8_all (module_text m)) (piece_lines m)
  pub accepted : Accepted profile (in_characters back.parts) m
  pub only : (n : Module) → Accepted profile (in_characters back.parts) n → n ≡ m

-- The law of source text: a module that some lines of tokens give, and that is no higher than 500, is the one that its own text gives.
abbrev pub ModuleTextsAreAccepted : Type 0
ModuleTextsAreAccepted = (profile : Profile) (ws : List (WrittenLine Terminal)) (m : Module) → AreModule profile ws m
    → All (IsOfTokens profile.extent) ws → expression_height m ≤ 500 → statement_height m ≤ 500 → TextIsAccepted profile m

-- the lines of a source as the grammar reads them
abbrev pub source_lines : List Tokens.Line → List (WrittenLine Terminal)
source_lines [] = []
source_lines (x ∷ xs) = written_line x.level (Refusals.terminals x) ∷ source_lines xs

-- a token as a source can have it that has no fault in an extent of the language
abbrev pub IsOfSourceIn : Extent → Tokens.Token → Type 0
IsOfSourceIn extent t = IsOfSource t × (fault_of extent t.kind t.text ≡ None)

-- lines of such tokens are such lines of terminals
abbrev pub TokensAreOfTokens : Type 0
TokensAreOfTokens = (extent : Extent) (xs : List Tokens.Line) → All (λ (x : Tokens.Line). All (IsOfSourceIn extent) x.tokens) xs
    → All (IsOfTokens extent) (source_lines xs)

-- So a module that a source is accepted as is the one that its own text is accepted as.
abbrev pub AcceptedTextsAreAccepted : Type 0
AcceptedTextsAreAccepted = (profile : Profile) (s : Source) (m : Module) → IsLawful s → all_scalars s.text ≡ true → Accepted profile s m
    → TextIsAccepted profile m

-- ---- All of them.

-- the laws of what a tree is written in
pub record WritingIsLawful : Type 0 where
  pub shortest : WritingIsShortest
  pub back : ExpressionsComeBack
  pub read : ExpressionsAreRead
  pub patterns : PatternsAreRead
  pub modules : ModulesComeBack
  pub cases : CasesStandInMatches
  pub one : LinesAreOneModule
  pub lines : ModulesAreRead
  pub texts : ModuleTextsAreAccepted
  pub sources : AcceptedTextsAreAccepted
