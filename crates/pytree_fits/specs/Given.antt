-- Which trees the grammar gives: to terminals that pass some tests, and to the tokens of a source. Heights play no part.
use Rattle.std.specs.Prelude.{◌≡◌, leb, Bool, true, false, ◌&&◌, List, [], ◌∷◌, All, None}
use Rattle.std.specs.List.{flat_map}
use Rattle.pytree_node.specs.declared.profiles.Extent.{Extent}
use Rattle.pytree_node.specs.declared.profiles.Profile.{Profile}
use Rattle.pytree_node.specs.Trees.{Expr, Pattern, Module}
use Rattle.pytree_node.specs.Values.{Value, Int, Float, Imaginary, Str, Bytes}
use Rattle.pytoken.specs.Terminals.{Terminal, Ident, Number, Literal, FormattedBegin, FormattedEnd, FormattedText, FieldBegin, SpecBegin}
use Rattle.pytoken.specs.Terminals.{FieldEnd, terminals_of, fault_of}
use Rattle.pytoken.specs.Tokens.{Token}
use Rattle.pytoken.specs.Tokens as Tokens
use Rattle.pytoken.specs.SourceTokens.{IsOfSource}
use Rattle.pygrammar.specs.declared.levels.Level.{Level}
use Rattle.pygrammar.specs.declared.pattern_levels.PatternLevel.{PatternLevel}
use Rattle.pygrammar.specs.Grammar.{Derives}
use Rattle.pygrammar.specs.PatternGrammar.{DerivesPattern}
use Rattle.pygrammar.specs.Lines.{Line, line, Form}
use Rattle.pygrammar.specs.Forms.{FormAt, is_whole}
use Rattle.pygrammar.specs.Blocks.{Block, stands_in_match}
use Rattle.pygrammar.specs.Refusals.{terminals}
use Rattle.pygrammar.specs.OpenStrings.{Open, open_following}
use Rattle.pytree_fits.specs.Tests.{Tests, depth_in, within}
use Rattle.pytree_fits.specs.Literals.{is_value, has_formatted_text}

-- ---- Terminals.

-- what a NUMBER may stand for: a whole number, a float, or an imaginary number
abbrev pub is_number : Value → Bool
is_number (Int n) = true
is_number (Float x) = true
is_number (Imaginary x) = true
is_number _ = false

-- what one STRING may stand for: a text, or bytes
abbrev pub is_literal : Value → Bool
is_literal (Str points unicode) = true
is_literal (Bytes bytes) = true
is_literal _ = false

-- A terminal that may stand where these f-strings are open, each with so many fields: a name passes the test; f-strings stand two deep at
-- most, and so
-- do the fields of one f-string, one in the format spec of the other. Parts of f-strings stand in one.
abbrev pub passes : Tests → Open → Terminal → Bool
passes n o (Ident x) = n.name x.form
passes n o (Number v) = is_number v && is_value (within o n) v
passes n o (Literal v) = is_literal v && is_value (within o n) v
passes n o FormattedBegin = is_whole n.extent && leb (depth_in o n.fields) 1
passes n [] FormattedEnd = false
passes n [] (FormattedText t) = false
passes n [] (FieldBegin c) = false
passes n [] SpecBegin = false
passes n [] FieldEnd = false
passes n (k ∷ o) (FormattedText t) = has_formatted_text (depth_in o n.fields) k t
passes n (k ∷ o) (FieldBegin c) = leb k 1
passes n o _ = true

-- so do all, where so much is open before them
abbrev pub all_pass : Tests → Open → List Terminal → Bool
all_pass n o [] = true
all_pass n o (t ∷ ts) = passes n o t && all_pass n (open_following o t) ts

-- a relation gives this to some list of such terminals
abbrev pub Given : {A : Type 0} → Tests → (List Terminal → A → Type 0) → A → Type 0
Given n r a = (ts : List Terminal) × (all_pass n [] ts ≡ true) × r ts a

-- lines whose forms at their places are given, after earlier ones, of which the nearest comes first
pub data AreGiven (profile : Profile) (n : Tests) : List Line → List Line → Type 0 where
  no_line : {earlier : List Line} → AreGiven profile n earlier []
  a_line : {earlier : List Line} {x : Line} {xs : List Line} →
      Given n (FormAt profile (stands_in_match x.level earlier)) x.form → AreGiven profile n (x ∷ earlier) xs
      → AreGiven profile n earlier (x ∷ xs)

-- a module's statements are those of such lines
abbrev pub GivenModule : Profile → Tests → Module → Type 0
GivenModule profile n m = (xs : List Line) × AreGiven profile n [] xs × Block 0 xs m.body

-- ---- Tokens.

-- tokens that a source can have, none of which has a fault in an extent of the language
pub record AreSound (extent : Extent) (ts : List Token) : Type 0 where
  pub of_source : All IsOfSource ts
  pub faultless : All (λ (t : Token). fault_of extent t.kind t.text ≡ None) ts

-- at a level the grammar gives this expression to some such tokens
pub record Expressed (extent : Extent) (l : Level) (e : Expr) : Type 0 where
  pub tokens : List Token
  pub sound : AreSound extent tokens
  pub derived : Derives l (flat_map (λ t. terminals_of t.kind t.text) tokens) e

-- at a level the grammar gives this pattern to some such tokens
pub record Patterned (extent : Extent) (l : PatternLevel) (p : Pattern) : Type 0 where
  pub tokens : List Token
  pub sound : AreSound extent tokens
  pub derived : DerivesPattern l (flat_map (λ t. terminals_of t.kind t.text) tokens) p

-- lines of such tokens, and their forms at their places in a version of Python, after earlier ones, of which the nearest comes first
pub data HaveForms (profile : Profile) : List Line → List Tokens.Line → List Line → Type 0 where
  no_form : {earlier : List Line} → HaveForms profile earlier [] []
  a_form : {earlier : List Line} {x : Tokens.Line} {xs : List Tokens.Line} {f : Form} {ys : List Line} →
      AreSound profile.extent x.tokens → FormAt profile (stands_in_match x.level earlier) (terminals x) f
      → HaveForms profile (line x.level f ∷ earlier) xs ys →
      HaveForms profile earlier (x ∷ xs) (line x.level f ∷ ys)

-- in a version and an extent of Python the grammar gives this module to some lines of such tokens
pub record Stated (profile : Profile) (m : Module) : Type 0 where
  pub lines : List Tokens.Line
  pub forms : List Line
  pub formed : HaveForms profile [] lines forms
  pub block : Block 0 forms m.body
