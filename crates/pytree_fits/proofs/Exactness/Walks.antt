-- Carries: the laws by tokens. On: terminals that pass, with what is open after them, and those of the tokens of a field.
use Rattle.std.proofs.Common.{◌≡◌, refl, sym, ap, subst, ◌∙◌, ℕ, List, [], ◌∷◌, ◌++◌, Option, Some, None, Bool, true, false}
use Rattle.std.specs.List.{flat_map}
use Rattle.std.specs.Str.{encode_utf8_all}
use Rattle.std.proofs.lemmas.Bool.{and_from}
use Rattle.std.proofs.lemmas.Grind.{flat_map-append}
use Rattle.unicode_normalization.specs.Forms.{nfkc}
use Rattle.pylex_lexeme.specs.declared.kinds.Exact.{Exact}
use Rattle.pylex_lexeme.specs.declared.lexeme.Class.{Class}
use Rattle.pylex_lexeme.specs.declared.lexeme.Class.TheVariants as classes
use Rattle.pylex_lexeme.specs.Lexemes.{Lexeme, is_name, cut}
use Rattle.pylex_lexeme.specs.Operators.{exact_of}
use Rattle.pylex_listing.specs.declared.kind.Kind.{Kind}
use Rattle.pylex_listing.specs.declared.kind.Kind.TheVariants as kinds
use Rattle.pylex_listing.specs.EntryKinds.{kind_of}
use Rattle.pyfstring_tokens.specs.FieldTokens.{FieldToken, field_tokens, is_gap, closing}
use Rattle.pyfstring_tokens.specs.Laws.{tokens_of}
use Rattle.pytree_node.specs.Values.{Value, Int, Float, Imaginary}
use Rattle.pytree_node.specs.declared.profiles.Extent.TheVariants.{Whole}
use Rattle.pytoken.specs.declared.faults.TokenError.{TokenError}
use Rattle.pytoken.specs.declared.keywords.Keyword.{Keyword}
use Rattle.pytoken.specs.Keywords.{keyword_of}
use Rattle.pytoken.specs.NameValues.{name_fault}
use Rattle.pytoken.specs.NumberValues.{number_value, number_fault}
use Rattle.pytoken.specs.Terminals.{Terminal, Op, Word, Ident, Number, Layout, terminal_of, single_fault}
use Rattle.pytoken.proofs.Callers.Said.{names_are_proper}
use Rattle.pygrammar.specs.OpenStrings.{Open, open_following, open_after_all}
use Rattle.pygrammar.proofs.Callers.OpenStrings.{after_append}
use Rattle.pyunparse_text.proofs.Callers.Strings.{OfClass, IsToken, AllTokens, no_lexeme, a_gap, a_token, IsWholeField, operator_terminal}
use Rattle.pytree_fits.specs.Tests.{Tests, tests_in}
use Rattle.pytree_fits.specs.Given.{passes, all_pass}
use Rattle.pytree_fits.proofs.Fields.Standing.{both_from}
use Rattle.pytree_fits.proofs.Fields.Tests.{never}
use Rattle.pytree_fits.proofs.Exactness.ProperNames.{proper_name}
use Rattle.pytree_fits.proofs.Exactness.NumberTokens.{number_passes}

abbrev pub whole : Tests
whole = tests_in Whole

-- a terminal that passes in the whole language, where these f-strings are open
abbrev pub Stands : Open → Terminal → Type 0
Stands o t = passes whole o t ≡ true

-- so do all, and after them these are open
pub record Walk (o q : Open) (ts : List Terminal) : Type 0 where
  pub passed : all_pass whole o ts ≡ true
  pub opened : open_after_all o ts ≡ q

pub walk_none : (o : Open) → Walk o o []
walk_none o = record { passed = refl; opened = refl }

pub walk_one : {o q : Open} (t : Terminal) → Stands o t → open_following o t ≡ q → Walk o q (t ∷ [])
walk_one {o} t s e = record { passed = and_from (passes whole o t) true s refl; opened = e }

pub walk_both : {o m q : Open} {ts us : List Terminal} → Walk o m ts → Walk m q us → Walk o q (ts ++ us)
walk_both {o} {m} {q} {ts} {us} a b = record {
  passed = both_from whole o ts us a.passed (subst (λ z. all_pass whole z us ≡ true) (sym a.opened) b.passed);
  opened = after_append o ts us ∙ (ap (λ z. open_after_all z us) a.opened ∙ b.opened);
}

-- ---- The tokens of a field.

abbrev given : (Kind → List ℕ → List Terminal) → List FieldToken → List Terminal
given by ts = flat_map (λ (x : FieldToken). by x.kind x.text) ts

module _ (o : Open) (p : ℕ → Bool) (fault : Kind → List ℕ → Option TokenError) (by : Kind → List ℕ → List Terminal)
    (walk : (x : Lexeme) → is_gap x.«class» ≡ false → IsToken p fault x → Walk o o (by (kind_of x.«class» true) x.text)) where
  lexemes_walk : {xs : List Lexeme} → AllTokens p fault xs → Walk o o (given by (tokens_of xs))
  lexemes_walk no_lexeme = walk_none o
  lexemes_walk (a_gap g h) = rw g (lexemes_walk h)
  lexemes_walk (a_token {x = x} g t h) = rw g (walk_both (walk x g t) (lexemes_walk h))

  pub field_walk : (t : List ℕ) → IsWholeField p fault t → Walk o o (by kinds.Op (40 ∷ [])) → Walk o o (by kinds.Op (41 ∷ []))
      → Walk o o (given by (field_tokens t))
  field_walk t w a b =
      subst (λ z. Walk o o (given by z)) (sym w.tokens)
      (walk_both a
      (subst (Walk o o) (sym (flat_map-append (λ (x : FieldToken). by x.kind x.text) (tokens_of (cut t)) (closing ∷ [])))
      (walk_both (lexemes_walk w.all) (walk_both b (walk_none o)))))

-- ---- Tokens that are one terminal, and no STRING.

name_opens : (n : ℕ) (o : Open) (t : List ℕ) → open_following (n ∷ o) (terminal_of kinds.Name t) ≡ n ∷ o
unfolding terminal_of
name_opens n o t = by (keyword_of t)
  where
    by : (k : Option Keyword)
        → open_following (n ∷ o) (elim k [ Some w ↦ Word w | None ↦ Ident (record { spelling = t; form = nfkc t }) ]) ≡ n ∷ o
    by (Some w) = refl
    by None = refl

name_stands : (n : ℕ) (o : Open) (t : List ℕ) → is_name t ≡ true → name_fault t ≡ None → Stands (n ∷ o) (terminal_of kinds.Name t)
unfolding terminal_of
name_stands n o t h s = by (keyword_of t) refl
  where
    by : (k : Option Keyword) → keyword_of t ≡ k
        → Stands (n ∷ o) (elim k [ Some w ↦ Word w | None ↦ Ident (record { spelling = t; form = nfkc t }) ])
    by (Some w) e = refl
    by None e = proper_name (nfkc t) (names_are_proper t h e s)

number_anywhere : (n : ℕ) (o : Open) (v : Value) → Stands [] (Number v) → Stands (n ∷ o) (Number v)
number_anywhere n o (Int i) h = h
number_anywhere n o (Float x) h = h
number_anywhere n o (Imaginary x) h = h
number_anywhere n o _ h = absurd (never h)

number_stands : (n : ℕ) (o : Open) (t : List ℕ) → number_fault Whole (encode_utf8_all t) ≡ None
    → Stands [] (terminal_of kinds.Number t) → Stands (n ∷ o) (terminal_of kinds.Number t)
unfolding terminal_of
number_stands n o t s h = number_anywhere n o (number_value (encode_utf8_all t)) h

number_opens : (n : ℕ) (o : Open) (t : List ℕ) → open_following (n ∷ o) (terminal_of kinds.Number t) ≡ n ∷ o
unfolding terminal_of
number_opens n o t = refl

-- where some f-string is open
module _ (n : ℕ) (o : Open) where
  pub operator_walk : (t : List ℕ) (e : Exact) → exact_of t ≡ Some e → Walk (n ∷ o) (n ∷ o) (terminal_of kinds.Op t ∷ [])
  operator_walk t e h = subst (λ z. Walk (n ∷ o) (n ∷ o) (z ∷ [])) (sym (operator_terminal t e h)) (walk_one (Op e) refl refl)

  comment_walk : (t : List ℕ) → Walk (n ∷ o) (n ∷ o) (terminal_of kinds.Comment t ∷ [])
  unfolding terminal_of
  comment_walk t = walk_one Layout refl refl

  pub lexeme_walk : (k : Class) (t : List ℕ) → is_gap k ≡ false → OfClass k t → single_fault Whole (kind_of k true) t ≡ None
      → (k ≡ classes.String → OfClass classes.String t → Walk (n ∷ o) (n ∷ o) (terminal_of kinds.String t ∷ []))
      → Walk (n ∷ o) (n ∷ o) (terminal_of (kind_of k true) t ∷ [])
  unfolding single_fault
  lexeme_walk classes.Name t g c f x = walk_one (terminal_of kinds.Name t) (name_stands n o t c f) (name_opens n o t)
  lexeme_walk classes.Number t g c f x =
      walk_one (terminal_of kinds.Number t) (number_stands n o t f (number_passes Whole t f)) (number_opens n o t)
  lexeme_walk classes.String t g c f x = x refl c
  lexeme_walk (classes.Operator e) t g c f x = operator_walk t e c
  lexeme_walk classes.Comment t g c f x = comment_walk t
  lexeme_walk _ t g c f x = absurd (cc)
