-- The tokens of a field without a fault: the text is cut to its end, its brackets are closed, and each token is what its type says, and has
-- no fault.
--
-- Carries: AllTokens, IsWholeField, whole_field, for Brackets, StringsSaid. On: Elements.
use Rattle.std.proofs.Common.{◌≡◌, ℕ, Bool, true, false, ◌||◌, List, [], ◌∷◌, ◌++◌, Option, Some, None, refl, sym, ◌∙◌, ap, subst, cond}
use Rattle.std.proofs.Common.{is_some}
use Rattle.std.specs.List.{list_all, list_any}
use Rattle.std.specs.Str.{all_scalars}
use Rattle.std.proofs.lemmas.List.Folds.{list_all-append}
use Rattle.std.proofs.lemmas.Bool.{and_parts, or_parts}
use Rattle.pylex_lexeme.specs.Lexemes.{Lexeme, class_in, cut, left_by_cut}
use Rattle.pylex_listing.specs.declared.kind.Kind.{Kind}
use Rattle.pylex_listing.specs.EntryKinds.{kind_of}
use Rattle.pylex_listing.specs.Laws.{AreLexemes}
use Rattle.pylex_listing.proofs.Callers.{cut_lexed, longest_wins, scalars_of}
use Rattle.pyfstring_tokens.specs.FieldTokens.{FieldToken, is_gap, has_fault, closes_outer, has_comment, opening, closing}
use Rattle.pyfstring_tokens.specs.Answers.{field_token}
use Rattle.pyfstring_tokens.specs.Given.{AreAll}
use Rattle.pyfstring_tokens.specs.Laws.{tokens_of, IsWhole, HasOwnTokens}
use Rattle.pyfstring_tokens.proofs.Callers.Law.{tokens_are_own}
use Rattle.pytoken.specs.declared.faults.TokenError.{TokenError}
use Rattle.pytoken.specs.FormattedStrings.{has_no_tokens, is_faulty_by}
use Rattle.pyunparse_text.proofs.StringTerminals.Elements.{back_scalars}

-- a lexeme that is a token, of characters that pass a test, and has no fault
pub record IsToken (p : ℕ → Bool) (fault : Kind → List ℕ → Option TokenError) (x : Lexeme) : Type 0 where
  pub before : List ℕ
  pub in_class : class_in before x.text ≡ Some x.«class»
  pub scalars : all_scalars x.text ≡ true
  pub characters : list_all p x.text ≡ true
  pub faultless : fault (kind_of x.«class» true) x.text ≡ None

pub data AllTokens (p : ℕ → Bool) (fault : Kind → List ℕ → Option TokenError) : List Lexeme → Type 0 where
  no_lexeme : AllTokens p fault []
  a_gap : {x : Lexeme} {xs : List Lexeme} → is_gap x.«class» ≡ true → AllTokens p fault xs → AllTokens p fault (x ∷ xs)
  a_token : {x : Lexeme} {xs : List Lexeme} → is_gap x.«class» ≡ false → IsToken p fault x → AllTokens p fault xs
      → AllTokens p fault (x ∷ xs)

pub record IsWholeField (p : ℕ → Bool) (fault : Kind → List ℕ → Option TokenError) (t : List ℕ) : Type 0 where
  pub whole : IsWhole t
  pub tokens : AreAll t (tokens_of (cut t))
  pub all : AllTokens p fault (cut t)

no_fault : {X : Type 0} (o : Option X) → is_some o ≡ false → o ≡ None
no_fault None n = refl
no_fault (Some x) n = absurd (cc)

-- one of some tokens has a fault
abbrev has_one : (Kind → List ℕ → Option TokenError) → List FieldToken → Bool
has_one fault ts = list_any (λ (x : FieldToken). is_some (fault x.kind x.text)) ts

module _ (p : ℕ → Bool) (fault : Kind → List ℕ → Option TokenError) where
  lexeme_tokens : (text : List ℕ) (xs : List Lexeme) (left : List ℕ) → AreLexemes text xs left → all_scalars text ≡ true
      → list_all p text ≡ true
      → (following : List FieldToken) → has_one fault (tokens_of xs ++ following) ≡ false
      → AllTokens p fault xs
  lexeme_tokens text [] left h s q following n = no_lexeme
  lexeme_tokens text (x ∷ xs) left (rest, at, parts, h) s q following n =
      by (is_gap x.«class») refl n (lexeme_tokens rest xs left h (back_scalars x.text rest w) v.1 following)
    where
      w : all_scalars (x.text ++ rest) ≡ true
      w = subst (λ z. all_scalars z ≡ true) parts s

      v : (list_all p x.text ≡ true) × (list_all p rest ≡ true)
      v = and_parts (list_all p x.text) (list_all p rest) (sym (list_all-append p x.text rest) ∙ subst (λ z. list_all p z ≡ true) parts q)

      by : (b : Bool) → is_gap x.«class» ≡ b
          → has_one fault (cond b (tokens_of xs) (field_token x.«class» x.text ∷ tokens_of xs) ++ following) ≡ false
          → (has_one fault (tokens_of xs ++ following) ≡ false → AllTokens p fault xs) → AllTokens p fault (x ∷ xs)
      by true e n more = a_gap e (more n)
      by false e n more =
          let f = or_parts (is_some (fault (kind_of x.«class» true) x.text)) (has_one fault (tokens_of xs ++ following)) n in
          a_token e
          (record {
            before = text;
            in_class = ((longest_wins text).longest x at).in_class;
            scalars = scalars_of x.text rest w;
            characters = v.0;
            faultless = no_fault (fault (kind_of x.«class» true) x.text) f.0;
          })
          (more f.1)

  pub whole_field : (t : List ℕ) → all_scalars t ≡ true → list_all p t ≡ true → is_faulty_by fault t ≡ false → IsWholeField p fault t
  unfolding is_faulty_by
  whole_field t s h n =
      let own : HasOwnTokens t = tokens_are_own t s in
      let f = or_parts (has_no_tokens t) _ n in
      let g = or_parts (has_fault t || closes_outer t) (has_comment t) f.0 in
      let k = or_parts (has_fault t) (closes_outer t) g.0 in
      let w : IsWhole t = own.whole k.0 k.1 g.1 in
      let a : AreAll t (tokens_of (cut t)) = own.all w in
      let b = or_parts (is_some (fault opening.kind opening.text)) _ (ap (has_one fault) (sym a) ∙ f.1) in
      record { whole = w; tokens = a; all = lexeme_tokens t (cut t) (left_by_cut t) (cut_lexed t) s h (closing ∷ []) b.1 }
