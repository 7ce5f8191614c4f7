-- On: the tokens and the refusals of a listing with one entry more.
--
-- Carries: what pygrammar, pyparse_tokens cite.
use Rattle.std.proofs.Common.{◌≡◌, ℕ, List, [], ◌∷◌, ◌++◌, refl, sym, ap, ◌∙◌, append_assoc, append-nil, Option, Some, None}
use Rattle.std.specs.Prelude.{if◌then◌else◌}
use Rattle.pylex_listing.specs.declared.entries.Entry.{Entry}
use Rattle.pytree_node.specs.declared.profiles.Extent.{Extent}
use Rattle.pytoken.specs.declared.refusals.Refusal.{Refusal}
use Rattle.pytoken.specs.Indentation.{Margin, margin_at, ends_line, margins_from}
use Rattle.pytoken.specs.Inner.Following.{following}
use Rattle.pytoken.specs.Tokens.{Token, is_open, tokens_of_entry, tokens_from}
use Rattle.pytoken.specs.Refusals.{entry_refusal, first_entry_refusal, bracket_refusal, first_too_deep, margin_refusal, first_mixed}
use Rattle.std.specs.Option.{option_or}

pub after_on : {X : Type 0} (before xs : List X) (x : X) → following before (xs ++ x ∷ []) ≡ x ∷ following before xs
after_on before [] x = refl
after_on before (y ∷ xs) x = after_on (y ∷ before) xs x

pub tokens_on : (text : List ℕ) (before es : List Entry) (e : Entry)
    → tokens_from text before (es ++ e ∷ []) ≡ tokens_from text before es ++ tokens_of_entry text (is_open (following before es)) e
tokens_on text before [] e = append-nil (tokens_of_entry text (is_open before) e)
tokens_on text before (x ∷ es) e =
    let here = tokens_of_entry text (is_open before) x in
    ap (λ (ts : List Token). here ++ ts) (tokens_on text (x ∷ before) es e)
    ∙ sym (append_assoc here (tokens_from text (x ∷ before) es) (tokens_of_entry text (is_open (following (x ∷ before) es)) e))

or_assoc : (a b c : Option Refusal) → option_or (option_or a b) c ≡ option_or a (option_or b c)
or_assoc (Some r) b c = refl
or_assoc None b c = refl

or_none : (a : Option Refusal) → option_or a None ≡ a
or_none (Some r) = refl
or_none None = refl

pub refusal_on : (extent : Extent) (text : List ℕ) (es : List Entry) (e : Entry)
    → first_entry_refusal extent text (es ++ e ∷ []) ≡ option_or (first_entry_refusal extent text es) (entry_refusal extent text e)
refusal_on extent text [] e = or_none (entry_refusal extent text e)
refusal_on extent text (x ∷ es) e =
    ap (option_or (entry_refusal extent text x)) (refusal_on extent text es e)
    ∙ sym (or_assoc (entry_refusal extent text x) (first_entry_refusal extent text es) (entry_refusal extent text e))

pub too_deep_on : (most : ℕ) (before es : List Entry) (e : Entry)
    → first_too_deep most before (es ++ e ∷ []) ≡ option_or (first_too_deep most before es) (bracket_refusal most (following before es) e)
too_deep_on most before [] e = or_none (bracket_refusal most before e)
too_deep_on most before (x ∷ es) e =
    ap (option_or (bracket_refusal most before x)) (too_deep_on most (x ∷ before) es e)
    ∙ sym (or_assoc (bracket_refusal most before x) (first_too_deep most (x ∷ before) es) (bracket_refusal most (following (x ∷ before) es) e))

-- the margins that an entry gives
abbrev pub margins_of_entry : List ℕ → List Entry → Entry → List Margin
margins_of_entry text before e = if ends_line before e then margin_at text e.to else []

pub margins_on : (text : List ℕ) (before es : List Entry) (e : Entry)
    → margins_from text before (es ++ e ∷ []) ≡ margins_from text before es ++ margins_of_entry text (following before es) e
margins_on text before [] e = append-nil (margins_of_entry text before e)
margins_on text before (x ∷ es) e =
    let here = margins_of_entry text before x in
    ap (λ (ms : List Margin). here ++ ms) (margins_on text (x ∷ before) es e)
    ∙ sym (append_assoc here (margins_from text (x ∷ before) es) (margins_of_entry text (following (x ∷ before) es) e))

-- the first mixed line among some and then others
pub mixed_on : (earlier ms more : List Margin) → first_mixed earlier (ms ++ more)
    ≡ option_or (first_mixed earlier ms) (first_mixed (following earlier ms) more)
mixed_on earlier [] more = refl
mixed_on earlier (m ∷ ms) more =
    ap (option_or (margin_refusal earlier m)) (mixed_on (m ∷ earlier) ms more)
    ∙ sym (or_assoc (margin_refusal earlier m) (first_mixed (m ∷ earlier) ms) (first_mixed (following (m ∷ earlier) ms) more))
