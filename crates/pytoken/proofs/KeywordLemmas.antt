-- Carries: may_be_keyword. On: the length and the first letter of a keyword.
use Rattle.std.proofs.Common.{◌≡◌, ℕ, Bool, true, false, List, [], ◌∷◌, length, get_or, refl, sym, ap, ◌∙◌, Some, None, slice_get}
use Rattle.std.specs.List.{find}
use Rattle.std.specs.Str.{bytes_eq}
use Rattle.std.proofs.lemmas.Bool.{both_ways, false_from_ne_true}
use Rattle.std.proofs.lemmas.Slice.Eq.{bytes_eq-Decides}
use Rattle.pytoken.specs.declared.keywords.Keyword.{Keyword}
use Rattle.pytoken.specs.declared.keywords.Keyword.TheVariants as words
use Rattle.pytoken.specs.Keywords.{keywords, keyword_of, spelling_of}
use Rattle.pytoken.specs.Inner.Readings.{leads}

abbrev is_led : List ℕ → Bool
is_led t = leads (length t) (get_or t 0 0)

word_led : (k : Keyword) → is_led (spelling_of k) ≡ true
word_led words.False = refl
word_led words.None = refl
word_led words.True = refl
word_led words.And = refl
word_led words.As = refl
word_led words.Assert = refl
word_led words.Async = refl
word_led words.Await = refl
word_led words.Break = refl
word_led words.Class = refl
word_led words.Continue = refl
word_led words.Def = refl
word_led words.Del = refl
word_led words.Elif = refl
word_led words.Else = refl
word_led words.Except = refl
word_led words.Finally = refl
word_led words.For = refl
word_led words.From = refl
word_led words.Global = refl
word_led words.If = refl
word_led words.Import = refl
word_led words.In = refl
word_led words.Is = refl
word_led words.Lambda = refl
word_led words.Nonlocal = refl
word_led words.Not = refl
word_led words.Or = refl
word_led words.Pass = refl
word_led words.Raise = refl
word_led words.Return = refl
word_led words.Try = refl
word_led words.While = refl
word_led words.With = refl
word_led words.Yield = refl

none_found : (p : Keyword → Bool) (ks : List Keyword) → ((k : Keyword) → p k ≡ false) → find p ks ≡ None
none_found p [] fails = refl
none_found p (k ∷ ks) fails = let here = fails k in rw here (none_found p ks fails)

not_led : (t : List ℕ) → is_led t ≡ false → keyword_of t ≡ None
unfolding keyword_of
not_led t out =
    none_found (λ k. bytes_eq t (spelling_of k)) keywords (λ k.
    false_from_ne_true (bytes_eq t (spelling_of k)) (λ same.
    both_ways (is_led t) out (ap is_led ((bytes_eq-Decides t (spelling_of k)).0 same) ∙ word_led k)))

-- a text with a first byte by which it is no keyword
pub unled : (t : List ℕ) (c : ℕ) → slice_get t 0 ≡ Some c → leads (length t) c ≡ false → keyword_of t ≡ None
unled [] c e out = absurd (cc)
unled (x ∷ t) c e out = let is : c ≡ x = cc in not_led (x ∷ t) (ap (leads (length (x ∷ t))) (sym is) ∙ out)

-- a text without one
pub empty_unled : (t : List ℕ) → slice_get t 0 ≡ None → keyword_of t ≡ None
empty_unled [] e = not_led [] refl
empty_unled (x ∷ t) e = absurd (cc)
