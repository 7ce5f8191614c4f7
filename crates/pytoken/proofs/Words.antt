-- Carries: come_back, Keyword::of. On: keywords by their characters and by their bytes, the names
-- that a tree may hold, and the characters of a repr.
use Rattle.std.proofs.Common.{◌≡◌, ℕ, ◌≤◌, Bool, true, false, List, [], ◌∷◌, ◌++◌, get_or, refl, ap, ap₂, sym, subst, ◌∙◌, inl, inr, arith}
use Rattle.std.proofs.Common.{Option}
use Rattle.std.proofs.Common.{Some, None, is_some}
use Rattle.std.specs.Prelude.{◌&&◌, ◌||◌, not, cond, nat_lt, nat_le, All}
use Rattle.std.specs.List.{find, flat_map, list_all}
use Rattle.std.specs.Str.{chars, bytes_eq, all_scalars, IsUtf8, IsAscii, encode_utf8_all}
use Rattle.std.specs.Char.{is_ascii, IsScalar, InScalarRange}
use Rattle.std.proofs.lemmas.Bool.{cases_Bool, and_from, and_parts, or_parts, both_ways, cases_lt, ltb-true, false_from_ne_true}
use Rattle.std.proofs.lemmas.Bool.Decides.{nat_tests}
use Rattle.std.proofs.lemmas.List.Recursion.{and_at}
use Rattle.std.proofs.lemmas.List.Folds.{list_all-append}
use Rattle.std.proofs.lemmas.Slice.Eq.{bytes_eq-Decides}
use Rattle.std.proofs.lemmas.Str.{chars-encodes, chars-IsAscii, encodes-chars, encodes-IsAscii}
use Rattle.std.proofs.lemmas.Str.Ascii.{IsAscii-nil, IsAscii-cons}
use Rattle.unicode_ident.proofs.Computing.{unicode_ident}
use Rattle.unicode_normalization.specs.Forms.{Nfkc, nfkc, is_in_form}
use Rattle.unicode_normalization.proofs.FormsLemmas.{normalize-ascii}
use Rattle.pysource.specs.Reprs.{escaped, quote_for, repr_chars, repr_text, is_unprintable}
use Rattle.pysource.proofs.Callers.Printing.{unprintable_no_character}
use Rattle.pylex_lexeme.specs.Lexemes.{is_name}
use Rattle.pylex_listing.specs.declared.kind.Kind.{Kind}
use Rattle.pylex_listing.specs.declared.kind.Kind.TheVariants as kinds
use Rattle.pytree_node.specs.Points.{IsPoint}
use Rattle.pytree_node.specs.declared.profiles.Extent.TheVariants.{Whole}
use Rattle.pytoken.specs.declared.keywords.Keyword.{Keyword}
use Rattle.pytoken.specs.declared.keywords.Keyword.TheVariants as words
use Rattle.pytoken.specs.declared.faults.TokenError.TheVariants.{NameForm}
use Rattle.pytoken.specs.Keywords.{keywords, keyword_of, spelling_of}
use Rattle.pytoken.specs.NameValues.{is_unfit, form_fault, name_fault}
use Rattle.pytoken.proofs.SingleLemmas.{of_single}
use Rattle.pytoken.specs.Terminals.{Terminal, Word, Ident, in_form, terminal_of, single_fault, is_of, Gives}
use Rattle.pytoken.specs.Laws.{IsProper, ComeBack, NamesAreProper}
use Rattle.pytoken.proofs.Constants.{Stands, quote_mark, text_stands, unicode_stands, bytes_stand}
use Rattle.pytoken.proofs.Lexing.{text_is_string, u_text_is_string, bytes_are_string}
use Rattle.pytoken.proofs.Numerals.Lexemes.{whole_numeral, float_numeral, imaginary_numeral}
use Rattle.pytoken.proofs.Numerals.Standing.{whole_stands, float_stands, imaginary_stands}
use Rattle.pytoken.proofs.ReadBack.{all_pass}

-- Keywords

word_found : (k : Keyword) → keyword_of (spelling_of k) ≡ Some k
unfolding keywords keyword_of
word_found words.False = refl
word_found words.None = refl
word_found words.True = refl
word_found words.And = refl
word_found words.As = refl
word_found words.Assert = refl
word_found words.Async = refl
word_found words.Await = refl
word_found words.Break = refl
word_found words.Class = refl
word_found words.Continue = refl
word_found words.Def = refl
word_found words.Del = refl
word_found words.Elif = refl
word_found words.Else = refl
word_found words.Except = refl
word_found words.Finally = refl
word_found words.For = refl
word_found words.From = refl
word_found words.Global = refl
word_found words.If = refl
word_found words.Import = refl
word_found words.In = refl
word_found words.Is = refl
word_found words.Lambda = refl
word_found words.Nonlocal = refl
word_found words.Not = refl
word_found words.Or = refl
word_found words.Pass = refl
word_found words.Raise = refl
word_found words.Return = refl
word_found words.Try = refl
word_found words.While = refl
word_found words.With = refl
word_found words.Yield = refl

word_ascii : (k : Keyword) → list_all is_ascii (spelling_of k) ≡ true
word_ascii words.False = refl
word_ascii words.None = refl
word_ascii words.True = refl
word_ascii words.And = refl
word_ascii words.As = refl
word_ascii words.Assert = refl
word_ascii words.Async = refl
word_ascii words.Await = refl
word_ascii words.Break = refl
word_ascii words.Class = refl
word_ascii words.Continue = refl
word_ascii words.Def = refl
word_ascii words.Del = refl
word_ascii words.Elif = refl
word_ascii words.Else = refl
word_ascii words.Except = refl
word_ascii words.Finally = refl
word_ascii words.For = refl
word_ascii words.From = refl
word_ascii words.Global = refl
word_ascii words.If = refl
word_ascii words.Import = refl
word_ascii words.In = refl
word_ascii words.Is = refl
word_ascii words.Lambda = refl
word_ascii words.Nonlocal = refl
word_ascii words.Not = refl
word_ascii words.Or = refl
word_ascii words.Pass = refl
word_ascii words.Raise = refl
word_ascii words.Return = refl
word_ascii words.Try = refl
word_ascii words.While = refl
word_ascii words.With = refl
word_ascii words.Yield = refl

word_named : (k : Keyword) → is_name (spelling_of k) ≡ true
unfolding unicode_ident is_name
word_named words.False = refl
word_named words.None = refl
word_named words.True = refl
word_named words.And = refl
word_named words.As = refl
word_named words.Assert = refl
word_named words.Async = refl
word_named words.Await = refl
word_named words.Break = refl
word_named words.Class = refl
word_named words.Continue = refl
word_named words.Def = refl
word_named words.Del = refl
word_named words.Elif = refl
word_named words.Else = refl
word_named words.Except = refl
word_named words.Finally = refl
word_named words.For = refl
word_named words.From = refl
word_named words.Global = refl
word_named words.If = refl
word_named words.Import = refl
word_named words.In = refl
word_named words.Is = refl
word_named words.Lambda = refl
word_named words.Nonlocal = refl
word_named words.Not = refl
word_named words.Or = refl
word_named words.Pass = refl
word_named words.Raise = refl
word_named words.Return = refl
word_named words.Try = refl
word_named words.While = refl
word_named words.With = refl
word_named words.Yield = refl

ascii_from : (t : List ℕ) → list_all is_ascii t ≡ true → IsAscii t
ascii_from [] all = IsAscii-nil
ascii_from (c ∷ t) all =
    let parts = and_parts (is_ascii c) (list_all is_ascii t) all in IsAscii-cons c t (ltb-true c 128 parts.0) (ascii_from t parts.1)

-- a text is an ASCII word by its characters where it is by its bytes
pub same_word : (bs word : List ℕ) → IsUtf8 bs → IsAscii word → bytes_eq (chars bs) word ≡ bytes_eq bs word
same_word bs word utf8 ascii = elim (cases_Bool (bytes_eq bs word)) [
  | inl same ↦
      let is = (bytes_eq-Decides bs word).0 same in
      (bytes_eq-Decides (chars bs) word).1 (ap chars is ∙ chars-IsAscii word ascii) ∙ sym same
  | inr other ↦
      false_from_ne_true (bytes_eq (chars bs) word) (λ same.
      let is = (bytes_eq-Decides (chars bs) word).0 same in
      let whole = sym (encodes-chars bs utf8) ∙ ap encode_utf8_all is ∙ encodes-IsAscii word ascii in
      both_ways (bytes_eq bs word) other ((bytes_eq-Decides bs word).1 whole)) ∙ sym other
]

same_find : (p q : Keyword → Bool) → ((k : Keyword) → p k ≡ q k) → (ks : List Keyword) → find p ks ≡ find q ks
same_find p q same [] = refl
same_find p q same (k ∷ ks) = ap₂ (λ (b : Bool) (o : Option Keyword). cond b (Some k) o) (same k) (same_find p q same ks)

-- a text is a keyword by its characters where it is by its bytes
pub keyword_chars : (bs : List ℕ) → IsUtf8 bs → keyword_of (chars bs) ≡ keyword_of bs
unfolding keyword_of
keyword_chars bs utf8 =
    same_find (λ k. bytes_eq (chars bs) (spelling_of k)) (λ k. bytes_eq bs (spelling_of k))
    (λ k. same_word bs (spelling_of k) utf8 (ascii_from (spelling_of k) (word_ascii k))) keywords

word_is : (k : Keyword) → terminal_of kinds.Name (spelling_of k) ≡ Word k
unfolding terminal_of
word_is k = let found = word_found k in rw (found, terminal_of) refl

word_form : (k : Keyword) → nfkc (spelling_of k) ≡ spelling_of k
word_form k =
    normalize-ascii Nfkc (spelling_of k)
    (λ i d within. ltb-true (get_or (spelling_of k) i d) 128 (and_at (list_all is_ascii) is_ascii refl (λ x xs. refl)
    (spelling_of k) i d within
    (word_ascii k)))

-- Names

own_form : (t : List ℕ) → nfkc t ≡ t → is_in_form Nfkc t ≡ true
own_form t form = (bytes_eq-Decides (nfkc t) t).1 form

name_sound : (t : List ℕ) → nfkc t ≡ t → single_fault Whole kinds.Name t ≡ None
unfolding single_fault name_fault
name_sound t form = let same = own_form t form in rw same refl

name_is : (t : List ℕ) → nfkc t ≡ t → keyword_of t ≡ None → terminal_of kinds.Name t ≡ in_form t
unfolding terminal_of
name_is t form free = rw (free, terminal_of) (ap (λ z. Ident (record { spelling = t; form = z })) form)

-- a form that may stand for another text
fit_form : (form : List ℕ) → form_fault form ≡ None → IsProper form
unfolding form_fault
fit_form form sound = elim (cases_Bool (is_unfit form)) [
  | inl unfit ↦ absurd (let some : Some NameForm ≡ None = rw unfit at sound in cc)
  | inr fit ↦
      let parts = or_parts (is_some (keyword_of form) || not (is_name form)) (not (is_in_form Nfkc form)) fit in
      let first = or_parts (is_some (keyword_of form)) (not (is_name form)) parts.0 in
      record {
        name = not_false (is_name form) first.1;
        free = none_from (keyword_of form) first.0;
        form = (bytes_eq-Decides (nfkc form) form).0 (not_false (is_in_form Nfkc form) parts.1);
      }
]
  where
    not_false : (b : Bool) → not b ≡ false → b ≡ true
    not_false true e = refl
    not_false false e = cc

    none_from : (o : Option Keyword) → is_some o ≡ false → o ≡ None
    none_from None e = refl
    none_from (Some k) e = cc

pub by_form : (t : List ℕ) → is_in_form Nfkc t ≡ false → name_fault t ≡ form_fault (nfkc t)
unfolding name_fault
by_form t other = rw other refl

-- what a faultless name stands for is a name that a tree may hold
pub names_are_proper : NamesAreProper
names_are_proper t name free sound = elim (cases_Bool (is_in_form Nfkc t)) [
  | inl own ↦ let is = (bytes_eq-Decides (nfkc t) t).0 own in subst IsProper (sym is) (record { name = name; free = free; form = is })
  | inr other ↦ fit_form (nfkc t) (sym (by_form t other) ∙ sound)
]

-- The characters of a repr

scalar_in : (c : ℕ) → InScalarRange c → IsScalar c
scalar_in c (inl low) = grind (arith, nat_tests)
scalar_in c (inr within) = grind (arith, nat_tests, within.0, within.1)

-- a point that is shown as it is, is a character
shown_scalar : (c : ℕ) → c ≤ 0x10_FFFF → is_unprintable c ≡ false → IsScalar c
shown_scalar c most shown = elim (cases_lt c 0xD800) [
  | inl low ↦ scalar_in c (inl low)
  | inr above ↦ elim (cases_lt c 0xE000) [
    | inl surrogate ↦ absurd (both_ways (is_unprintable c) shown (unprintable_no_character c (inl (above, omega arith))))
    | inr high ↦ scalar_in c (inr (high, most))
  ]
]

scalars_from : (cs : List ℕ) → list_all (λ c. cond (nat_lt c 55296) true (nat_le 57344 c && nat_lt c 1114112)) cs ≡
    true → all_scalars cs ≡ true
scalars_from [] h = refl
scalars_from (c ∷ cs) h =
    let p : ℕ → Bool = λ x. cond (nat_lt x 55296) true (nat_le 57344 x && nat_lt x 1114112) in
    let parts = and_parts (p c) (list_all p cs) h in and_from (p c) (all_scalars cs) parts.0 (scalars_from cs parts.1)

repr_scalars : (points : List ℕ) → All IsPoint points → all_scalars (repr_chars points) ≡ true
repr_scalars points most =
    let p : ℕ → Bool = λ x. cond (nat_lt x 55296) true (nat_le 57344 x && nat_lt x 1114112) in
    let q = quote_for points in
    let mark = quote_mark points in
    let own : p q ≡ true = elim mark [
      | inl single ↦ scalar_in q (inl (omega (arith, single)))
      | inr double ↦ scalar_in q (inl (omega (arith, double)))
    ] in
    let body = flat_map (escaped is_unprintable q) points in
    let inner = all_pass is_unprintable p q points mark (λ a low high. scalar_in a (inl (omega (arith, high))))
    (λ k d within differs seen. shown_scalar (get_or points k d) (most k d within) seen) in
    scalars_from (repr_chars points) (and_from (p q) (list_all p (body ++ q ∷ [])) own
    (list_all-append p body (q ∷ []) ∙ and_from (list_all p body) (list_all p (q ∷ [])) inner (and_from (p q) true own refl)))

characters_back : (points : List ℕ) → All IsPoint points → chars (repr_text points) ≡ repr_chars points
characters_back points most = chars-encodes (repr_chars points) (repr_scalars points most)

-- All of it

gives : (k : Kind) (t : List ℕ) (x : Terminal) → Stands k t x → is_of k t ≡ true → Gives k t x
gives k t x stands own =
    record {
      single = stands.single;
      terminal = stands.terminal;
      sound =
          record { of_kind = own; faultless = of_single Whole k t stands.single ∙ stands.faultless };
    }

-- all that the text of a tree writes for names and constants comes back
pub come_back : ComeBack
come_back = record {
  whole = λ n small. gives kinds.Number _ _ (whole_stands n small) (whole_numeral n).number;
  float = λ x double. gives kinds.Number _ _ (float_stands x double) (float_numeral x double).number;
  imaginary = λ x double. gives kinds.Number _ _ (imaginary_stands x double) (imaginary_numeral x double).number;
  text = λ points most. gives kinds.String _ _ (text_stands points most) (text_is_string points);
  unicode = λ points most. gives kinds.String _ _ (unicode_stands points most) (u_text_is_string points);
  bytes = λ bs small. gives kinds.String _ _ (bytes_stand bs small) (bytes_are_string bs);
  name = λ t own. gives kinds.Name _ _ (record { terminal = name_is t own.form own.free; single = refl; faultless = name_sound t own.form })
      own.name;
  keyword = λ k. gives kinds.Name _ _ (record { terminal = word_is k; single = refl; faultless = name_sound (spelling_of k) (word_form k) })
      (word_named k);
  characters = characters_back;
}
