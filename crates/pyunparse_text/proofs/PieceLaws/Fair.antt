-- Carries: the laws of pieces. On: the text of a terminal is a token of its
-- type, gives the terminal, and has no fault.
use Rattle.std.proofs.Common.{◌≡◌, ℕ, ◌<◌, ◌≤◌, ◌^◌, Bool, true, false, List, [], ◌∷◌, refl, arith, leb, Option, Some, None, ap, ◌∙◌}
use Rattle.std.proofs.Common.{if◌then◌else◌}
use Rattle.std.specs.Prelude.{All, is_some}
use Rattle.std.specs.Float.Ieee.{Float}
use Rattle.std.specs.List.{list_all}
use Rattle.std.specs.Str.{all_scalars, encode_utf8_all}
use Rattle.std.proofs.Math.Nat.{pow-le-pow_right}
use Rattle.std.proofs.lemmas.Bool.{le-leb, lt-leb}
use Rattle.std.proofs.lemmas.List.Elements.{All-head, All-tail}
use Rattle.pynumber.specs.Readings.{most_digits}
use Rattle.pynumber.specs.FloatValues.{float_value}
use Rattle.pynumber.specs.Laws.{IsDouble}
use Rattle.pylex_lexeme.specs.declared.kinds.Exact.{Exact}
use Rattle.pylex_lexeme.specs.declared.kinds.Exact.TheVariants.{LPar, RPar, LSqb, RSqb, LBrace, RBrace, Ellipsis}
use Rattle.pylex_lexeme.specs.Operators.{exact_text, is_operator, is_opener, is_closer}
use Rattle.pylex_lexeme.proofs.Callers.Lexemes.{exact_of_text, exact_scalars}
use Rattle.pylex_listing.specs.declared.kind.Kind.{Kind}
use Rattle.pylex_listing.specs.declared.kind.Kind.TheVariants as kinds
use Rattle.pysource.specs.Reprs.{repr_chars, repr_bytes}
use Rattle.pytree_node.specs.Points.{IsPoint}
use Rattle.pytree_node.specs.Values
use Rattle.pytree_node.specs.declared.profiles.Extent.{Extent}
use Rattle.pytree_node.specs.declared.profiles.Extent.TheVariants.{Plain, Whole}
use Rattle.pytoken.specs.declared.faults.TokenError.TheVariants as errors
use Rattle.pytoken.specs.declared.keywords.Keyword.{Keyword}
use Rattle.pytoken.specs.declared.keywords.Keyword.TheVariants as Key
use Rattle.pytoken.specs.Keywords.{spelling_of}
use Rattle.pytoken.specs.NumberValues.{whole_value, is_complex, is_real, number_value, number_fault, too_large}
use Rattle.pytoken.specs.Terminals.{Terminal, Op, Word, in_form, Number, Literal, Layout, Gives, terminal_of, single_fault, fault_of}
use Rattle.pytoken.specs.Terminals.{fault_by}
use Rattle.pytoken.specs.Laws.{IsProper}
use Rattle.pytoken.proofs.Callers.Numerals.{IsNumeral, float_numeral, imaginary_numeral, whole_numeral}
use Rattle.pytoken.proofs.Callers.Said.{come_back}
use Rattle.pyunparse_text.specs.Spacing.{is_token}
use Rattle.pyunparse_text.specs.Tokens.{opens, closes}
use Rattle.pyunparse_text.proofs.Callers.Tokens.{text_token, marked_token, bytes_token, text_scalars, bytes_scalars}
use Rattle.pyunparse_text.specs.Written.{constant_terminal}
use Rattle.pyunparse_text.specs.Pieces.{number_text, field_literal_text, kind_of, text_of, sited}
use Rattle.pyunparse_text.proofs.FieldTexts.FieldLiterals.{is_field_character, is_field_byte, IsFieldLiteral, text_in_field, bytes_in_field}
use Rattle.pyunparse_text.proofs.PieceLaws.Places.{Depth, outside, in_field, in_two, Place, open_place, is_inside, may_stand, GivesAt}
use Rattle.pyunparse_text.proofs.PieceLaws.Places.{one_terminal}
use Rattle.pyunparse_text.proofs.PieceLaws.Places.{single_fault_of}
use Rattle.pyunparse_text.proofs.PieceLaws.NameCharacters.{name_scalars}

-- A token of this type and text: one of Unicode characters, which gives a terminal, and has no fault in an extent of the language either.
pub record IsFair (place : Place) (k : Kind) (text : List ℕ) (t : Terminal) : Type 0 where
  pub token : is_token k text ≡ true
  pub scalars : all_scalars text ≡ true
  pub gives : GivesAt place k text (t ∷ [])
  pub stands : may_stand place.depth k text ≡ true

-- what is written for a terminal gives it again
abbrev pub Fair : Place → Terminal → Type 0
Fair place t = IsFair place (kind_of t) (text_of t (is_inside place.depth)) t

-- ---- Signs, words and names.

sign_stands : (d : Depth) (t : List ℕ) → may_stand d kinds.Op t ≡ true
sign_stands outside t = refl
sign_stands in_field t = refl
sign_stands in_two t = refl

name_stands : (d : Depth) (t : List ℕ) → may_stand d kinds.Name t ≡ true
name_stands outside t = refl
name_stands in_field t = refl
name_stands in_two t = refl

number_stands : (d : Depth) (t : List ℕ) → may_stand d kinds.Number t ≡ true
number_stands outside t = refl
number_stands in_field t = refl
number_stands in_two t = refl

abbrev as_terminal : Option Exact → Terminal
as_terminal o = elim o [ Some e ↦ Op e | None ↦ Layout ]

sign_faultless : (extent : Extent) (t : List ℕ) → fault_of extent kinds.Op t ≡ None
unfolding fault_of fault_by single_fault
sign_faultless Plain t = refl
sign_faultless Whole t = refl

pub fair_sign : {place : Place} (x : Exact) → Fair place (Op x)
unfolding terminal_of is_operator
fair_sign {place} x =
    let name = exact_of_text x in
    let is : is_operator (exact_text x) ≡ true = ap (λ (o : Option Exact). is_some o) name in
    let g : Gives kinds.Op (exact_text x) (Op x) =
    record {
      single = refl;
      terminal = ap as_terminal name;
      sound =
          record { of_kind = is; faultless = sign_faultless Whole (exact_text x) };
    } in
    record {
      token = is;
      scalars = exact_scalars x;
      gives = one_terminal place kinds.Op (exact_text x) (Op x) g (λ s. refl) (sign_faultless place.extent (exact_text x));
      stands = sign_stands place.depth (exact_text x);
    }

-- the brackets
abbrev pub is_bracket : Exact → Bool
is_bracket LPar = true
is_bracket RPar = true
is_bracket LSqb = true
is_bracket RSqb = true
is_bracket LBrace = true
is_bracket RBrace = true
is_bracket x = false

pub opens_none : (x : Exact) (b h is_in_field : Bool) → is_bracket x ≡ false → opens (sited (Op x) b h is_in_field) ≡ false
opens_none x b h is_in_field e = ap (λ (o : Option Exact). elim o [ Some e ↦ is_opener e | None ↦ false ]) (exact_of_text x) ∙ none x e
  where
    none : (x : Exact) → is_bracket x ≡ false → is_opener x ≡ false
    none LPar e = absurd (cc)
    none LSqb e = absurd (cc)
    none LBrace e = absurd (cc)
    none _ e = refl

pub closes_none : (x : Exact) (b h is_in_field : Bool) → is_bracket x ≡ false → closes (sited (Op x) b h is_in_field) ≡ false
closes_none x b h is_in_field e = ap (λ (o : Option Exact). elim o [ Some e ↦ is_closer e | None ↦ false ]) (exact_of_text x) ∙ none x e
  where
    none : (x : Exact) → is_bracket x ≡ false → is_closer x ≡ false
    none RPar e = absurd (cc)
    none RSqb e = absurd (cc)
    none RBrace e = absurd (cc)
    none _ e = refl

name_faultless : (extent : Extent) (t : List ℕ) → fault_of Whole kinds.Name t ≡ None → fault_of extent kinds.Name t ≡ None
unfolding fault_of fault_by single_fault
name_faultless Plain t h = h
name_faultless Whole t h = h

pub fair_word : {place : Place} (k : Keyword) → Fair place (Word k)
fair_word {place} k =
    let g = come_back.keyword k in
    record {
      token = g.sound.of_kind;
      scalars = name_scalars (spelling_of k) g.sound.of_kind;
      gives = one_terminal place kinds.Name (spelling_of k) (Word k) g (λ s. refl)
          (name_faultless place.extent (spelling_of k) g.sound.faultless);
      stands = name_stands place.depth (spelling_of k);
    }

pub fair_name : {place : Place} (x : List ℕ) → IsProper x → Fair place (in_form x)
fair_name {place} x i =
    let g = come_back.name x i in
    record {
      token = i.name;
      scalars = name_scalars x i.name;
      gives = one_terminal place kinds.Name x (in_form x) g (λ s. refl) (name_faultless place.extent x g.sound.faultless);
      stands = name_stands place.depth x;
    }

-- ---- Points.

points_pass : (points : List ℕ) → All IsPoint points → list_all (λ c. leb c 1114111) points ≡ true
points_pass [] h = refl
points_pass (c ∷ cs) h = let f : leb c 1114111 ≡ true = le-leb c 1114111 (All-head IsPoint c cs h) in let r =
    points_pass cs (All-tail IsPoint c cs h) in rw (f, r) refl

-- ---- Numbers.

-- the whole numbers and the doubles that an extent of the language has
abbrev pub HasWhole : Extent → ℕ → Type 0
HasWhole Plain n = n < 2 ^ 128
HasWhole Whole n = n < 10 ^ most_digits

abbrev pub HasDouble : Extent → Float → Type 0
HasDouble Plain x = ⊥
HasDouble Whole x = IsDouble x

many_digits : 39 ≤ most_digits
unfolding most_digits
many_digits = omega arith

in_whole : (extent : Extent) (n : ℕ) → HasWhole extent n → n < 10 ^ most_digits
in_whole Plain n h = let more : 10 ^ 39 ≤ 10 ^ most_digits = pow-le-pow_right (omega arith) many_digits in omega (arith, h, more)
in_whole Whole n h = h

-- a small whole number has no fault in the plain language either
small_faultless : (t : List ℕ) (n : ℕ) → number_value t ≡ Values.Int n → n < 2 ^ 128 → number_fault Plain t ≡ None
unfolding number_value number_fault
small_faultless t n e h = by (is_complex t) (is_real t) e
  where
    by : (a b : Bool)
        → (if a then Values.Imaginary (float_value t) else (if b then Values.Float (float_value t) else Values.Int (whole_value t))) ≡
        Values.Int n
        → (if a then Some errors.Complex else (if b then Some errors.Float else too_large (2 ^ 128) t)) ≡ None
    by true b e = absurd (cc)
    by false true e = absurd (cc)
    by false false e = let w : whole_value t ≡ n = cc in let f = lt-leb (2 ^ 128) (whole_value t) (omega (arith, w, h)) in rw f refl

whole_faultless : (extent : Extent) (t : List ℕ) (n : ℕ) → HasWhole extent n → Gives kinds.Number t (Number (Values.Int n))
    → fault_of extent kinds.Number t ≡ None
unfolding terminal_of fault_of single_fault
whole_faultless Plain t n h g =
    let e = g.terminal in
    let v : number_value (encode_utf8_all t) ≡ Values.Int n = cc in
    small_faultless (encode_utf8_all t) n v h
whole_faultless Whole t n h g = g.sound.faultless

fair_number : {place : Place} (v : Values.Value) → IsNumeral (number_text v) → Gives kinds.Number (number_text v) (Number v)
    → fault_of place.extent kinds.Number (number_text v) ≡ None → Fair place (Number v)
fair_number {place} v i g f =
    let first = i.first in
    let number = i.number in
    record {
      token = rw (first, number) refl;
      scalars = i.scalars;
      gives = one_terminal place kinds.Number (number_text v) (Number v) g
          (λ s. refl) f;
      stands = number_stands place.depth (number_text v);
    }

fair_whole : (place : Place) (n : ℕ) → HasWhole place.extent n → Fair place (Number (Values.Int n))
fair_whole place n h =
    let g = come_back.whole n (in_whole place.extent n h) in
    fair_number (Values.Int n) (whole_numeral n) g (whole_faultless place.extent (number_text (Values.Int n)) n h g)

double_faultless : (extent : Extent) (x : Float) (t : List ℕ) → HasDouble extent x → fault_of Whole kinds.Number t ≡ None
    → fault_of extent kinds.Number t ≡ None
double_faultless Plain x t h f = absurd h
double_faultless Whole x t h f = f

double_is : (extent : Extent) (x : Float) → HasDouble extent x → IsDouble x
double_is Plain x h = absurd h
double_is Whole x h = h

fair_float : (place : Place) (x : Float) → HasDouble place.extent x → Fair place (Number (Values.Float x))
fair_float place x h =
    let d = double_is place.extent x h in
    let g = come_back.float x d in
    fair_number (Values.Float x) (float_numeral x d) g (double_faultless place.extent x (number_text (Values.Float x)) h g.sound.faultless)

fair_imaginary : (place : Place) (x : Float) → HasDouble place.extent x → Fair place (Number (Values.Imaginary x))
fair_imaginary place x h =
    let d = double_is place.extent x h in
    let g = come_back.imaginary x d in
    fair_number (Values.Imaginary x) (imaginary_numeral x d) g
    (double_faultless place.extent x (number_text (Values.Imaginary x)) h g.sound.faultless)

-- ---- Literals.

-- the texts, and the bytes, that a literal may have: in one field characters that stand for themselves, in two none
abbrev pub HasText : Depth → List ℕ → Type 0
HasText outside points = All IsPoint points
HasText in_field points = list_all is_field_character points ≡ true
HasText in_two points = ⊥

abbrev pub HasBytes : Depth → List ℕ → Type 0
HasBytes outside bytes = All (λ b. b < 0x100) bytes
HasBytes in_field bytes = list_all is_field_byte bytes ≡ true
HasBytes in_two bytes = ⊥

plain_faultless : (t : List ℕ) (x : Terminal) → Gives kinds.String t x → single_fault Plain kinds.String t ≡ None
unfolding single_fault
plain_faultless t x g = single_fault_of kinds.String t g.single g.sound.faultless

string_faultless : (extent : Extent) (t : List ℕ) (x : Terminal) → Gives kinds.String t x → fault_of extent kinds.String t ≡ None
unfolding fault_of
string_faultless Plain t x g = plain_faultless t x g
string_faultless Whole t x g = g.sound.faultless

outside_literal : (extent : Extent) (v : Values.Value) (t : List ℕ) → is_token kinds.String t ≡ true → all_scalars t ≡ true
    → Gives kinds.String t (Literal v) → IsFair (open_place extent) kinds.String t (Literal v)
outside_literal extent v t n s g = record {
  token = n;
  scalars = s;
  gives = one_terminal (open_place extent) kinds.String t (Literal v) g (λ (i : false ≡ true). absurd (cc))
      (string_faultless extent t (Literal v) g);
  stands = refl;
}

field_literal : (extent : Extent) (v : Values.Value) (t : List ℕ) → IsFieldLiteral t v
    → IsFair (record { extent = extent; depth = in_field }) kinds.String t (Literal v)
field_literal extent v t b =
    record { token = b.token; scalars = b.scalars; gives = record { terminals = b.terminals; faultless = b.faultless }; stands = b.plain }

-- ---- Constants.

-- the constants of literals
abbrev pub IsConstant : Place → Values.Value → Type 0
IsConstant place (Values.Int n) = HasWhole place.extent n
IsConstant place (Values.Float x) = HasDouble place.extent x
IsConstant place (Values.Imaginary x) = HasDouble place.extent x
IsConstant place (Values.Str points unicode) = HasText place.depth points
IsConstant place (Values.Bytes bytes) = HasBytes place.depth bytes
IsConstant place _ = Unit {0}

fair_text : (extent : Extent) (d : Depth) (points : List ℕ) (u : Bool) → HasText d points
    → Fair (record { extent = extent; depth = d }) (Literal (Values.Str points u))
fair_text extent outside points false h =
    outside_literal extent (Values.Str points false) (repr_chars points) (text_token points) (text_scalars points (points_pass points h))
    (come_back.text points h)
fair_text extent outside points true h =
    outside_literal extent (Values.Str points true) (117 ∷ repr_chars points) (marked_token points)
    (let f = text_scalars points (points_pass points h) in rw f refl) (come_back.unicode points h)
fair_text extent in_field points u h =
    field_literal extent (Values.Str points u) (field_literal_text (Values.Str points u)) (text_in_field points u h)
fair_text extent in_two points u h = absurd h

fair_bytes : (extent : Extent) (d : Depth) (bytes : List ℕ) → HasBytes d bytes
    → Fair (record { extent = extent; depth = d }) (Literal (Values.Bytes bytes))
fair_bytes extent outside bytes h =
    outside_literal extent (Values.Bytes bytes) (repr_bytes bytes) (bytes_token bytes) (bytes_scalars bytes) (come_back.bytes bytes h)
fair_bytes extent in_field bytes h = field_literal extent (Values.Bytes bytes) (field_literal_text (Values.Bytes bytes))
    (bytes_in_field bytes h)
fair_bytes extent in_two bytes h = absurd h

pub fair_constant : {place : Place} (v : Values.Value) → IsConstant place v → Fair place (constant_terminal v)
fair_constant {place} (Values.Int n) h = fair_whole place n h
fair_constant {place} (Values.Float x) h = fair_float place x h
fair_constant {place} (Values.Imaginary x) h = fair_imaginary place x h
fair_constant (Values.Bool true) h = fair_word Key.True
fair_constant (Values.Bool false) h = fair_word Key.False
fair_constant Values.None h = fair_word Key.None
fair_constant Values.Ellipsis h = fair_sign Ellipsis
fair_constant {place} (Values.Str points u) h = fair_text place.extent place.depth points u h
fair_constant {place} (Values.Bytes bytes) h = fair_bytes place.extent place.depth bytes h
