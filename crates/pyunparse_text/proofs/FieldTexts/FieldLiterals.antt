-- A literal as it is written in a field of an f-string: its characters stand for themselves, in double quotes (reference 2.4.1 and 2.4.3).
--
-- Carries: IsFieldLiteral, text_in_field, bytes_in_field, for what reads f-strings back. On: FormattedBodies, FormattedTokens.
use Rattle.std.proofs.Common.{◌≡◌, ℕ, ◌<◌, Bool, true, false, not, ◌&&◌, ◌||◌, ◌==◌, List, [], ◌∷◌, ◌++◌, drop, map, None, refl, sym, ◌∙◌}
use Rattle.std.proofs.Common.{ap, ap₂}
use Rattle.std.proofs.Common.{subst, arith, if◌then◌else◌}
use Rattle.std.specs.Prelude.{nat_lt}
use Rattle.std.specs.List.{list_all, list_any, flat_map}
use Rattle.std.specs.Str.{all_scalars}
use Rattle.std.proofs.Math.Utf8.{low_scalar}
use Rattle.std.proofs.lemmas.Bool.{and_from, ltb-true, not-true, and_parts}
use Rattle.std.proofs.lemmas.Bool.Decides.{nat_tests}
use Rattle.std.proofs.lemmas.List.Folds.{list_all-append}
use Rattle.std.proofs.Math.Bool.{or-true}
use Rattle.pyfstring.specs.Expressions.{is_quote}
use Rattle.pylex_listing.specs.declared.kind.Kind.TheVariants as kinds
use Rattle.pylex_lexeme.specs.Chars.{is_comment_part}
use Rattle.pylex_lexeme.specs.Strings.{is_single, is_single_string, is_prefix, is_string}
use Rattle.pytree_node.specs.Values.{Value, Str, Bytes}
use Rattle.pytoken.specs.declared.meanings.Meaning.{Meaning}
use Rattle.pytoken.specs.declared.meanings.Meaning.TheVariants.{Point}
use Rattle.pytoken.specs.Escapes.{meanings_after, meanings, points_in, escape_fault}
use Rattle.pytoken.specs.StringValues.{with_line_feeds, is_raw, is_bytes, is_formatted, is_unicode, prefix_len_of, inside, body_of}
use Rattle.pytoken.specs.StringValues.{points_of}
use Rattle.pytoken.specs.StringValues.{value_of, string_value, nul_fault, literal_fault, string_fault}
use Rattle.pytoken.specs.FormattedStrings.{is_fstring, is_bulky}
use Rattle.pytoken.specs.Terminals.{Literal, Gives, terminal_of, single_fault, fault_by, fault_of, field_fault, terminals_by}
use Rattle.pytoken.specs.Terminals.{nested_expression}
use Rattle.pyunparse_text.specs.Spacing.{is_token}
use Rattle.pyunparse_text.specs.Pieces.{prefix, in_double_quotes, field_character, field_literal_text}
use Rattle.pyunparse_text.proofs.Sources.Bytes.{scalars_both}
use Rattle.pyunparse_text.proofs.FieldTexts.Conditions.{is_own, is_plain_literal}
use Rattle.pyunparse_text.proofs.FieldTexts.Enclosures.{literal_plain}
use Rattle.pyunparse_text.proofs.FieldTexts.TextCharacters.{is_kept}
use Rattle.pyunparse_text.proofs.FieldTexts.Texts.{no_returns, points_are, none_named, none_bad}
use Rattle.pyunparse_text.proofs.FieldTexts.FormattedBodies.{IsInString, own_in_string}
use Rattle.pyunparse_text.proofs.FieldTexts.FormattedTokens.{ends_at_quote, in_line, inside_is, no_nul, own_is_no_bulk}

-- a text that is this literal, in a field too, and may stand there
pub record IsFieldLiteral (t : List ℕ) (v : Value) : Type 0 where
  pub token : is_token kinds.String t ≡ true
  pub plain : is_plain_literal t ≡ true
  pub scalars : all_scalars t ≡ true
  pub gives : Gives kinds.String t (Literal v)
  pub terminals : terminals_by true nested_expression kinds.String t ≡ Literal v ∷ []
  pub faultless : field_fault kinds.String t ≡ None

-- ---- Own characters stand for themselves.

own_read : (bytes : Bool) (t : List ℕ) → list_all is_own t ≡ true → meanings_after false bytes 0 t ≡ map (λ c. Point c) t
own_read bytes [] a = refl
own_read bytes (c ∷ t) a =
    let p = and_parts (is_own c) (list_all is_own t) a in
    let p1 = and_parts (not (is_quote c)) _ p.0 in
    let s = not-true (c == 92) (and_parts (not (c == 92)) _ p1.1).0 in
    rw s (ap (λ (ms : List Meaning). Point c ∷ ms) (own_read bytes t p.1))

-- ---- The front of a literal.

-- what it says, and what stands after its prefix
record Opened (bytes u : Bool) (t following : List ℕ) : Type 0 where
  pub raw : is_raw t ≡ false
  pub formatted : is_formatted t ≡ false
  pub of_bytes : is_bytes t ≡ bytes
  pub of_u : is_unicode t ≡ u
  pub literal : drop (prefix_len_of t) t ≡ following

abbrev value_by : Bool → Bool → List ℕ → Value
value_by bytes u points = if bytes then Bytes points else Str points u

-- of a literal with this body
record IsRead (bytes u : Bool) (t body : List ℕ) : Type 0 where
  pub value : string_value t ≡ value_by bytes u body
  pub fault : (bytes && list_any (nat_lt 0x7F) t) ≡ false → string_fault t ≡ None
  pub bulk : is_bulky kinds.String t ≡ false
  pub single : is_fstring kinds.String t ≡ false

module _ (bytes u : Bool) (t body : List ℕ) (o : Opened bytes u t (34 ∷ body ++ 34 ∷ [])) (kept : list_all is_kept t ≡ true)
    (a : list_all is_own body ≡ true) (i : IsInString true body) where
  lines : with_line_feeds t ≡ t
  lines = no_returns t kept

  body_is : body_of t ≡ body
  body_is = ap inside o.literal ∙ inside_is true body i

  meanings_are : meanings (is_raw t) (is_bytes t) (body_of t) ≡ map (λ c. Point c) body
  unfolding meanings
  meanings_are = ap₂ (λ x y. meanings_after x (is_bytes t) 0 y) o.raw body_is ∙ own_read (is_bytes t) body a

  points_is : points_of t ≡ body
  unfolding points_of
  points_is = ap (flat_map points_in) meanings_are ∙ points_are body

  value_is : value_of t ≡ value_by bytes u body
  unfolding value_of
  value_is = let b = o.of_bytes in let w = o.of_u in let p = points_is in rw (b, w, p) refl

  no_escape_fault : escape_fault (meanings (is_raw t) (is_bytes t) (body_of t)) ≡ None
  unfolding escape_fault
  no_escape_fault = let x = none_named body in let y = none_bad body in ap escape_fault meanings_are ∙ rw (x, y) refl

  no_nul_fault : nul_fault t ≡ None
  unfolding nul_fault
  no_nul_fault = let z = no_nul t kept in rw z refl

  fault_is : (bytes && list_any (nat_lt 0x7F) t) ≡ false → literal_fault t ≡ None
  unfolding literal_fault
  fault_is n =
      let f = o.formatted in
      let e = no_escape_fault in
      let z = no_nul_fault in
      let b : (is_bytes t && list_any (nat_lt 0x7F) t) ≡ false = ap (λ x. x && list_any (nat_lt 0x7F) t) o.of_bytes ∙ n in
      rw (f, e, b, z) refl

  is_read : IsRead bytes u t body
  unfolding string_value string_fault
  is_read = record {
    value = ap value_of lines ∙ value_is;
    fault = λ n. ap literal_fault lines ∙ fault_is n;
    bulk = ap (list_any (λ c. is_quote c || (c == 10))) body_is ∙ own_is_no_bulk body a;
    single = ap is_formatted lines ∙ o.formatted;
  }

-- ---- Its texts.

opened_text : (rest : List ℕ) → Opened false false (34 ∷ rest) (34 ∷ rest)
opened_text rest = record { raw = refl; formatted = refl; of_bytes = refl; of_u = refl; literal = refl }

opened_unicode : (rest : List ℕ) → Opened false true (117 ∷ 34 ∷ rest) (34 ∷ rest)
opened_unicode rest = record { raw = refl; formatted = refl; of_bytes = refl; of_u = refl; literal = refl }

opened_bytes : (rest : List ℕ) → Opened true false (98 ∷ 34 ∷ rest) (34 ∷ rest)
opened_bytes rest = record { raw = refl; formatted = refl; of_bytes = refl; of_u = refl; literal = refl }

prefixes_are : (is_prefix [] ≡ true) × (is_prefix (117 ∷ []) ≡ true) × (is_prefix (98 ∷ []) ≡ true)
unfolding is_prefix
prefixes_are = (refl, refl, refl)

-- a body in double quotes is one token, whatever the prefix
quoted_single : (body : List ℕ) → IsInString true body → is_single_string (34 ∷ body ++ 34 ∷ []) ≡ true
unfolding is_single_string is_single
quoted_single body i = let p = prefixes_are.0 in let e = ends_at_quote true body i in rw (p, e) refl

marked_single : (a : ℕ) (body : List ℕ) → IsInString true body → is_prefix (a ∷ []) ≡ true
    → is_single_string (a ∷ 34 ∷ body ++ 34 ∷ []) ≡ true
unfolding is_single_string is_single
marked_single a body i p = let e = ends_at_quote true body i in rw (p, e) (or-true _)

-- a literal with its parts
record IsWhole (bytes u : Bool) (t body : List ℕ) : Type 0 where
  pub opened : Opened bytes u t (34 ∷ body ++ 34 ∷ [])
  pub single : is_single_string t ≡ true
  pub line : list_all is_comment_part t ≡ true
  pub plain : is_plain_literal t ≡ true
  pub scalars : all_scalars t ≡ true
  pub kept : list_all is_kept t ≡ true

as_literal : (bytes u : Bool) (t body : List ℕ) → IsWhole bytes u t body → list_all is_own body ≡ true → IsInString true body
    → (bytes && list_any (nat_lt 0x7F) t) ≡ false → IsFieldLiteral t (value_by bytes u body)
unfolding terminal_of terminals_by fault_by fault_of single_fault is_string
as_literal bytes u t body w a i n =
    let r = is_read bytes u t body w.opened w.kept a i in
    let f = r.fault n in
    let v = r.value in
    let s = r.single in
    let b = r.bulk in
    let k = w.single in
    record {
      token = and_from (is_single_string t) (list_all is_comment_part t) w.single w.line;
      plain = w.plain;
      scalars = w.scalars;
      gives = record { single = s; terminal = ap Literal v; sound = record { of_kind = rw k (or-true _); faultless = rw (s, f) refl } };
      terminals = rw (s, v) refl;
      faultless = rw (b, s, f) refl;
    }

kept_quoted : (body : List ℕ) → IsInString true body → list_all is_kept (body ++ 34 ∷ []) ≡ true
kept_quoted body i = list_all-append is_kept body (34 ∷ []) ∙ and_from (list_all is_kept body) true i.kept refl

scalars_quoted : (a body : List ℕ) → all_scalars a ≡ true → IsInString true body → all_scalars (a ++ 34 ∷ (body ++ 34 ∷ [])) ≡ true
scalars_quoted a body s i =
    scalars_both a (34 ∷ (body ++ 34 ∷ [])) s (scalars_both (34 ∷ []) (body ++ 34 ∷ []) refl (scalars_both body (34 ∷ []) i.scalars refl))

whole_text : (u : Bool) (body : List ℕ) → list_all is_own body ≡ true → IsInString true body
    → IsWhole false u (prefix u ++ in_double_quotes body) body
whole_text false body a i = record {
  opened = opened_text (body ++ 34 ∷ []);
  single = quoted_single body i;
  line = in_line true body i;
  plain = literal_plain [] body refl a;
  scalars = scalars_quoted [] body refl i;
  kept = kept_quoted body i;
}
whole_text true body a i = record {
  opened = opened_unicode (body ++ 34 ∷ []);
  single = marked_single 117 body i prefixes_are.1;
  line = in_line true body i;
  plain = literal_plain (117 ∷ []) body refl a;
  scalars = scalars_quoted (117 ∷ []) body refl i;
  kept = kept_quoted body i;
}

whole_bytes : (body : List ℕ) → list_all is_own body ≡ true → IsInString true body → IsWhole true false (98 ∷ in_double_quotes body) body
whole_bytes body a i = record {
  opened = opened_bytes (body ++ 34 ∷ []);
  single = marked_single 98 body i prefixes_are.2;
  line = in_line true body i;
  plain = literal_plain (98 ∷ []) body refl a;
  scalars = scalars_quoted (98 ∷ []) body refl i;
  kept = kept_quoted body i;
}

-- ---- The laws.

-- a character, and a byte, that have a writing in a field
abbrev pub is_field_character : ℕ → Bool
is_field_character c = is_own c && all_scalars (c ∷ [])

abbrev pub is_field_byte : ℕ → Bool
is_field_byte b = is_own b && nat_lt b 0x80

record AreOwn (t : List ℕ) : Type 0 where
  pub own : list_all is_own t ≡ true
  pub scalars : all_scalars t ≡ true

own_characters : (points : List ℕ) → list_all is_field_character points ≡ true → AreOwn points
own_characters [] a = record { own = refl; scalars = refl }
own_characters (c ∷ t) a =
    let p = and_parts (is_field_character c) (list_all is_field_character t) a in
    let q = and_parts (is_own c) (all_scalars (c ∷ [])) p.0 in
    let r = own_characters t p.1 in
    record { own = and_from (is_own c) (list_all is_own t) q.0 r.own; scalars = scalars_both (c ∷ []) t q.1 r.scalars }

as_they_are : (points : List ℕ) → list_all is_field_character points ≡ true → flat_map field_character points ≡ points
as_they_are [] a = refl
as_they_are (c ∷ t) a =
    let p = and_parts (is_field_character c) (list_all is_field_character t) a in
    let s = (and_parts (is_own c) (all_scalars (c ∷ [])) p.0).1 in
    rw s (ap (λ u. c ∷ u) (as_they_are t p.1))

pub text_in_field : (points : List ℕ) (u : Bool) → list_all is_field_character points ≡ true
    → IsFieldLiteral (field_literal_text (Str points u)) (Str points u)
text_in_field points u a =
    let o = own_characters points a in
    let i = own_in_string true points o.scalars o.own in
    subst (λ (t : List ℕ). IsFieldLiteral (prefix u ++ in_double_quotes t) (Str points u)) (sym (as_they_are points a))
    (as_literal false u (prefix u ++ in_double_quotes points) points (whole_text u points o.own i) o.own i refl)

own_bytes : (bytes : List ℕ) → list_all is_field_byte bytes ≡ true → AreOwn bytes
own_bytes [] a = record { own = refl; scalars = refl }
own_bytes (b ∷ t) a =
    let p = and_parts (is_field_byte b) (list_all is_field_byte t) a in
    let q = and_parts (is_own b) (nat_lt b 0x80) p.0 in
    let r = own_bytes t p.1 in
    let l : b < 0x80 = ltb-true b 0x80 q.1 in
    let s = low_scalar b (omega arith) in
    record { own = and_from (is_own b) (list_all is_own t) q.0 r.own; scalars = rw s r.scalars }

none_high : (bytes : List ℕ) → list_all is_field_byte bytes ≡ true → list_any (nat_lt 0x7F) (bytes ++ 34 ∷ []) ≡ false
none_high [] a = refl
none_high (b ∷ t) a =
    let p = and_parts (is_field_byte b) (list_all is_field_byte t) a in
    let l : b < 0x80 = ltb-true b 0x80 (and_parts (is_own b) (nat_lt b 0x80) p.0).1 in
    let n : nat_lt 0x7F b ≡ false = grind (arith, nat_tests) in
    rw n (none_high t p.1)

pub bytes_in_field : (bytes : List ℕ) → list_all is_field_byte bytes ≡ true
    → IsFieldLiteral (field_literal_text (Bytes bytes)) (Bytes bytes)
bytes_in_field bytes a =
    let o = own_bytes bytes a in
    let i = own_in_string true bytes o.scalars o.own in
    as_literal true false (98 ∷ in_double_quotes bytes) bytes (whole_bytes bytes o.own i) o.own i (none_high bytes a)
