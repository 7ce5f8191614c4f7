-- Carries: the laws by tokens. On: characters and literals that may stand in a field.
use Rattle.std.proofs.Common.{◌≡◌, refl, sym, subst, ⊎_elim, ℕ, ◌<◌, ◌≤◌, arith, List, [], ◌∷◌, None, Bool, true, false, cond}
use Rattle.std.specs.Prelude.{◌&&◌, ◌||◌, ◌==◌, not, nat_lt, nat_le}
use Rattle.std.specs.List.{list_all, list_any}
use Rattle.std.proofs.Math.Utf8.{scalar, scalar_cases}
use Rattle.std.proofs.lemmas.Bool.{and_parts, and_from}
use Rattle.std.proofs.lemmas.Bool.Decides.{nat_tests}
use Rattle.pylex_listing.specs.declared.kind.Kind.TheVariants as kinds
use Rattle.pytree_node.specs.Values.{Str, Bytes}
use Rattle.pytoken.specs.StringValues.{with_line_feeds, is_raw, is_bytes, is_unicode, body_of, points_of, value_of}
use Rattle.pytoken.specs.StringValues.{string_value, literal_fault, string_fault}
use Rattle.pytoken.specs.FormattedStrings.{is_bulky}
use Rattle.pytoken.specs.Terminals.{Literal}
use Rattle.pytoken.specs.Laws.{is_point}
use Rattle.pytoken.proofs.Callers.Bodies.{body_all}
use Rattle.pyunparse_text.proofs.Callers.Strings.{is_no_backslash, weaker, joined, none_all, points_kept}
use Rattle.pyunparse_text.proofs.Callers.Strings.{is_calm, is_flat, flat_parts, flat_body, calm_body, literally}
use Rattle.pyunparse_text.proofs.Callers.Said.{scalar_point}
use Rattle.pytree_fits.specs.Literals.{is_bare, is_bare_byte}
use Rattle.pytree_fits.proofs.Fields.Tests.{from3}
use Rattle.pytree_fits.proofs.Exactness.Walks.{Stands}

no_surrogate : (c : ℕ) → scalar c ≡ true → not (nat_le 0xD800 c && nat_le c 0xDFFF) ≡ true
no_surrogate c h = ⊎_elim (λ (low : c < 55296). below low) (λ (high : (57344 ≤ c) × (c < 1114112)). above high.0) (scalar_cases c h)
  where
    below : c < 55296 → not (nat_le 0xD800 c && nat_le c 0xDFFF) ≡ true
    below low = grind (arith, nat_tests)

    above : 57344 ≤ c → not (nat_le 0xD800 c && nat_le c 0xDFFF) ≡ true
    above high = grind (arith, nat_tests)

-- it stands for itself, unless it is a CR
pub flat_bare : (c : ℕ) → (is_flat c && not (c == 13)) ≡ true → is_bare c ≡ true
flat_bare c h =
    let w = and_parts (is_flat c) (not (c == 13)) h in
    let v = flat_parts c w.0 in
    from3 (is_point c) (not (nat_le 0xD800 c && nat_le c 0xDFFF)) _ (scalar_point c v.0) (no_surrogate c v.0)
    (by (c == 0) (c == 10) (c == 13) (c == 92) (c == 39) (c == 34) v.3 v.2 w.1 v.1)
  where
    by : (z l r b s d : Bool) → not z ≡ true → not ((s || d) || l) ≡ true → not r ≡ true → not b ≡ true
        → not (z || l || r || b || s || d) ≡ true
    by true l r b s d h i j k = h
    by false l r b true d h i j k = absurd (cc)
    by false l r b false true h i j k = absurd (cc)
    by false true r b false false h i j k = i
    by false false true b false false h i j k = j
    by false false false b false false h i j k = by_last b k
      where
        by_last : (b : Bool) → not b ≡ true → not ((b || false) || false) ≡ true
        by_last true k = k
        by_last false k = refl

-- that of the literal without its CRs
literal_body : (t : List ℕ) → list_all is_calm t ≡ true → is_bulky kinds.String t ≡ false
    → list_any (λ c. c == 0) (with_line_feeds t) ≡ false
    → list_all is_bare (body_of (with_line_feeds t)) ≡ true
literal_body t h b n =
    weaker (λ c. is_flat c && not (c == 13)) is_bare flat_bare (body_of (with_line_feeds t)) (flat_body t h b n)

-- ---- Literals.

small_byte : (c : ℕ) → (is_bare c && not (nat_lt 0x7F c)) ≡ true → is_bare_byte c ≡ true
small_byte c h =
    let w = and_parts (is_bare c) (not (nat_lt 0x7F c)) h in
    and_from (nat_lt c 0x80) (is_bare c) (low w.1) w.0
  where
    low : not (nat_lt 0x7F c) ≡ true → nat_lt c 0x80 ≡ true
    low h = grind (arith, nat_tests)

value_stands : (m : ℕ) (t : List ℕ) → list_all is_bare (body_of t) ≡ true → list_all is_no_backslash (body_of t) ≡ true
    → literal_fault t ≡ None
    → Stands (m ∷ []) (Literal (value_of t))
unfolding value_of points_of
value_stands m t h b f = by (is_bytes t) refl
  where
    e : points_of t ≡ body_of t
    e = points_kept (is_raw t) (is_bytes t) (body_of t) b

    by : (k : Bool) → is_bytes t ≡ k → Stands (m ∷ []) (Literal (cond k (Bytes (points_of t)) (Str (points_of t) (is_unicode t))))
    by true q =
        let a = (literally t f).ascii in
        let n : list_any (nat_lt 0x7F) t ≡ false = rw q at a in
        subst (λ z. list_all is_bare_byte z ≡ true) (sym e)
        (weaker (λ c. is_bare c && not (nat_lt 0x7F c)) is_bare_byte small_byte (body_of t)
        (joined is_bare (λ c. not (nat_lt 0x7F c)) (body_of t) h (body_all (λ c. not (nat_lt 0x7F c)) t (none_all (nat_lt 0x7F) t n))))
    by false q = subst (λ z. list_all is_bare z ≡ true) (sym e) h

pub string_stands : (m : ℕ) (t : List ℕ) → list_all is_calm t ≡ true → is_bulky kinds.String t ≡ false → string_fault t ≡ None
    → Stands (m ∷ []) (Literal (string_value t))
unfolding string_value string_fault
string_stands m t h b f = value_stands m (with_line_feeds t) (literal_body t h b (literally (with_line_feeds t) f).no_nul) (calm_body t h) f
