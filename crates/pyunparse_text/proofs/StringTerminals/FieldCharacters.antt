-- Characters that may stand in a field of an f-string, and literals of them.
--
-- Carries: open_body, flat_body, calm_body, literally and 7 more, for StringsSaid, and for pytree_fits. On: Bodies.
use Rattle.std.proofs.Common.{◌≡◌, ℕ, Bool, true, false, not, ◌&&◌, ◌||◌, ◌==◌, List, Option, Some, None, refl, cond}
use Rattle.std.specs.Prelude.{nat_lt}
use Rattle.std.specs.List.{list_all, list_any}
use Rattle.std.specs.Option.{option_or}
use Rattle.std.proofs.Math.Utf8.{scalar}
use Rattle.std.proofs.lemmas.Bool.{and_parts}
use Rattle.pylex_listing.specs.declared.kind.Kind.TheVariants as kinds
use Rattle.pytoken.specs.declared.faults.TokenError.{TokenError}
use Rattle.pytoken.specs.declared.faults.TokenError.TheVariants.{FString, NonAsciiBytes}
use Rattle.pytoken.specs.Escapes.{escape_fault, meanings}
use Rattle.pytoken.specs.StringValues.{with_line_feeds, is_quote, is_raw, is_bytes, is_formatted, body_of, literal_fault, nul_fault}
use Rattle.pytoken.specs.FormattedStrings.{is_bulky}
use Rattle.pytoken.proofs.Callers.Bodies.{body_all, filter_all}
use Rattle.pyunparse_text.proofs.StringTerminals.Faultless.{no_nul}
use Rattle.pyunparse_text.proofs.StringTerminals.Scanned.{is_no_backslash}
use Rattle.pyunparse_text.proofs.StringTerminals.Bodies.{weaker, joined, none_all, kept_pass, body_kept}

-- may stand in the expression of a field
abbrev pub is_calm : ℕ → Bool
is_calm c = scalar c && is_no_backslash c

-- may stand in the body of a STRING there
abbrev pub is_open : ℕ → Bool
is_open c = is_calm c && not (is_quote c || (c == 10))

abbrev pub is_flat : ℕ → Bool
is_flat c = is_open c && not (c == 0)

pub flat_parts : (c : ℕ) → is_flat c ≡ true
    → (scalar c ≡ true) × (is_no_backslash c ≡ true) × (not (is_quote c || (c == 10)) ≡ true) × (not (c == 0) ≡ true)
flat_parts c h =
    let v = and_parts (is_open c) (not (c == 0)) h in
    let u = and_parts (is_calm c) (not (is_quote c || (c == 10))) v.0 in
    let x = and_parts (scalar c) (is_no_backslash c) u.0 in
    (x.0, x.1, u.1, v.1)

pub flat_scalar : (c : ℕ) → is_flat c ≡ true → scalar c ≡ true
flat_scalar c h = (flat_parts c h).0

pub flat_calm : (c : ℕ) → is_flat c ≡ true → is_no_backslash c ≡ true
flat_calm c h = (flat_parts c h).1

pub flat_unquoted : (c : ℕ) → is_flat c ≡ true → not (is_quote c) ≡ true
flat_unquoted c h = by (is_quote c) (c == 10) (flat_parts c h).2
  where
    by : (a b : Bool) → not (a || b) ≡ true → not a ≡ true
    by true b h = h
    by false b h = refl

no_quote_open : (c : ℕ) → is_quote c ≡ true → is_open c ≡ true → ⊥
no_quote_open c q h =
    let u = and_parts (is_calm c) (not (is_quote c || (c == 10))) h in
    by (is_quote c) (c == 10) q u.1
  where
    by : (a b : Bool) → a ≡ true → not (a || b) ≡ true → ⊥
    by true b q h = cc
    by false b q h = cc

-- the body of a STRING that is not bulky, in a field of characters without a backslash
pub open_body : (t : List ℕ) → list_all is_calm t ≡ true → is_bulky kinds.String t ≡ false
    → list_all is_open (body_of t) ≡ true
open_body t h b =
    joined is_calm (λ c. not (is_quote c || (c == 10))) (body_of t) (body_all is_calm t h)
    (none_all (λ c. is_quote c || (c == 10)) (body_of t) b)

pub no_nuls : (t : List ℕ) → list_any (λ c. c == 0) t ≡ false → list_all (λ c. not (c == 0)) (body_of t) ≡ true
no_nuls t n = body_all (λ c. not (c == 0)) t (none_all (λ c. c == 0) t n)

-- that of the literal without its CRs
pub flat_body : (t : List ℕ) → list_all is_calm t ≡ true → is_bulky kinds.String t ≡ false
    → list_any (λ c. c == 0) (with_line_feeds t) ≡ false
    → list_all (λ c. is_flat c && not (c == 13)) (body_of (with_line_feeds t)) ≡ true
flat_body t h b n =
    let u : List ℕ = with_line_feeds t in
    joined is_flat (λ c. not (c == 13)) (body_of u)
    (joined is_open (λ c. not (c == 0)) (body_of u) (body_kept is_open no_quote_open t (open_body t h b)) (no_nuls u n))
    (body_all (λ c. not (c == 13)) u (kept_pass (λ c. not (c == 13)) t))

pub calm_body : (t : List ℕ) → list_all is_calm t ≡ true → list_all is_no_backslash (body_of (with_line_feeds t)) ≡ true
calm_body t h =
    body_all is_no_backslash (with_line_feeds t)
    (filter_all is_no_backslash (λ c. not (c == 13)) t
    (weaker is_calm is_no_backslash (λ c k. (and_parts (scalar c) (is_no_backslash c) k).1) t h))

-- a literal without a fault
pub record Literally (t : List ℕ) : Type 0 where
  pub ascii : (is_bytes t && list_any (nat_lt 0x7F) t) ≡ false
  pub no_nul : list_any (λ c. c == 0) t ≡ false

pub literally : (t : List ℕ) → literal_fault t ≡ None → Literally t
unfolding literal_fault
literally t f = by (is_formatted t) (escape_fault (meanings (is_raw t) (is_bytes t) (body_of t)))
    (is_bytes t && list_any (nat_lt 0x7F) t) refl f
  where
    by : (a : Bool) (o : Option TokenError) (b : Bool) → (is_bytes t && list_any (nat_lt 0x7F) t) ≡ b
        → cond a (Some FString) (option_or o (cond b (Some NonAsciiBytes) (nul_fault t))) ≡ None → Literally t
    by true o b e f = absurd (cc)
    by false (Some x) b e f = absurd (cc)
    by false None true e f = absurd (cc)
    by false None false e f = record { ascii = e; no_nul = no_nul t f }
