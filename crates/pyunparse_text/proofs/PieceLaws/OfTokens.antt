-- Carries: the laws of pieces. On: the names and constants of tokens can be written.
use Rattle.std.proofs.Common.{◌≡◌, ℕ, ◌<◌, Bool, true, false, List, [], ◌∷◌, ◌++◌, Some, None, refl, sym, ap, ◌∙◌, subst, arith}
use Rattle.std.specs.Prelude.{All, cond}
use Rattle.std.specs.List.{list_all}
use Rattle.std.specs.Str.{all_scalars, encode_utf8_all}
use Rattle.std.proofs.lemmas.Bool.{and_parts, leb-true}
use Rattle.std.proofs.lemmas.Bool.Decides.{nat_tests}
use Rattle.std.proofs.lemmas.List.Elements.{All-nil, All-cons}
use Rattle.pylex_listing.specs.declared.kind.Kind.{Kind}
use Rattle.pylex_listing.specs.declared.kind.Kind.TheVariants as kinds
use Rattle.pytree_node.specs.Points.{IsPoint}
use Rattle.pytree_node.specs.Values
use Rattle.pytree_node.specs.declared.profiles.Extent.{Extent}
use Rattle.pytree_node.specs.declared.profiles.Extent.TheVariants.{Plain, Whole}
use Rattle.pytoken.specs.declared.faults.TokenError.TheVariants.{FString}
use Rattle.pytoken.specs.StringValues.{with_line_feeds, is_raw, is_bytes, is_unicode, body_of, points_of, value_of, string_value}
use Rattle.pytoken.specs.StringValues.{literal_fault}
use Rattle.pytoken.specs.StringValues.{string_fault}
use Rattle.pytoken.specs.FormattedStrings.{is_fstring}
use Rattle.pytoken.specs.Terminals.{Terminal, is_of, terminal_of, terminals_of, terminals_by, single_fault, fault_of, fault_by}
use Rattle.pytoken.specs.Laws.{is_byte, is_point}
use Rattle.pytoken.proofs.Callers.Said.{points_are_in_range, points_small}
use Rattle.pytoken.proofs.Callers.Bodies.{body_all, filter_all}
use Rattle.pygrammar.specs.OpenStrings.{Open, open_following, open_after_all}
use Rattle.pygrammar.proofs.Callers.OpenStrings.{terminals_close}
use Rattle.pyunparse_text.specs.Laws.{AreOfTokens, no_token, a_token}
use Rattle.pyunparse_text.proofs.PieceLaws.Places.{outside, open_place}
use Rattle.pyunparse_text.proofs.PieceLaws.Fair.{IsConstant}
use Rattle.pyunparse_text.proofs.PieceLaws.Sayings.{Sayable}
use Rattle.pyunparse_text.proofs.PieceLaws.SinglesSaid.{none_open, name_sayable, number_sayable, sign_sayable, scalars_points}
use Rattle.pyunparse_text.proofs.PieceLaws.StringsSaid.{string_said}
use Rattle.pyunparse_text.proofs.PieceLaws.SaidLists.{Said, none, also}

pub passing : (p : ℕ → Bool) (P : ℕ → Type 0) → ((c : ℕ) → p c ≡ true → P c) → (cs : List ℕ) → list_all p cs ≡ true → All P cs
passing p P f [] h = All-nil P
passing p P f (c ∷ cs) h = let w = and_parts (p c) (list_all p cs) h in All-cons P c cs (f c w.0) (passing p P f cs w.1)

-- ---- Strings.

pub literal_points : (t : List ℕ) → list_all is_point t ≡ true → list_all is_point (points_of t) ≡ true
unfolding points_of
literal_points t h = points_are_in_range (is_raw t) (is_bytes t) (body_of t) (body_all is_point t h)

value_constant : (extent : Extent) (t : List ℕ) → list_all is_point t ≡ true → literal_fault t ≡ None
    → IsConstant (open_place extent) (value_of t)
unfolding value_of
value_constant extent t h f = by (is_bytes t) refl
  where
    by : (b : Bool) → is_bytes t ≡ b
        → IsConstant (open_place extent) (cond b (Values.Bytes (points_of t)) (Values.Str (points_of t) (is_unicode t)))
    by true q = passing is_byte (λ b. b < 0x100) (λ b k. grind (arith, nat_tests)) (points_of t) (points_small t q f)
    by false q = passing is_point IsPoint (λ c k. leb-true c 1114111 k) (points_of t) (literal_points t h)

string_constant : (extent : Extent) (t : List ℕ) → all_scalars t ≡ true → string_fault t ≡ None
    → IsConstant (open_place extent) (string_value t)
unfolding string_value string_fault
string_constant extent t h f = value_constant extent (with_line_feeds t) (filter_all is_point _ t (scalars_points t h)) f

-- ---- Tokens.

-- a token that is one terminal
single_sayable : (extent : Extent) (k : Kind) (t : List ℕ) → all_scalars t ≡ true → is_of k t ≡ true → single_fault extent k t ≡ None
    → Sayable extent [] (terminal_of k t)
unfolding terminal_of single_fault
single_sayable extent kinds.Name t c s f = name_sayable extent [] t s f
single_sayable extent kinds.Number t c s f = number_sayable extent outside (encode_utf8_all t) f
single_sayable extent kinds.String t c s f = string_constant extent t c f
single_sayable extent kinds.Op t c s f = sign_sayable extent none_open t
single_sayable extent _ t c s f = tt

-- where it is no f-string, its fault is that of a single terminal
single_of : (extent : Extent) (k : Kind) (t : List ℕ) → is_fstring k t ≡ false → fault_of extent k t ≡ None → single_fault extent k t ≡ None
unfolding fault_of fault_by
single_of Plain k t s f = f
single_of Whole k t s f = rw s at f

formatted_plain_fault : (t : List ℕ) → is_fstring kinds.String t ≡ true → fault_of Plain kinds.String t ≡ None → ⊥
unfolding fault_of single_fault string_fault literal_fault
formatted_plain_fault t s f = absurd (let z : Some FString ≡ None = rw s at f in cc)

token_said : (extent : Extent) (k : Kind) (t : List ℕ) → all_scalars t ≡ true → is_of k t ≡ true → fault_of extent k t ≡ None
    → Said extent [] (terminals_of k t)
unfolding terminals_by
token_said extent k t c s f = by (is_fstring k t) refl
  where
    formatted : (extent : Extent) (k : Kind) → is_fstring k t ≡ true → fault_of extent k t ≡ None → Said extent [] (terminals_of k t)
    formatted Plain kinds.String q f = absurd (formatted_plain_fault t q f)
    formatted Whole kinds.String q f = string_said t c q f
    formatted extent _ q f = absurd (cc)

    by : (b : Bool) → is_fstring k t ≡ b → Said extent [] (terminals_of k t)
    by true q = formatted extent k q f
    by false q = let e = single_of extent k t q f in rw q (also (single_sayable extent k t c s e) none)

said_both : {extent : Extent} {o : Open} (ts us : List Terminal) → open_after_all o ts ≡ o → Said extent o ts → Said extent o us
    → Said extent o (ts ++ us)
said_both {extent} {o} ts us c h k = joined o ts us h (subst (λ x. Said extent x us) (sym c) k)
  where
    joined : (o : Open) (ts us : List Terminal) → Said extent o ts → Said extent (open_after_all o ts) us → Said extent o (ts ++ us)
    joined o [] us none k = k
    joined o (t ∷ ts) us (also s h) k = also s (joined (open_following o t) ts us h k)

pub of_tokens : {extent : Extent} {ts : List Terminal} → AreOfTokens extent ts → Said extent [] ts
of_tokens no_token = none
of_tokens {extent} (a_token {k = k} {text = t} {ts = ts} {us = us} c g h) =
    let said : Said extent [] ts = subst (Said extent []) g.terminals (token_said extent k t c g.sound.of_kind g.faultless) in
    said_both ts us (ap (open_after_all []) (sym g.terminals) ∙ terminals_close k t []) said (of_tokens h)
