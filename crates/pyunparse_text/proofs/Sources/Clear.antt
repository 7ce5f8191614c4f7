-- Carries: the law of clear lines. On: why no token of written lines refuses their source: none has
-- a fault, not too many brackets are open at once, and no line begins with tabs and spaces.
use Rattle.std.proofs.Common.{◌≡◌, ℕ, ◌+◌, ◌-◌, zero, suc, Bool, true, false, not, ◌&&◌, ◌||◌, ◌==◌, cond, List, [], ◌∷◌, ◌++◌, map}
use Rattle.std.proofs.Common.{replicate}
use Rattle.std.proofs.Common.{Option, Some, None, refl, sym, ◌∙◌, ap, subst, arith, append_assoc, ⊎_elim, if◌then◌else◌}
use Rattle.std.specs.Prelude.{count_by, nat_lt, nat_le, All}
use Rattle.std.specs.List.{list_all}
use Rattle.std.proofs.lemmas.Bool.{and_parts, eqb-true, cases_Bool, not-true}
use Rattle.std.proofs.lemmas.Bool.Decides.{nat_tests}
use Rattle.std.proofs.lemmas.List.{map-append}
use Rattle.std.proofs.lemmas.List.Elements.{All-head, All-tail}
use Rattle.pylex_lexeme.specs.declared.kinds.Exact.{Exact}
use Rattle.pylex_lexeme.specs.Operators.{is_opener, is_closer}
use Rattle.pylex_listing.specs.declared.kind.Kind.{Kind}
use Rattle.pylex_listing.specs.declared.kind.Kind.TheVariants as kinds
use Rattle.pylex_listing.specs.declared.entries.Entry.{Entry}
use Rattle.pylex_listing.specs.declared.entries.ListingFault.{ListingFault}
use Rattle.pylex_listing.specs.declared.entries.Step.TheVariants as steps
use Rattle.pylex_listing.specs.declared.margins.Widths.{Widths}
use Rattle.pylex_listing.specs.Listing.{Source, listing}
use Rattle.pylex_listing.specs.Steps.{entries_of, fault_of as listing_fault}
use Rattle.pytree_node.specs.declared.profiles.Extent.{Extent}
use Rattle.pytree_node.specs.declared.profiles.Extent.TheVariants.{Plain, Whole}
use Rattle.pysource.specs.declared.places.Place.{Place}
use Rattle.pytoken.specs.declared.faults.TokenError.{TokenError}
use Rattle.pytoken.specs.declared.refusals.Refusal.{Refusal}
use Rattle.pytoken.specs.declared.refusals.Refusal.TheVariants as refusals
use Rattle.pytoken.specs.Brackets.{opens as entry_opens, closes as entry_closes}
use Rattle.pytoken.specs.Indentation.{Margin, margins, are_alike, is_mixed_past, same_bool}
use Rattle.pytoken.specs.Terminals.{fault_of, fault_by, single_fault}
use Rattle.pytoken.specs.Refusals.{most_brackets, entry_refusal, first_entry_refusal, bracket_refusal, first_too_deep, first_mixed}
use Rattle.pytoken.specs.Refusals.{refusal_of}
use Rattle.pytoken.specs.Refusals.{refusal_at, refusal}
use Rattle.pyunparse_text.specs.Spacing.{Piece, Line, is_operator_kind, are_readable}
use Rattle.pyunparse_text.specs.Tokens.{PlainToken, token_at, token_of, exact_in, newline, indent, dedent, end_marker, level_tokens}
use Rattle.pyunparse_text.specs.Tokens.{line_tokens}
use Rattle.pyunparse_text.specs.Tokens.{tokens_after, is_opening, is_closing, opens, closes, closes_all, opens_within, is_even, is_written}
use Rattle.pyunparse_text.specs.Tokens.{are_written, rise_by_one, IsListedAs}
use Rattle.pyunparse_text.specs.SpacingLaws.{IsClear}
use Rattle.pyunparse_text.proofs.Listings.Relisting.{entries_all, encoding_entry}
use Rattle.pyunparse_text.proofs.Listings.Runs.{opens_alone}
use Rattle.pyunparse_text.proofs.Sources.SourceLines.{count_cons}
use Rattle.std.specs.Option.{option_or}

-- ---- Faults of tokens.

abbrev is_layout : Kind → Bool
is_layout kinds.Encoding = true
is_layout kinds.Newline = true
is_layout kinds.Indent = true
is_layout kinds.Dedent = true
is_layout kinds.EndMarker = true
is_layout _ = false

layout_faultless : (extent : Extent) (k : Kind) (t : List ℕ) → is_layout k ≡ true → fault_of extent k t ≡ None
unfolding fault_of fault_by single_fault
layout_faultless Plain kinds.Encoding t h = refl
layout_faultless Plain kinds.Newline t h = refl
layout_faultless Plain kinds.Indent t h = refl
layout_faultless Plain kinds.Dedent t h = refl
layout_faultless Plain kinds.EndMarker t h = refl
layout_faultless Whole kinds.Encoding t h = refl
layout_faultless Whole kinds.Newline t h = refl
layout_faultless Whole kinds.Indent t h = refl
layout_faultless Whole kinds.Dedent t h = refl
layout_faultless Whole kinds.EndMarker t h = refl
layout_faultless _ _ t h = absurd (cc)

module _ (extent : Extent) where
  abbrev Faultless : List PlainToken → Type 0
  Faultless [] = Unit {0}
  Faultless (t ∷ ts) = (fault_of extent t.kind t.text ≡ None) × Faultless ts

  faultless_both : (ts us : List PlainToken) → Faultless ts → Faultless us → Faultless (ts ++ us)
  faultless_both [] us a b = b
  faultless_both (t ∷ ts) us a b = (a.0, faultless_both ts us a.1 b)

  dedents_faultless : (n : ℕ) → Faultless (replicate n dedent)
  dedents_faultless zero = tt
  dedents_faultless (suc n) = (layout_faultless extent kinds.Dedent [] refl, dedents_faultless n)

  level_faultless : (m n : ℕ) → Faultless (level_tokens m n)
  level_faultless m n = by (nat_lt m n)
    where
      by : (b : Bool) → Faultless (cond b (indent n ∷ []) (replicate (m - n) dedent))
      by true = (layout_faultless extent kinds.Indent (indent n).text refl, tt)
      by false = dedents_faultless (m - n)

  pieces_faultless : (ps : List Piece) → All (λ p. fault_of extent p.kind p.text ≡ None) ps → Faultless (map token_of ps)
  pieces_faultless [] h = tt
  pieces_faultless (p ∷ ps) h = (
    All-head (λ p. fault_of extent p.kind p.text ≡ None) p ps h,
    pieces_faultless ps (All-tail (λ p. fault_of extent p.kind p.text ≡ None) p ps h),
  )

  lines_faultless : (m : ℕ) (ls : List Line) → All (IsClear extent) ls → Faultless (tokens_after m ls)
  lines_faultless m [] h =
      faultless_both (replicate m dedent) (end_marker ∷ []) (dedents_faultless m) (layout_faultless extent kinds.EndMarker [] refl, tt)
  lines_faultless m (l ∷ ls) h =
      faultless_both (line_tokens m l) (tokens_after l.level ls)
      (faultless_both (level_tokens m l.level) (map token_of l.pieces ++ newline ∷ []) (level_faultless m l.level)
      (faultless_both (map token_of l.pieces) (newline ∷ []) (pieces_faultless l.pieces (All-head (IsClear extent) l ls h).faultless)
      (layout_faultless extent kinds.Newline newline.text refl, tt)))
      (lines_faultless l.level ls (All-tail (IsClear extent) l ls h))

  none_refused : (text : List ℕ) (es : List Entry) → Faultless (map (token_at text) es) → first_entry_refusal extent text es ≡ None
  none_refused text [] h = refl
  none_refused text (e ∷ es) h =
      let f : entry_refusal extent text e ≡ None =
      ap (λ (o : Option TokenError). elim o [ Some x ↦ Some (refusals.Token x e.start) | None ↦ None ]) h.0 in
      rw f (none_refused text es h.1)

-- ---- Brackets, by the operators that the tokens are.

abbrev opener : Option Exact → Bool
opener o = elim o [ Some x ↦ is_opener x | None ↦ false ]

abbrev closer : Option Exact → Bool
closer o = elim o [ Some x ↦ is_closer x | None ↦ false ]

-- d brackets are open; none closes that isn't, and no more than so many are open at once
abbrev shallow : ℕ → ℕ → List (Option Exact) → Bool
shallow most d [] = true
shallow most d (o ∷ os) =
    if opener o then nat_lt d most && shallow most (d + 1) os
    else (if closer o then not (d == 0) && shallow most (d - 1) os else shallow most d os)

never_both : (o : Option Exact) → opener o ≡ true → closer o ≡ false
never_both (Some x) h = by x h
  where
    by : (x : Exact) → is_opener x ≡ true → is_closer x ≡ false
    by x h = opens_alone x h
never_both None h = refl

abbrev Counted : ℕ → List Entry → Type 0
Counted d before = count_by entry_opens before ≡ count_by entry_closes before + d

deep_none : (most d : ℕ) (before es : List Entry) → Counted d before → shallow most d (map (λ e. e.exact) es) ≡ true
    → first_too_deep most before es ≡ None
deep_none most d before [] c h = refl
deep_none most d before (e ∷ es) c h =
    let x = count_cons entry_opens e before in
    let y = count_cons entry_closes e before in
    ⊎_elim
    (λ (o : opener e.exact ≡ true).
    let g : (nat_lt d most && shallow most (d + 1) (map (λ e. e.exact) es)) ≡ true = rw o at h in
    let p = and_parts (nat_lt d most) (shallow most (d + 1) (map (λ e. e.exact) es)) g in
    let s : closer e.exact ≡ false = never_both e.exact o in
    let l : nat_lt most (count_by entry_opens before + 1 - count_by entry_closes before) ≡ false = grind (arith, nat_tests) in
    let f : bracket_refusal most before e ≡ None = rw (o, l) refl in
    let a : count_by entry_opens (e ∷ before) ≡ 1 + count_by entry_opens before = x ∙ rw o refl in
    let b : count_by entry_closes (e ∷ before) ≡ 0 + count_by entry_closes before = y ∙ rw s refl in
    rw f (deep_none most (d + 1) (e ∷ before) es (omega (arith, a, b, c)) p.1))
    (λ (o : opener e.exact ≡ false).
    let f : bracket_refusal most before e ≡ None = rw o refl in
    let a : count_by entry_opens (e ∷ before) ≡ 0 + count_by entry_opens before = x ∙ rw o refl in
    ⊎_elim
    (λ (s : closer e.exact ≡ true).
    let g : (not (d == 0) && shallow most (d - 1) (map (λ e. e.exact) es)) ≡ true = rw (o, s) at h in
    let p = and_parts (not (d == 0)) (shallow most (d - 1) (map (λ e. e.exact) es)) g in
    let z : (d == 0) ≡ false = not-true (d == 0) p.0 in
    let b : count_by entry_closes (e ∷ before) ≡ 1 + count_by entry_closes before = y ∙ rw s refl in
    let n : Counted (d - 1) (e ∷ before) = grind (arith, nat_tests, a, b, c, z) in
    rw f (deep_none most (d - 1) (e ∷ before) es n p.1))
    (λ (s : closer e.exact ≡ false).
    let g : shallow most d (map (λ e. e.exact) es) ≡ true = rw (o, s) at h in
    let b : count_by entry_closes (e ∷ before) ≡ 0 + count_by entry_closes before = y ∙ rw s refl in
    rw f (deep_none most d (e ∷ before) es (omega (arith, a, b, c)) g))
    (cases_Bool (closer e.exact)))
    (cases_Bool (opener e.exact))

-- tokens that are no operators
plain_shallow : (most d : ℕ) (ts : List PlainToken) (os : List (Option Exact)) → list_all (λ t. not (is_operator_kind t.kind)) ts ≡ true
    → shallow most d os ≡ true → shallow most d (map exact_in ts ++ os) ≡ true
plain_shallow most d [] os a h = h
plain_shallow most d (t ∷ ts) os a h =
    let w = and_parts (not (is_operator_kind t.kind)) (list_all (λ t. not (is_operator_kind t.kind)) ts) a in
    let n : exact_in t ≡ None = none t.kind t.text w.0 in
    rw n (plain_shallow most d ts os w.1 h)
  where
    none : (k : Kind) (t : List ℕ) → not (is_operator_kind k) ≡ true → exact_in (record { kind = k; text = t }) ≡ None
    none kinds.Op t e = cc
    none _ t e = refl

dedents_plain : (n : ℕ) → list_all (λ t. not (is_operator_kind t.kind)) (replicate n dedent) ≡ true
dedents_plain zero = refl
dedents_plain (suc n) = dedents_plain n

level_plain : (m n : ℕ) → list_all (λ t. not (is_operator_kind t.kind)) (level_tokens m n) ≡ true
level_plain m n = by (nat_lt m n)
  where
    by : (b : Bool) → list_all (λ t. not (is_operator_kind t.kind)) (cond b (indent n ∷ []) (replicate (m - n) dedent)) ≡ true
    by true = refl
    by false = dedents_plain (m - n)

piece_opener : (k : Kind) (t : List ℕ) → opener (exact_in (record { kind = k; text = t })) ≡ (is_operator_kind k && is_opening t)
piece_opener kinds.Op t = refl
piece_opener _ t = refl

piece_closer : (k : Kind) (t : List ℕ) → closer (exact_in (record { kind = k; text = t })) ≡ (is_operator_kind k && is_closing t)
piece_closer kinds.Op t = refl
piece_closer _ t = refl

pieces_shallow : (most d : ℕ) (ps : List Piece) (os : List (Option Exact)) → closes_all d ps ≡ true → opens_within most d ps ≡ true
    → shallow most 0 os ≡ true → shallow most d (map exact_in (map token_of ps) ++ os) ≡ true
pieces_shallow most d [] os c w h = let z : d ≡ 0 = eqb-true d 0 c in subst (λ n. shallow most n os ≡ true) (sym z) h
pieces_shallow most d (p ∷ ps) os c w h =
    let x = piece_opener p.kind p.text in
    let y = piece_closer p.kind p.text in
    ⊎_elim
    (λ (o : opens p ≡ true).
    let a : closes_all (d + 1) ps ≡ true = rw o at c in
    let b : (nat_lt d most && opens_within most (d + 1) ps) ≡ true = rw o at w in
    let v = and_parts (nat_lt d most) (opens_within most (d + 1) ps) b in
    let r = pieces_shallow most (d + 1) ps os a v.1 h in
    let f : opener (exact_in (token_of p)) ≡ true = x ∙ o in
    rw (f, v.0) r)
    (λ (o : opens p ≡ false).
    let f : opener (exact_in (token_of p)) ≡ false = x ∙ o in
    ⊎_elim
    (λ (s : closes p ≡ true).
    let a : (not (d == 0) && closes_all (d - 1) ps) ≡ true = rw (o, s) at c in
    let v = and_parts (not (d == 0)) (closes_all (d - 1) ps) a in
    let b : opens_within most (d - 1) ps ≡ true = rw (o, s) at w in
    let g : closer (exact_in (token_of p)) ≡ true = y ∙ s in
    rw (f, g, v.0) (pieces_shallow most (d - 1) ps os v.1 b h))
    (λ (s : closes p ≡ false).
    let a : closes_all d ps ≡ true = rw (o, s) at c in
    let b : opens_within most d ps ≡ true = rw (o, s) at w in
    let g : closer (exact_in (token_of p)) ≡ false = y ∙ s in
    rw (f, g) (pieces_shallow most d ps os a b h))
    (cases_Bool (closes p)))
    (cases_Bool (opens p))

lines_shallow : (extent : Extent) (m : ℕ) (ls : List Line) → list_all is_written ls ≡ true → All (IsClear extent) ls
    → shallow most_brackets 0 (map exact_in (tokens_after m ls)) ≡ true
lines_shallow extent m [] w h =
    subst (λ os. shallow most_brackets 0 os ≡ true) (sym (map-append exact_in (replicate m dedent) (end_marker ∷ [])))
    (plain_shallow most_brackets 0 (replicate m dedent) (map exact_in (end_marker ∷ [])) (dedents_plain m) refl)
lines_shallow extent m (l ∷ ls) w h =
    let a = and_parts (is_written l) (list_all is_written ls) w in
    let b = and_parts (are_readable l.pieces) (closes_all 0 l.pieces && list_all _ l.pieces) a.0 in
    let c = and_parts (closes_all 0 l.pieces) _ b.1 in
    let rest : List PlainToken = tokens_after l.level ls in
    let r : shallow most_brackets 0 (map exact_in (newline ∷ rest)) ≡ true =
    lines_shallow extent l.level ls a.1 (All-tail (IsClear extent) l ls h) in
    let p : shallow most_brackets 0 (map exact_in (map token_of l.pieces) ++ map exact_in (newline ∷ rest)) ≡ true =
    pieces_shallow most_brackets 0 l.pieces (map exact_in (newline ∷ rest)) c.0 (All-head (IsClear extent) l ls h).shallow r in
    let q =
    plain_shallow most_brackets 0 (level_tokens m l.level) (map exact_in (map token_of l.pieces) ++ map exact_in (newline ∷ rest))
    (level_plain m l.level) p in
    let s : map exact_in (tokens_after m (l ∷ ls)) ≡ map exact_in (level_tokens m l.level) ++
    (map exact_in (map token_of l.pieces) ++ map exact_in (newline ∷ rest)) =
    ap (map exact_in)
    (append_assoc (level_tokens m l.level) (map token_of l.pieces ++ newline ∷ []) rest ∙ ap (λ u. level_tokens m l.level ++ u)
    (append_assoc (map token_of l.pieces) (newline ∷ []) rest))
    ∙ map-append exact_in (level_tokens m l.level) (map token_of l.pieces ++ newline ∷ rest)
    ∙ ap (λ u. map exact_in (level_tokens m l.level) ++ u) (map-append exact_in (map token_of l.pieces) (newline ∷ rest)) in
    subst (λ os. shallow most_brackets 0 os ≡ true) (sym s) q

-- ---- Tabs.

agrees : (b : Bool) → same_bool b b ≡ true
agrees true = refl
agrees false = refl

alike : (v w : Widths) → (v.eight == v.one) ≡ true → (w.eight == w.one) ≡ true → are_alike v w ≡ true
alike v w a b =
    let x : v.eight ≡ v.one = eqb-true v.eight v.one a in
    let y : w.eight ≡ w.one = eqb-true w.eight w.one b in
    let f = agrees (nat_lt v.one w.one) in
    let g = agrees (nat_lt w.one v.one) in
    let h : (same_bool (nat_lt v.one w.one) (nat_lt v.one w.one) && same_bool (nat_lt w.one v.one) (nat_lt w.one v.one)) ≡
    true = rw (f, g) refl in
    rw (x, y) h

not_mixed : (between earlier : List Margin) (m : Margin) → list_all is_even earlier ≡ true → is_even m ≡ true
    → is_mixed_past between earlier m ≡ false
not_mixed between [] m a e = refl
not_mixed between (v ∷ earlier) m a e =
    let w = and_parts (is_even v) (list_all is_even earlier) a in
    let k = alike v.widths m.widths w.0 e in
    rw (k, not_mixed (v ∷ between) earlier m w.1 e) (none (list_all (λ u. nat_le v.widths.eight u.widths.eight) between))
  where
    none : (b : Bool) → ((b && false) || false) ≡ false
    none true = refl
    none false = refl

none_mixed : (earlier ms : List Margin) → list_all is_even earlier ≡ true → list_all is_even ms ≡ true → first_mixed earlier ms ≡ None
none_mixed earlier [] a b = refl
none_mixed earlier (m ∷ ms) a b =
    let w = and_parts (is_even m) (list_all is_even ms) b in
    let k = not_mixed [] earlier m a w.0 in
    rw k (none_mixed (m ∷ earlier) ms (rw (w.0, a) refl) w.1)

-- ---- The source.

no_fault : (es : List Entry) → listing_fault (map steps.Entry es ++ steps.End ∷ []) ≡ None
no_fault [] = refl
no_fault (e ∷ es) = no_fault es

all_none : (a b c : Option Refusal) → a ≡ None → b ≡ None → c ≡ None → option_or a (option_or b c) ≡ None
all_none (Some r) b c e f g = absurd (cc)
all_none None (Some r) c e f g = absurd (cc)
all_none None None c e f g = g

none_stands : (f : Option ListingFault) (r : Option Refusal) → f ≡ None → r ≡ None
    → ◌≡◌ {A = Option Refusal} (elim f [ Some x ↦ Some (refusals.Listing x) | None ↦ r ]) None
none_stands (Some x) r e h = absurd (cc)
none_stands None r e h = h

first_none : (o : Option TokenError) (p : Place) (r : Option Refusal) → o ≡ None → r ≡ None
    → option_or (elim o [ Some x ↦ Some (refusals.Token x p) | None ↦ None ]) r ≡ None
first_none (Some x) p r e h = absurd (cc)
first_none None p r e h = h

pub clear : (extent : Extent) (s : Source) (ls : List Line) → are_written ls ≡ true → All (IsClear extent) ls
    → IsListedAs s (tokens_after 0 ls)
    → refusal extent s ≡ None
unfolding refusal_at
clear extent s ls w h i =
    let a = and_parts (list_all is_written ls) (rise_by_one 0 ls) w in
    let f : listing_fault (listing s) ≡ None = ap listing_fault i.listed ∙ no_fault i.entries in
    let e : entries_of (listing s) ≡ encoding_entry ∷ i.entries = ap entries_of i.listed
    ∙ ap (λ x. encoding_entry ∷ x) (entries_all i.entries) in
    let t : first_entry_refusal extent s.text (encoding_entry ∷ i.entries) ≡ None =
    first_none _ _ _ (layout_faultless extent kinds.Encoding _ refl)
    (none_refused extent s.text i.entries (subst (Faultless extent) (sym i.tokens) (lines_faultless extent 0 ls h))) in
    let d : first_too_deep most_brackets [] (encoding_entry ∷ i.entries) ≡ None =
    deep_none most_brackets 0 (encoding_entry ∷ []) i.entries refl
    (subst (λ os. shallow most_brackets 0 os ≡ true) (sym i.exacts) (lines_shallow extent 0 ls a.0 h)) in
    let m : first_mixed [] (margins s.text (entries_of (listing s))) ≡ None =
    none_mixed [] (margins s.text (entries_of (listing s))) refl i.even in
    none_stands (listing_fault (listing s)) (refusal_of extent most_brackets s.text (entries_of (listing s))) f
    (all_none (first_entry_refusal extent s.text (entries_of (listing s))) (first_too_deep most_brackets [] (entries_of (listing s)))
    (first_mixed [] (margins s.text (entries_of (listing s))))
    (ap (first_entry_refusal extent s.text) e ∙ t) (ap (first_too_deep most_brackets []) e ∙ d) m)
