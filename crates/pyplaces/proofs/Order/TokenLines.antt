-- The tokens of the lines of a source stand one after another, and so do the lines.
--
-- Carries: TokensIn, LinesIn, lines_in, for LineSpans. On: Entries.
use Rattle.std.proofs.Common.{◌≡◌, ℕ, ◌+◌, ◌≤◌, Bool, true, false, cond, List, [], ◌∷◌, ◌++◌, refl, arith}
use Rattle.std.proofs.Common.{Option, Some, None}
use Rattle.std.specs.Prelude.{All}
use Rattle.std.specs.Option.{option_or}
use Rattle.std.specs.Str.{all_scalars}
use Rattle.std.proofs.lemmas.List.Elements.{All-head, All-tail}
use Rattle.pysource.specs.declared.places.Place.{Place}
use Rattle.pylex_lexeme.specs.Chars.{bytes_in}
use Rattle.pylex_lexeme.specs.declared.kinds.Exact.{Exact}
use Rattle.pylex_listing.specs.declared.kind.Kind.{Kind}
use Rattle.pylex_listing.specs.declared.kind.Kind.TheVariants as kinds
use Rattle.pylex_listing.specs.declared.entries.Entry.{Entry}
use Rattle.pylex_listing.specs.declared.entries.ListingFault.{ListingFault}
use Rattle.pylex_listing.specs.Listing.{Source, listing}
use Rattle.pylex_listing.specs.Steps.{entries_of, fault_of as listing_fault}
use Rattle.pyfstring_tokens.specs.FieldTokens.{is_token_kind}
use Rattle.pytree_node.specs.declared.profiles.Extent.{Extent}
use Rattle.pytree_node.specs.declared.profiles.Extent.TheVariants.{Plain, Whole}
use Rattle.pytoken.specs.declared.faults.TokenError.{TokenError}
use Rattle.pytoken.specs.declared.refusals.Refusal.{Refusal}
use Rattle.pytoken.specs.declared.refusals.Refusal.TheVariants as refusals
use Rattle.pytoken.specs.Indentation.{margins}
use Rattle.pytoken.specs.Refusals.{most_brackets, entry_refusal, first_entry_refusal, first_too_deep, first_mixed, refusal_of, refusal_at}
use Rattle.pytoken.specs.Refusals.{refusal}
use Rattle.pytoken.specs.Terminals.{fault_of}
use Rattle.pytoken.specs.Tokens.{Token, Line, text_of, token_of, is_open, supplied, tokens_of_entry, tokens_from, tokens, lines_from, lines}
use Rattle.pytoken.proofs.Callers.Said.{plain_is_whole}
use Rattle.pyparse_marks.specs.LineSpans.{offset}
use Rattle.pyparse_marks.proofs.Callers.Places.{StartsAt, tokens_start}
use Rattle.pyplaces.proofs.Order.Entries.{IsString, Link, Follow, entries_follow}

-- ---- Tokens between bytes.

-- the bytes of the text before a token
abbrev pub begin_of : List ℕ → Token → ℕ
begin_of text t = offset t.start.row t.start.column text

abbrev pub end_of : List ℕ → Token → ℕ
end_of text t = begin_of text t + bytes_in t.text

-- a token of characters that has no fault
pub record IsSound (t : Token) : Type 0 where
  pub scalars : all_scalars t.text ≡ true
  pub string : IsString t.kind t.text
  pub faultless : fault_of Whole t.kind t.text ≡ None

-- tokens one after another, between two bytes
abbrev pub TokensIn : List ℕ → ℕ → List Token → ℕ → Type 0
TokensIn text lo [] hi = lo ≤ hi
TokensIn text lo (t ∷ ts) hi = IsSound t × (lo ≤ begin_of text t) × TokensIn text (end_of text t) ts hi

abbrev pub AreSound : List Token → Type 0
AreSound [] = Unit {0}
AreSound (t ∷ ts) = IsSound t × AreSound ts

pub are_sound : (text : List ℕ) (lo : ℕ) (ts : List Token) (hi : ℕ) → TokensIn text lo ts hi → AreSound ts
are_sound text lo [] hi h = tt
are_sound text lo (t ∷ ts) hi h = (h.0, are_sound text (end_of text t) ts hi h.2)

-- and lines
abbrev pub LinesIn : List ℕ → ℕ → List Line → ℕ → Type 0
LinesIn text lo [] hi = lo ≤ hi
LinesIn text lo (x ∷ xs) hi = (mid : ℕ) × TokensIn text lo x.tokens mid × LinesIn text mid xs hi

-- ---- The tokens of entries.

-- a token that stands in a line
record IsIn (text : List ℕ) (lo : ℕ) (t : Token) (hi : ℕ) : Type 0 where
  sound : IsSound t
  begins : lo ≤ begin_of text t
  ends : end_of text t ≤ hi

-- what a token is that stands between bytes: NEWLINE, INDENT, DEDENT and ENDMARKER may stand anywhere
abbrev Between : List ℕ → ℕ → Kind → Token → ℕ → Type 0
Between text lo kinds.Newline t hi = Unit {0}
Between text lo kinds.Indent t hi = Unit {0}
Between text lo kinds.Dedent t hi = Unit {0}
Between text lo kinds.EndMarker t hi = Unit {0}
Between text lo k t hi = IsIn text lo t hi

abbrev TokensFollow : List ℕ → ℕ → List Token → ℕ → Type 0
TokensFollow text lo [] hi = lo ≤ hi
TokensFollow text lo (t ∷ ts) hi = (mid : ℕ) × (lo ≤ mid) × Between text lo t.kind t mid × TokensFollow text mid ts hi

lower : (text : List ℕ) (low lo : ℕ) (ts : List Token) (hi : ℕ) → low ≤ lo → TokensFollow text lo ts hi → TokensFollow text low ts hi
lower text low lo [] hi a h = omega (arith, a, h)
lower text low lo (t ∷ ts) hi a h = (h.0, omega (arith, a, h.1), by t.kind h.2, h.3)
  where
    wide : IsIn text lo t h.0 → IsIn text low t h.0
    wide i = record { sound = i.sound; begins = omega (arith, a, i.begins); ends = i.ends }

    by : (k : Kind) → Between text lo k t h.0 → Between text low k t h.0
    by kinds.Newline b = tt
    by kinds.Indent b = tt
    by kinds.Dedent b = tt
    by kinds.EndMarker b = tt
    by kinds.Name b = wide b
    by kinds.Number b = wide b
    by kinds.String b = wide b
    by kinds.Op b = wide b
    by kinds.Comment b = wide b
    by kinds.Nl b = wide b
    by kinds.Encoding b = wide b

reach : (text : List ℕ) (lo : ℕ) (ts : List Token) (hi : ℕ) → TokensFollow text lo ts hi → lo ≤ hi
reach text lo [] hi h = h
reach text lo (t ∷ ts) hi h = let k = reach text h.0 ts hi h.3 in omega (arith, h.1, k)

both : (text : List ℕ) (lo mid hi : ℕ) (ts us : List Token) → TokensFollow text lo ts mid → TokensFollow text mid us hi
    → TokensFollow text lo (ts ++ us) hi
both text lo mid hi [] us h k = lower text lo mid us hi h k
both text lo mid hi (t ∷ ts) us h k = (h.0, h.1, h.2, both text h.0 mid hi ts us h.3 k)

of_entry : (text : List ℕ) (lo hi : ℕ) (begun : Bool) (e : Entry) → StartsAt text e → fault_of Whole e.kind (text_of text e) ≡ None
    → Link text lo e hi → TokensFollow text lo (tokens_of_entry text begun e) hi
of_entry text lo hi begun e starts none l = by e.kind e.exact e.start e.«end» e.«from» e.to starts none l
  where
    laid_if : (b : Bool) (t : Token) → Between text lo t.kind t hi → TokensFollow text lo (cond b (t ∷ []) []) hi
    laid_if true t h = (hi, l.forward, h, omega arith)
    laid_if false t h = l.forward

    closed_if : (b : Bool) (t : Token) → Between text lo t.kind t hi
        → TokensFollow text lo (cond b (supplied text ∷ t ∷ []) (t ∷ [])) hi
    closed_if true t h = (lo, omega arith, tt, (hi, l.forward, h, omega arith))
    closed_if false t h = (hi, l.forward, h, omega arith)

    own : (e : Entry) → is_token_kind e.kind ≡ true → offset e.start.row e.start.column text ≡ e.«from»
        → fault_of Whole e.kind (text_of text e) ≡ None → Link text lo e hi → IsIn text lo (token_of text e) hi
    own e is at none l =
        let o = l.own is in
        record {
          sound = record { scalars = o.scalars; string = o.string; faultless = none };
          begins = omega (arith, at, o.begins);
          ends = omega (arith, at, o.ends);
        }

    by : (k : Kind) (x : Option Exact) (p q : Place) (f t : ℕ)
        → StartsAt text (record { kind = k; exact = x; start = p; «end» = q; «from» = f; to = t })
        → fault_of Whole k (text_of text (record { kind = k; exact = x; start = p; «end» = q; «from» = f; to = t })) ≡ None
        → Link text lo (record { kind = k; exact = x; start = p; «end» = q; «from» = f; to = t }) hi
        → TokensFollow text lo (tokens_of_entry text begun (record { kind = k; exact = x; start = p; «end» = q; «from» = f; to = t })) hi
    by kinds.Encoding x p q f t starts none l = l.forward
    by kinds.Comment x p q f t starts none l = l.forward
    by kinds.Nl x p q f t starts none l = l.forward
    by kinds.Newline x p q f t starts none l = laid_if begun _ tt
    by kinds.Dedent x p q f t starts none l = closed_if begun _ tt
    by kinds.EndMarker x p q f t starts none l = closed_if begun _ tt
    by kinds.Indent x p q f t starts none l = (hi, l.forward, tt, omega arith)
    by kinds.Name x p q f t starts none l = (hi, l.forward, own _ refl (starts refl) none l, omega arith)
    by kinds.Number x p q f t starts none l = (hi, l.forward, own _ refl (starts refl) none l, omega arith)
    by kinds.String x p q f t starts none l = (hi, l.forward, own _ refl (starts refl) none l, omega arith)
    by kinds.Op x p q f t starts none l = (hi, l.forward, own _ refl (starts refl) none l, omega arith)

-- ---- No refusal.

none_first : (a b : Option Refusal) → option_or a b ≡ None → a ≡ None
none_first (Some r) b h = absurd cc
none_first None b h = refl

none_second : (a b : Option Refusal) → option_or a b ≡ None → b ≡ None
none_second (Some r) b h = absurd cc
none_second None b h = h

abbrev refusal_by : Option TokenError → Place → Option Refusal
refusal_by o p = elim o [ Some x ↦ Some (refusals.Token x p) | None ↦ None ]

no_fault : (o : Option TokenError) (p : Place) → refusal_by o p ≡ None → o ≡ None
no_fault (Some x) p h = absurd cc
no_fault None p h = refl

as_whole : (extent : Extent) (k : Kind) (t : List ℕ) → fault_of extent k t ≡ None → fault_of Whole k t ≡ None
as_whole Plain k t h = plain_is_whole k t h
as_whole Whole k t h = h

tokens_follow : (extent : Extent) (text : List ℕ) (lo hi : ℕ) (before es : List Entry) → All (StartsAt text) es
    → first_entry_refusal extent text es ≡ None → Follow text lo es hi → TokensFollow text lo (tokens_from text before es) hi
tokens_follow extent text lo hi before [] all none h = h
tokens_follow extent text lo hi before (e ∷ es) all none h =
    let first = none_first (entry_refusal extent text e) (first_entry_refusal extent text es) none in
    let more = none_second (entry_refusal extent text e) (first_entry_refusal extent text es) none in
    let faultless = as_whole extent e.kind (text_of text e) (no_fault (fault_of extent e.kind (text_of text e)) e.start first) in
    both text lo h.0 hi (tokens_of_entry text (is_open before) e) (tokens_from text (e ∷ before) es)
    (of_entry text lo h.0 (is_open before) e (All-head (StartsAt text) e es all) faultless h.1)
    (tokens_follow extent text h.0 hi (e ∷ before) es (All-tail (StartsAt text) e es all) more h.2)

abbrev refusal_in : Option ListingFault → Option Refusal → Option Refusal
refusal_in o others = elim o [ Some f ↦ Some (refusals.Listing f) | None ↦ others ]

-- nothing is refused, so no entry has a fault
faultless : (extent : Extent) (s : Source) → refusal extent s ≡ None → first_entry_refusal extent s.text (entries_of (listing s)) ≡ None
unfolding refusal_at
faultless extent s none = by (listing_fault (listing s)) none
  where
    by : (o : Option ListingFault) → refusal_in o (refusal_of extent most_brackets s.text (entries_of (listing s))) ≡ None
        → first_entry_refusal extent s.text (entries_of (listing s)) ≡ None
    by (Some f) h = absurd cc
    by None h =
        let es = entries_of (listing s) in
        none_first (first_entry_refusal extent s.text es)
        (option_or (first_too_deep most_brackets [] es) (first_mixed [] (margins s.text es))) h

-- ---- Lines.

-- with one token more
one_more : (text : List ℕ) (lo mid hi : ℕ) (ts : List Token) (t : Token) → TokensIn text lo ts mid → IsIn text mid t hi
    → TokensIn text lo (ts ++ t ∷ []) hi
one_more text lo mid hi [] t h i = (i.sound, omega (arith, h, i.begins), i.ends)
one_more text lo mid hi (u ∷ ts) t h i = (h.0, h.1, one_more text (end_of text u) mid hi ts t h.2 i)

wider : (text : List ℕ) (lo hi high : ℕ) (ts : List Token) → hi ≤ high → TokensIn text lo ts hi → TokensIn text lo ts high
wider text lo hi high [] a h = omega (arith, a, h)
wider text lo hi high (t ∷ ts) a h = (h.0, h.1, wider text (end_of text t) hi high ts a h.2)

pub forward : (text : List ℕ) (lo : ℕ) (ts : List Token) (hi : ℕ) → TokensIn text lo ts hi → lo ≤ hi
forward text lo [] hi h = h
forward text lo (t ∷ ts) hi h = let k = forward text (end_of text t) ts hi h.2 in omega (arith, h.1, k)

lines_follow : (text : List ℕ) (lo mid hi : ℕ) (before line ts : List Token) → TokensIn text lo line mid → TokensFollow text mid ts hi
    → LinesIn text lo (lines_from before line ts) hi
lines_follow text lo mid hi before line [] h k = let a = forward text lo line mid h in omega (arith, a, k)
lines_follow text lo mid hi before line (t ∷ ts) h k =
    by t.kind t.start t.text k (λ low mid before line. lines_follow text low mid hi before line ts)
  where
    by : (kind : Kind) (p : Place) (cs : List ℕ) → TokensFollow text mid (record { kind = kind; start = p; text = cs } ∷ ts) hi
        → ((low mid : ℕ) (before line : List Token) → TokensIn text low line mid → TokensFollow text mid ts hi
        → LinesIn text low (lines_from before line ts) hi)
        → LinesIn text lo (lines_from before line (record { kind = kind; start = p; text = cs } ∷ ts)) hi
    by kinds.Newline p cs k go = (k.0, wider text lo mid k.0 line k.1 h, go k.0 k.0 _ [] (omega arith) k.3)
    by kinds.Indent p cs k go = go lo k.0 _ line (wider text lo mid k.0 line k.1 h) k.3
    by kinds.Dedent p cs k go = go lo k.0 _ line (wider text lo mid k.0 line k.1 h) k.3
    by kinds.EndMarker p cs k go = go lo k.0 _ line (wider text lo mid k.0 line k.1 h) k.3
    by kinds.Name p cs k go = go lo k.0 _ _ (one_more text lo mid k.0 line _ h k.2) k.3
    by kinds.Number p cs k go = go lo k.0 _ _ (one_more text lo mid k.0 line _ h k.2) k.3
    by kinds.String p cs k go = go lo k.0 _ _ (one_more text lo mid k.0 line _ h k.2) k.3
    by kinds.Op p cs k go = go lo k.0 _ _ (one_more text lo mid k.0 line _ h k.2) k.3
    by kinds.Comment p cs k go = go lo k.0 _ _ (one_more text lo mid k.0 line _ h k.2) k.3
    by kinds.Nl p cs k go = go lo k.0 _ _ (one_more text lo mid k.0 line _ h k.2) k.3
    by kinds.Encoding p cs k go = go lo k.0 _ _ (one_more text lo mid k.0 line _ h k.2) k.3

pub lines_in : (extent : Extent) (s : Source) → all_scalars s.text ≡ true → refusal extent s ≡ None
    → LinesIn s.text 0 (lines s) (bytes_in s.text)
unfolding tokens lines
lines_in extent s good none =
    let es = entries_of (listing s) in
    lines_follow s.text 0 0 (bytes_in s.text) [] [] (tokens_from s.text [] es) (omega arith)
    (tokens_follow extent s.text 0 (bytes_in s.text) [] es (tokens_start s) (faultless extent s none) (entries_follow s good))
