-- The spans of a line are clear of each other, as its places are, where one of them is of whole tokens: these stand one after another.
--
-- Carries: lines_laminar, for Law. On: LaminarBlocks, LineSpans.
use Rattle.std.proofs.Common.{◌≡◌, ◌⊎◌, inl, inr, refl, sym, ap, ◌∙◌, subst, ℕ, zero, suc, ◌+◌, ◌-◌, ◌<◌, ◌≤◌, arith, Bool, true, false}
use Rattle.std.proofs.Common.{List, [], ◌∷◌, ◌++◌, append-nil, length, length-append}
use Rattle.std.specs.Prelude.{nat_le, if◌then◌else◌}
use Rattle.std.proofs.lemmas.Bool.{and_from, and_parts, leb-true, le-leb, or_parts}
use Rattle.std.proofs.lemmas.List.{map-append}
use Rattle.std.proofs.lemmas.Grind.{flat_map-append}
use Rattle.pylex_listing.specs.declared.kind.Kind.{Kind}
use Rattle.pytree_node.specs.declared.profiles.Profile.{Profile}
use Rattle.pytoken.specs.FormattedStrings.{is_fstring}
use Rattle.pytoken.specs.Terminals.{terminals_of}
use Rattle.pytoken.specs.Tokens as Tokens
use Rattle.pytoken.specs.Tokens.{Token}
use Rattle.pyparse_marks.specs.LineSpans.{line_spans}
use Rattle.pyparse_marks.specs.LineSpans as LineSpans
use Rattle.pyparse_marks.specs.TokenSpans.{Walk, past_single, past_formatted, past_nested, token_spans}
use Rattle.pygrammar.specs.Forms as F
use Rattle.pygrammar.specs.Lines.{Line, Form}
use Rattle.pygrammar.specs.Refusals.{Formed, formed_end, formed_line}
use Rattle.pyplaces.specs.Stretches.{Span, Stretch, span_after, span_of, spans_of}
use Rattle.pyplaces.specs.FormPlaces.{FormPlaces, places_at}
use Rattle.pyplaces.specs.BlockPlaces.{line_of}
use Rattle.pyplaces.specs.ModulePlaces.{formed_places}
use Rattle.pyplaces.specs.Laws.{IsWithin, AreWithin}
use Rattle.pyplaces.specs.Laws as Law
use Rattle.pyplaces.proofs.Laws.Law.{places_are_lawful}
use Rattle.pyplaces.specs.Laminar.{IsAmong, at_front, further_on, AreClearSpans, holds_it, held_by_it, ends_first, begins_after}
use Rattle.pyplaces.specs.Laminar.{are_whole, is_of_tokens, has_fstring, StandsInAField, places_in_line, StandInFields}
use Rattle.pyplaces.proofs.Order.TokenLines.{AreSound, TokensIn, LinesIn, are_sound, begin_of}
use Rattle.pyplaces.proofs.Order.Aligned.{terminals_in}
use Rattle.pyplaces.proofs.Order.Filling.{after_lies, following_first, following_last, after_middle}
use Rattle.pyplaces.proofs.Order.LineSpans.{spans_in, one_length, lengths, split_in}
use Rattle.pyplaces.proofs.Order.Simples.{some_token}
use Rattle.pyplaces.proofs.Order.Laminar.{spans_in_line}
use Rattle.pyplaces.proofs.Order.LaminarBlocks.{LinesLaminar}

-- ---- Whole tokens at the front.

record Front (ts : List Token) (n : ℕ) : Type 0 where
  front : List Token
  back : List Token
  is : ts ≡ front ++ back
  size : length (terminals_in front) ≡ n

front_of : (ts : List Token) (n : ℕ) → are_whole ts n ≡ true → Front ts n
front_of ts zero e = record { front = []; back = ts; is = refl; size = refl }
front_of [] (suc n) e = absurd cc
front_of (t ∷ ts) (suc n) e =
    let own = terminals_of t.kind t.text in
    let h = and_parts (nat_le (length own) (suc n)) (are_whole ts (suc n - length own)) e in
    let r = front_of ts (suc n - length own) h.1 in
    record {
      front = t ∷ r.front;
      back = r.back;
      is = ap (λ z. t ∷ z) r.is;
      size = omega (arith, length-append own (terminals_in r.front), r.size, leb-true (length own) (suc n) h.0);
    }

-- ---- Without an f-string each terminal is a token.

one_span : (at : ℕ) (k : Kind) (t : List ℕ) → is_fstring k t ≡ false → length (token_spans at k t) ≡ 1
unfolding token_spans
one_span at k t e = by (is_fstring k t) e
  where
    start : Walk
    start = record { at = at; spans = [] }

    by : (b : Bool) → b ≡ false → length (if b then past_formatted false past_nested t start else past_single k t start).spans ≡ 1
    by true e = absurd cc
    by false e = refl

plain_whole : (text : List ℕ) (ts : List Token) → AreSound ts → has_fstring ts ≡ false → (n : ℕ) → n ≤ length (terminals_in ts)
    → are_whole ts n ≡ true
plain_whole text ts h e zero l = refl
plain_whole text [] h e (suc n) l = absurd (omega (arith, l))
plain_whole text (t ∷ ts) h e (suc n) l =
    let own = terminals_of t.kind t.text in
    let both = or_parts (is_fstring t.kind t.text) (has_fstring ts) e in
    let one : length own ≡ 1 = sym (one_length text t h.0) ∙ one_span (begin_of text t) t.kind t.text both.0 in
    let size = length-append own (terminals_in ts) in
    let rest = plain_whole text ts h.1 both.1 (suc n - length own) (omega (arith, l, one, size)) in
    and_from (nat_le (length own) (suc n)) (are_whole ts (suc n - length own)) (le-leb (length own) (suc n) (omega (arith, one))) rest

-- ---- Spans in two parts, of which the second begins where a token does.

record IsParted (n : ℕ) (ss : List Span) : Type 0 where
  apart : (i j : ℕ) → i < n → n ≤ j → j < length ss → (span_after i ss).stop ≤ (span_after j ss).start
  begins : (j : ℕ) → n ≤ j → j < length ss → (span_after n ss).start ≤ (span_after j ss).start
  ends : (i : ℕ) → i < n → (span_after i ss).stop ≤ (span_after (n - 1) ss).stop

in_first : (ss rs : List Span) (i : ℕ) → i < length ss → span_after i (ss ++ rs) ≡ span_after i ss
in_first ss rs i l = after_middle [] ss rs i i (omega arith) l

in_second : (ss rs : List Span) (i j : ℕ) → j ≡ length ss + i → i < length rs → span_after j (ss ++ rs) ≡ span_after i rs
in_second ss rs i j e l = ap (λ z. span_after j (ss ++ z)) (sym (append-nil rs)) ∙ after_middle ss rs [] i j e l

module _ (text : List ℕ) (lo mid hi : ℕ) (front back : List Token) (f : TokensIn text lo front mid) (b : TokensIn text mid back hi) where
  parted : IsParted (length (spans_in text front)) (spans_in text front ++ spans_in text back)
  parted = record {
    apart = λ i j x y l.
        let e = length-append ss rs in
        let k = some_token text lo front mid f (omega (arith, x)) in
        let m = some_token text mid back hi b (omega (arith, x, y, l, e)) in
        let p = k.fills in
        let q = m.fills in
        let o = after_lies k.«from» k.to ss i x p.inside in
        let u = after_lies m.«from» m.to rs (j - n) (omega (arith, y, l, e)) q.inside in
        let v = ap (λ z. z.stop) (in_first ss rs i x) in
        let w = ap (λ z. z.start) (in_second ss rs (j - n) j (omega (arith, y)) (omega (arith, y, l, e))) in
        omega (arith, o.ends, u.begins, k.ends, m.begins, v, w);
    begins = λ j y l.
        let e = length-append ss rs in
        let m = some_token text mid back hi b (omega (arith, y, l, e)) in
        let q = m.fills in
        let u = after_lies m.«from» m.to rs (j - n) (omega (arith, y, l, e)) q.inside in
        let v = ap (λ z. z.start) (in_second ss rs 0 n (omega arith) (omega (arith, y, l, e))) in
        let w = ap (λ z. z.start) (in_second ss rs (j - n) j (omega (arith, y)) (omega (arith, y, l, e))) in
        omega (arith, following_first q, u.begins, v, w);
    ends = λ i x.
        let k = some_token text lo front mid f (omega (arith, x)) in
        let p = k.fills in
        let o = after_lies k.«from» k.to ss i x p.inside in
        let v = ap (λ z. z.stop) (in_first ss rs i x) in
        let w = ap (λ z. z.stop) (in_first ss rs (n - 1) (omega (arith, x))) in
        omega (arith, o.ends, following_last p (n - 1) (omega (arith, x)), v, w);
  }
    where
      ss : List Span
      ss = spans_in text front

      rs : List Span
      rs = spans_in text back

      n : ℕ
      n = length ss

is_parted : (text : List ℕ) (lo : ℕ) (xs : List Token) (hi n : ℕ) → TokensIn text lo xs hi → are_whole xs n ≡ true
    → IsParted n (spans_in text xs)
is_parted text lo xs hi n h e =
    let r = front_of xs n e in
    let c = split_in text lo r.front r.back hi (subst (λ z. TokensIn text lo z hi) r.is h) in
    let size : length (spans_in text r.front) ≡ n = lengths text r.front (are_sound text lo r.front c.0 c.1) ∙ r.size in
    let spans : spans_in text xs ≡ spans_in text r.front ++ spans_in text r.back =
    ap (spans_in text) r.is ∙ flat_map-append (LineSpans.spans_of text) r.front r.back in
    subst (IsParted n) (sym spans)
    (subst (λ z. IsParted z (spans_in text r.front ++ spans_in text r.back)) size (parted text lo c.0 hi r.front r.back c.1 c.2))

-- ---- From terminals to bytes.

less_or_same : (a b : ℕ) → a ≤ b → (a < b) ⊎ (a ≡ b)
less_or_same zero zero h = inr refl
less_or_same zero (suc b) h = inl (omega arith)
less_or_same (suc a) zero h = absurd (omega (arith, h))
less_or_same (suc a) (suc b) h = elim (less_or_same a b (omega (arith, h))) [ inl x ↦ inl (omega (arith, x)) | inr x ↦ inr (ap suc x) ]

-- a place of whole tokens, and any other
clear_in_bytes : (n : ℕ) (ss : List Span) → ((i : ℕ) → i < length ss → (span_after i ss).start ≤ (span_after i ss).stop) → n ≡ length ss
    → (s t : Stretch) → IsWithin 0 n s → IsWithin 0 n t → IsParted s.first ss → IsParted s.following ss → Law.AreClear s t
    → AreClearSpans (span_of ss s) (span_of ss t)
clear_in_bytes n ss runs e s t v w a b c =
    by (omega (arith, v.some, v.ends, e)) (omega (arith, w.some, w.ends, e)) (omega (arith, v.some, v.ends, e))
    (omega (arith, w.some, w.ends, e)) v.some w.some c
  where
    low : s.first < length ss → t.first < length ss → (t.first < s.first) ⊎ (t.first ≡ s.first)
        → (span_after t.first ss).start ≤ (span_after s.first ss).start
    low f g (inl x) = let k = a.apart t.first s.first x (omega arith) f in let r = runs t.first g in omega (arith, k, r)
    low f g (inr x) = omega (arith, ap (λ k. (span_after k ss).start) x)

    high : t.following - 1 < length ss → s.first < s.following → (s.following < t.following) ⊎ (s.following ≡ t.following)
        → (span_after (s.following - 1) ss).stop ≤ (span_after (t.following - 1) ss).stop
    high g m (inl x) =
        let k = b.apart (s.following - 1) (t.following - 1) (omega (arith, m)) (omega (arith, x)) g in
        let r = runs (t.following - 1) g in omega (arith, k, r)
    high g m (inr x) = omega (arith, ap (λ k. (span_after (k - 1) ss).stop) x)

    by : s.first < length ss → t.first < length ss → s.following - 1 < length ss → t.following - 1 < length ss → s.first < s.following
        → t.first < t.following → Law.AreClear s t → AreClearSpans (span_of ss s) (span_of ss t)
    by f g i j m o (Law.holds x y) = holds_it (a.begins t.first x g) (b.ends (t.following - 1) (omega (arith, o, y)))
    by f g i j m o (Law.is_held x y) =
        held_by_it (low f g (less_or_same t.first s.first x)) (high j m (less_or_same s.following t.following y))
    by f g i j m o (Law.before x) = ends_first (b.apart (s.following - 1) t.first (omega (arith, m)) x g)
    by f g i j m o (Law.following x) = begins_after (a.apart (t.following - 1) s.first (omega (arith, o, x)) (omega arith) f)

turned : {s t : Span} → AreClearSpans s t → AreClearSpans t s
turned (holds_it a b) = held_by_it a b
turned (held_by_it a b) = holds_it a b
turned (ends_first a) = begins_after a
turned (begins_after a) = ends_first a

are_both : (lo hi : ℕ) (ps qs : List Stretch) → AreWithin lo hi ps → AreWithin lo hi qs → AreWithin lo hi (ps ++ qs)
are_both lo hi [] qs h k = k
are_both lo hi (p ∷ ps) qs h k = (h.0, are_both lo hi ps qs h.1 k)

is_one : {lo hi : ℕ} (ps : List Stretch) {s : Stretch} → AreWithin lo hi ps → Law.Contains s ps → IsWithin lo hi s
is_one [] h c = elim c [ ]
is_one (p ∷ ps) h Law.first = h.0
is_one (p ∷ ps) h (Law.later c) = is_one ps h.1 c

-- the place of a span
record PlaceOf (ss : List Span) (rs : List Stretch) (p : Span) : Type 0 where
  place : Stretch
  is : p ≡ span_of ss place
  stands : Law.Contains place rs

place_of : (ss : List Span) (rs : List Stretch) {p : Span} → IsAmong p (spans_of ss rs) → PlaceOf ss rs p
place_of ss [] c = elim c [ ]
place_of ss (r ∷ rs) at_front = record { place = r; is = refl; stands = Law.first }
place_of ss (r ∷ rs) (further_on c) =
    let k = place_of ss rs c in record { place = k.place; is = k.is; stands = Law.later k.stands }

line_is : (ss : List Span) (f : FormPlaces) → spans_in_line (line_of ss f) ≡ spans_of ss (places_in_line f)
line_is ss f =
    ap (λ z. z ++ spans_of ss f.suite) (sym (map-append (span_of ss) f.before f.following))
    ∙ sym (map-append (span_of ss) (f.before ++ f.following) f.suite)

line_laminar : {profile : Profile} {inside : Bool} {f : Form} (text : List ℕ) (lo : ℕ) (xs : List Token) (hi : ℕ)
    (d : F.FormAt profile inside (terminals_in xs) f) → TokensIn text lo xs hi → (p q : Span)
    → IsAmong p (spans_in_line (line_of (spans_in text xs) (places_at d)))
    → IsAmong q (spans_in_line (line_of (spans_in text xs) (places_at d)))
    → AreClearSpans p q ⊎ (StandsInAField xs (spans_in text xs) (places_in_line (places_at d)) p
    × StandsInAField xs (spans_in text xs) (places_in_line (places_at d)) q)
line_laminar {profile} {inside} {f} text lo xs hi d h p q c e =
    let a = place_of ss rs (subst (IsAmong p) (line_is ss (places_at d)) c) in
    let b = place_of ss rs (subst (IsAmong q) (line_is ss (places_at d)) e) in
    by a b (is_of_tokens xs a.place) refl (is_of_tokens xs b.place) refl
  where
    ss : List Span
    ss = spans_in text xs

    rs : List Stretch
    rs = places_in_line (places_at d)

    size : length (terminals_in xs) ≡ length ss
    size = sym (lengths text xs (are_sound text lo xs hi h))

    runs : (i : ℕ) → i < length ss → (span_after i ss).start ≤ (span_after i ss).stop
    runs i l =
        let k = some_token text lo xs hi h (omega (arith, l)) in
        let g = k.fills in
        let o = after_lies k.«from» k.to ss i l g.inside in o.forward

    one : (s : Stretch) → Law.Contains s rs → IsWithin 0 (length (terminals_in xs)) s
    one s c =
        let w = places_are_lawful.tokens profile inside (terminals_in xs) f d in
        is_one rs (are_both 0 (length (terminals_in xs)) ((places_at d).before ++ (places_at d).following) (places_at d).suite
        (are_both 0 (length (terminals_in xs)) (places_at d).before (places_at d).following w.0 w.1) w.2) c

    whole : (s t : Stretch) → Law.Contains s rs → Law.Contains t rs → is_of_tokens xs s ≡ true
        → AreClearSpans (span_of ss s) (span_of ss t)
    whole s t c d0 e =
        let w = and_parts (are_whole xs s.first) (are_whole xs s.following) e in
        clear_in_bytes (length (terminals_in xs)) ss runs size s t (one s c) (one t d0) (is_parted text lo xs hi s.first h w.0)
        (is_parted text lo xs hi s.following h w.1) (places_are_lawful.apart profile inside (terminals_in xs) f d s t c d0)

    plain : (s : Stretch) → Law.Contains s rs → has_fstring xs ≡ false → is_of_tokens xs s ≡ true
    plain s c e =
        let w = one s c in
        let sound = are_sound text lo xs hi h in
        and_from (are_whole xs s.first) (are_whole xs s.following) (plain_whole text xs sound e s.first (omega (arith, w.some, w.ends)))
        (plain_whole text xs sound e s.following w.ends)

    as_given : (a : PlaceOf ss rs p) (b : PlaceOf ss rs q) → AreClearSpans (span_of ss a.place) (span_of ss b.place) → AreClearSpans p q
    as_given a b r = subst (λ z. AreClearSpans z q) (sym a.is) (subst (AreClearSpans (span_of ss a.place)) (sym b.is) r)

    by : (a : PlaceOf ss rs p) (b : PlaceOf ss rs q) (m : Bool) → is_of_tokens xs a.place ≡ m → (n : Bool) → is_of_tokens xs b.place ≡ n
        → AreClearSpans p q ⊎ (StandsInAField xs ss rs p × StandsInAField xs ss rs q)
    by a b true e n o = inl (as_given a b (whole a.place b.place a.stands b.stands e))
    by a b false e true o = inl (as_given a b (turned (whole b.place a.place b.stands a.stands o)))
    by a b false e false o = beside (has_fstring xs) refl
      where
        beside : (m : Bool) → has_fstring xs ≡ m → AreClearSpans p q ⊎ (StandsInAField xs ss rs p × StandsInAField xs ss rs q)
        beside true f = inr (
          record { place = a.place; stands = a.stands; is = a.is; parts = e; fstring = f },
          record { place = b.place; stands = b.stands; is = b.is; parts = o; fstring = f },
        )
        beside false f = inl (as_given a b (whole a.place b.place a.stands b.stands (plain a.place a.stands f)))

module _ (R : Span → Span → Type 0) (clear : (s t : Span) → AreClearSpans s t → R s t) where
  pub lines_laminar : {profile : Profile} {earlier : List Line} {xs : List Tokens.Line} {ys : List Line} (text : List ℕ) (lo hi : ℕ)
      (f : Formed profile earlier xs ys) → LinesIn text lo xs hi → ((s t : Span) → StandInFields (line_spans text) f s t → R s t)
      → LinesLaminar R clear (formed_places (line_spans text) f)
  lines_laminar text lo hi formed_end l beside = tt
  lines_laminar text lo hi (formed_line {x = x} h r) l beside = (
    λ s t c d. elim (line_laminar text lo x.tokens l.0 h.is l.1 s t c d) [ inl k ↦ clear s t k | inr k ↦ beside s t (inl k) ],
    lines_laminar text l.0 hi r l.2 (λ s t b. beside s t (inr b)),
  )
