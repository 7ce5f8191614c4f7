-- The spans of the tokens of a line fill its bytes, and are parted where its terminals are.
--
-- Carries: Filled, filled, Piece, piece, lie, for Simples, Lines. On: TokenLines, Aligned, Filling, TokenWalks.
use Rattle.std.proofs.Common.{◌≡◌, refl, sym, ap, ◌∙◌, subst, ℕ, ◌+◌, ◌-◌, ◌≤◌, arith, List, [], ◌∷◌, ◌++◌, append-nil}
use Rattle.std.proofs.Common.{length, length-append}
use Rattle.std.specs.List.{flat_map}
use Rattle.std.proofs.lemmas.Grind.{flat_map-append}
use Rattle.std.proofs.lemmas.List.Elements.{All-nil, All-cons}
use Rattle.pysource.specs.declared.places.Place.{Place}
use Rattle.pylex_listing.specs.declared.kind.Kind.{Kind}
use Rattle.pylex_listing.specs.declared.kind.Kind.TheVariants as kinds
use Rattle.pytoken.specs.SourceTokens.{IsOfSource}
use Rattle.pytoken.specs.Terminals.{Terminal, terminals_of, terminals_by}
use Rattle.pytoken.specs.Tokens.{Token}
use Rattle.pyparse_marks.specs.Spans.{Span, span}
use Rattle.pyparse_marks.specs.LineSpans.{offset, spans_of}
use Rattle.pyparse_marks.specs.TokenSpans.{token_spans}
use Rattle.pyparse_marks.proofs.Callers.Lines.{tokens_have_spans}
use Rattle.pygrammar.specs.OpenStrings.{open_after_all}
use Rattle.pyplaces.specs.Stretches.{Stretch, span_after, span_of}
use Rattle.pyplaces.specs.Laws.{IsWithin, AreWithin}
use Rattle.pyplaces.specs.Stretches as Stretches
use Rattle.pyplaces.specs.Spans.{LiesBetween, AllLieBetween}
use Rattle.pyplaces.proofs.Order.TokenLines.{IsSound, AreSound, TokensIn, begin_of, end_of, are_sound}
use Rattle.pyplaces.proofs.Order.Aligned.{terminals_in, cut}
use Rattle.pyplaces.proofs.Order.Filling.{Fills, fills_both, between, after_middle}
use Rattle.pyplaces.proofs.Order.TokenWalks.{token_fills}

abbrev pub spans_in : List ℕ → List Token → List Span
spans_in text ts = flat_map (spans_of text) ts

-- ---- As many spans as terminals.

pub one_length : (text : List ℕ) (t : Token) → IsSound t → length (spans_of text t) ≡ length (terminals_of t.kind t.text)
unfolding token_spans terminals_by
one_length text t sound = by t.kind t.start t.text sound
  where
    by : (k : Kind) (p : Place) (cs : List ℕ) → IsSound (record { kind = k; start = p; text = cs })
        → length (token_spans (offset p.row p.column text) k cs) ≡ length (terminals_of k cs)
    by kinds.String p cs sound =
        let t : Token = record { kind = kinds.String; start = p; text = cs } in
        let here : IsOfSource t = (sound.scalars, record { of_kind = sound.string; faultless = sound.faultless }) in
        let all = tokens_have_spans text (t ∷ []) (All-cons IsOfSource t [] here (All-nil IsOfSource)) in
        let left = length-append (spans_of text t) [] in
        let right = length-append (terminals_of kinds.String cs) [] in
        omega (arith, all, left, right)
    by kinds.Name p cs sound = refl
    by kinds.Number p cs sound = refl
    by kinds.Op p cs sound = refl
    by kinds.Comment p cs sound = refl
    by kinds.Encoding p cs sound = refl
    by kinds.Nl p cs sound = refl
    by kinds.Newline p cs sound = refl
    by kinds.Indent p cs sound = refl
    by kinds.Dedent p cs sound = refl
    by kinds.EndMarker p cs sound = refl

pub lengths : (text : List ℕ) (ts : List Token) → AreSound ts → length (spans_in text ts) ≡ length (terminals_in ts)
lengths text [] h = refl
lengths text (t ∷ ts) h =
    omega (
      arith,
      one_length text t h.0,
      lengths text ts h.1,
      length-append (spans_of text t) (spans_in text ts),
      length-append (terminals_of t.kind t.text) (terminals_in ts),
    )

-- ---- Spans that fill.

-- the bytes from the first token to the last, which the spans fill
pub record Filled (text : List ℕ) (lo : ℕ) (ts : List Token) (hi : ℕ) : Type 0 where
  pub from : ℕ
  pub to : ℕ
  pub fills : Fills from to (spans_in text ts)
  pub begins : lo ≤ from
  pub ends : to ≤ hi
  pub tight : TokensIn text from ts to

pub filled : (text : List ℕ) (lo : ℕ) (t : Token) (ts : List Token) (hi : ℕ) → TokensIn text lo (t ∷ ts) hi → Filled text lo (t ∷ ts) hi
filled text lo t [] hi h =
    let own = token_fills (begin_of text t) t.kind t.text (let s = h.0 in s.faultless) in
    record {
      from = begin_of text t;
      to = end_of text t;
      fills = subst (Fills (begin_of text t) (end_of text t)) (sym (append-nil (spans_of text t))) own;
      begins = h.1;
      ends = h.2;
      tight = (h.0, omega arith, omega arith);
    }
filled text lo t (u ∷ ts) hi h =
    let own = token_fills (begin_of text t) t.kind t.text (let s = h.0 in s.faultless) in
    let more = filled text (end_of text t) u ts hi h.2 in
    let inner = more.tight in
    record {
      from = begin_of text t;
      to = more.to;
      fills = fills_both own more.fills more.begins;
      begins = h.1;
      ends = more.ends;
      tight = (h.0, omega arith, (inner.0, (let b = h.2 in b.1), inner.2));
    }

-- ---- Parts of a line.

pub split_in : (text : List ℕ) (lo : ℕ) (ts us : List Token) (hi : ℕ) → TokensIn text lo (ts ++ us) hi
    → (mid : ℕ) × TokensIn text lo ts mid × TokensIn text mid us hi
split_in text lo [] us hi h = (lo, omega arith, h)
split_in text lo (t ∷ ts) us hi h = let r = split_in text (end_of text t) ts us hi h.2 in (r.0, (h.0, h.1, r.1), r.2)

-- tokens of these terminals, and others of those
pub record Piece (text : List ℕ) (lo : ℕ) (ts : List Token) (hi : ℕ) (p q : List Terminal) : Type 0 where
  pub front : List Token
  pub back : List Token
  pub mid : ℕ
  pub front_is : terminals_in front ≡ p
  pub back_is : terminals_in back ≡ q
  pub in_front : TokensIn text lo front mid
  pub in_back : TokensIn text mid back hi
  pub spans : spans_in text ts ≡ spans_in text front ++ spans_in text back
  pub size : length (spans_in text front) ≡ length p

pub piece : (text : List ℕ) (lo : ℕ) (ts : List Token) (hi : ℕ) (p q : List Terminal) → TokensIn text lo ts hi
    → open_after_all [] p ≡ [] → terminals_in ts ≡ p ++ q → Piece text lo ts hi p q
piece text lo ts hi p q h closes e =
    let c = cut ts (are_sound text lo ts hi h) p q closes e in
    let s = split_in text lo c.front c.back hi (subst (λ z. TokensIn text lo z hi) c.whole h) in
    record {
      front = c.front;
      back = c.back;
      mid = s.0;
      front_is = c.front_is;
      back_is = c.back_is;
      in_front = s.1;
      in_back = s.2;
      spans = ap (spans_in text) c.whole ∙ flat_map-append (spans_of text) c.front c.back;
      size = lengths text c.front (are_sound text lo c.front s.0 s.1) ∙ ap length c.front_is;
    }

-- ---- Stretches of a part.

-- a stretch of some terminals lies in the bytes that their spans fill
pub lie : {lo hi at following : ℕ} (before ss after : List Span) → Fills lo hi ss → length before ≡ at → following ≡ at + length ss
    → (s : Stretch) → IsWithin at following s → LiesBetween lo hi (span_of (before ++ (ss ++ after)) s)
lie {lo} {hi} before ss after f e size s w =
    let whole = before ++ (ss ++ after) in
    let i = s.first - length before in
    let j = (s.following - 1) - length before in
    let b = w.begins in
    let m = w.some in
    let n = w.ends in
    let first : span_after s.first whole ≡ span_after i ss =
    after_middle before ss after i s.first (omega (arith, e, b)) (omega (arith, e, size, b, m, n)) in
    let last : span_after (s.following - 1) whole ≡ span_after j ss =
    after_middle before ss after j (s.following - 1) (omega (arith, e, b, m)) (omega (arith, e, size, b, m, n)) in
    let inner = between f i j (omega (arith, b, m)) (omega (arith, e, size, b, m, n)) in
    subst (λ z. LiesBetween lo hi (span z.start (span_after (s.following - 1) whole).stop)) (sym first)
    (subst (λ z. LiesBetween lo hi (span (span_after i ss).start z.stop)) (sym last) inner)

pub all_lie : {lo hi at following : ℕ} (before ss after : List Span) → Fills lo hi ss → length before ≡ at → following ≡ at + length ss
    → (rs : List Stretch) → AreWithin at following rs → AllLieBetween lo hi (Stretches.spans_of (before ++ (ss ++ after)) rs)
all_lie before ss after f e size [] w = tt
all_lie before ss after f e size (s ∷ rs) w = (lie before ss after f e size s w.0, all_lie before ss after f e size rs w.1)
