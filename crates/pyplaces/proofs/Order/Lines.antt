-- The lines of an accepted source stand in order, and the statements in each; what is in a line lies in it.
--
-- Carries: LineLies, LinesLie, lines_lie, for Law, Blocks. On: LineSpans, Simples.
use Rattle.std.proofs.Common.{◌≡◌, refl, sym, ap, ◌∙◌, subst, ℕ, ◌+◌, ◌<◌, ◌≤◌, arith, Bool, List, [], ◌∷◌, ◌++◌, append-nil}
use Rattle.std.proofs.Common.{append_assoc, length, length-append, Some, None}
use Rattle.pylex_lexeme.specs.declared.kinds.Exact.TheVariants as Sign
use Rattle.pytree_node.specs.declared.profiles.Profile.{Profile}
use Rattle.pytree_node.specs.Trees.{Stmt}
use Rattle.pytoken.specs.Terminals.{Terminal, Op}
use Rattle.pytoken.specs.Tokens as Tokens
use Rattle.pytoken.specs.Tokens.{Token}
use Rattle.pyparse_marks.specs.LineSpans.{line_spans}
use Rattle.pygrammar.specs.Forms as F
use Rattle.pygrammar.specs.Lines.{Line, Form, simple_form, decorator_form, header_form}
use Rattle.pygrammar.specs.OpenStrings.{open_after_all}
use Rattle.pygrammar.specs.Refusals.{Formed, formed_end, formed_line}
use Rattle.pygrammar.proofs.Callers.OpenStrings.{header_closes, case_closes}
use Rattle.pyplaces.specs.Stretches.{Span, span, Stretch, spans_of}
use Rattle.pyplaces.specs.FormPlaces.{simples_places, places_at}
use Rattle.pyplaces.specs.BlockPlaces.{LinePlaces, whole_of, line_of}
use Rattle.pyplaces.specs.ModulePlaces.{formed_places}
use Rattle.pyplaces.specs.Laws.{AreWithin, statement_spans, AreInOrder, statements_in, LinesInOrder, no_line, a_line}
use Rattle.pyplaces.proofs.Laws.Law.{places_are_lawful}
use Rattle.pyplaces.specs.Spans.{AllLieBetween}
use Rattle.pyplaces.specs.Nesting.{AllHoldTheirParts}
use Rattle.pyplaces.proofs.Order.TokenLines.{AreSound, TokensIn, LinesIn, are_sound, forward}
use Rattle.pyplaces.proofs.Order.Aligned.{terminals_in}
use Rattle.pyplaces.proofs.Order.Filling.{Fills, ordered}
use Rattle.pyplaces.proofs.Order.LineSpans.{spans_in, lengths, Filled, piece, all_lie}
use Rattle.pyplaces.proofs.Order.Simples.{SimplesIn, some_token, order_lower, simples_in}

-- ---- A line has a terminal.

simple_some : {profile : Profile} {ts : List Terminal} {s : Stmt} → F.Simple profile ts s → 0 < length ts
simple_some {profile} {ts} {s} d =
    let r = places_are_lawful.nested.statements profile ts s 0 d in
    let w = r.within in
    omega (arith, w.begins, w.some, w.ends)

simples_some : {profile : Profile} {ts : List Terminal} {ss : List Stmt} → F.Simples profile ts ss → 0 < length ts
simples_some (F.last_simple p) = simple_some p
simples_some (F.ended_simple {ts = ts} p) = omega (arith, length-append ts (Op Sign.Semi ∷ []))
simples_some (F.more_simples {ts = ts} {us = us} p c) = omega (arith, length-append ts (Op Sign.Semi ∷ us))

form_some : {profile : Profile} {inside : Bool} {ts : List Terminal} {f : Form} → F.FormAt profile inside ts f → 0 < length ts
form_some (F.other_line h (F.simple_statements c)) = simples_some c
form_some (F.other_line h (F.decorator_line p)) = omega arith
form_some (F.other_line h (F.header_line {ts = ts} p)) = omega (arith, length-append ts (Op Sign.Colon ∷ []))
form_some (F.other_line h (F.header_suite {ts = ts} {us = us} p c)) = omega (arith, length-append ts (Op Sign.Colon ∷ us))
form_some (F.other_line h (F.match_line form w p)) = omega arith
form_some (F.case_alone {ts = ts} h c) = omega (arith, length-append ts (Op Sign.Colon ∷ []))
form_some (F.case_suite {ts = ts} {us = us} h c s) = omega (arith, length-append ts (Op Sign.Colon ∷ us))

-- ---- The bytes of a line.

whole_first : (s : Span) (ss : List Span) → (whole_of (s ∷ ss)).start ≡ s.start
whole_first s [] = refl
whole_first s (t ∷ ss) = refl

whole_last : (es : List Span) (s : Span) → (whole_of (es ++ (s ∷ []))).stop ≡ s.stop
whole_last [] s = refl
whole_last (e ∷ []) s = refl
whole_last (e ∷ (d ∷ es)) s = whole_last (d ∷ es) s

whole_is : {lo hi : ℕ} {ss : List Span} → Fills lo hi ss → whole_of ss ≡ span lo hi
whole_is {lo} {hi} {ss} f =
    let start : (whole_of ss).start ≡ lo = ap (λ z. (whole_of z).start) f.from_first ∙ (whole_first f.first f.later ∙ f.begins) in
    let stop : (whole_of ss).stop ≡ hi = ap (λ z. (whole_of z).stop) f.to_last ∙ (whole_last f.earlier f.last ∙ f.ends) in
    ap (λ n. span n (whole_of ss).stop) start ∙ ap (λ n. span lo n) stop

-- ---- The statements in a line.

abbrev pub SuiteRooted : Profile → Form → List Span → Type 0
SuiteRooted profile (simple_form ss) ps = AllHoldTheirParts profile ss ps
SuiteRooted profile (decorator_form e) ps = Unit {0}
SuiteRooted profile (header_form h None) ps = Unit {0}
SuiteRooted profile (header_form h (Some ss)) ps = AllHoldTheirParts profile ss ps

record SuiteIn (profile : Profile) (lo : ℕ) (f : Form) (ps : List Span) (hi : ℕ) : Type 0 where
  order : AreInOrder lo (statement_spans profile (statements_in f) ps) hi
  rooted : SuiteRooted profile f ps

-- statements after the colon of a header
after_colon : {profile : Profile} {us : List Terminal} {ss : List Stmt} (text : List ℕ) (lo : ℕ) (xs : List Token) (hi : ℕ)
    (ts : List Terminal) (c : F.Simples profile us ss) → open_after_all [] ts ≡ [] → terminals_in xs ≡ ts ++ (Op Sign.Colon ∷ us)
    → TokensIn text lo xs hi → SimplesIn profile lo ss (spans_of (spans_in text xs) (simples_places (1 + length ts) c)) hi
after_colon {profile} {us} {ss} text lo xs hi ts c closes is h =
    let r = piece text lo xs hi ts (Op Sign.Colon ∷ us) h closes is in
    let q = piece text r.mid r.back hi (Op Sign.Colon ∷ []) us r.in_back refl r.back_is in
    let front = spans_in text r.front in
    let colon = spans_in text q.front in
    let others = spans_in text q.back in
    let size : length (front ++ colon) ≡ 1 + length ts = omega (arith, length-append front colon, r.size, q.size) in
    let inner = simples_in text q.mid q.back hi (1 + length ts) (front ++ colon) c size q.back_is q.in_back in
    let lists : (front ++ colon) ++ others ≡ spans_in text xs =
    append_assoc front colon others ∙ (ap (λ z. front ++ z) (sym q.spans) ∙ sym r.spans) in
    let there = subst (λ z. SimplesIn profile q.mid ss (spans_of z (simples_places (1 + length ts) c)) hi) lists inner in
    let low = forward text lo r.front r.mid r.in_front in
    let mid = forward text r.mid q.front q.mid q.in_front in
    record {
      order = order_lower lo q.mid (statement_spans profile ss (spans_of (spans_in text xs) (simples_places (1 + length ts) c))) hi
          (omega (arith, low, mid)) there.order;
      rooted = there.rooted;
    }

suite_in : {profile : Profile} {inside : Bool} {ts : List Terminal} {f : Form} (text : List ℕ) (lo : ℕ) (xs : List Token) (hi : ℕ)
    (d : F.FormAt profile inside ts f) → terminals_in xs ≡ ts → TokensIn text lo xs hi
    → SuiteIn profile lo f (spans_of (spans_in text xs) (places_at d).suite) hi
suite_in text lo xs hi (F.other_line w (F.simple_statements c)) is h =
    let r = simples_in text lo xs hi 0 [] c refl is h in record { order = r.order; rooted = r.rooted }
suite_in text lo xs hi (F.other_line w (F.decorator_line p)) is h = record { order = forward text lo xs hi h; rooted = tt }
suite_in text lo xs hi (F.other_line w (F.header_line p)) is h = record { order = forward text lo xs hi h; rooted = tt }
suite_in text lo xs hi (F.other_line w (F.header_suite {ts = ts} p c)) is h =
    let r = after_colon text lo xs hi ts c (header_closes p []) is h in record { order = r.order; rooted = r.rooted }
suite_in text lo xs hi (F.other_line w (F.match_line form v p)) is h = record { order = forward text lo xs hi h; rooted = tt }
suite_in text lo xs hi (F.case_alone w c) is h = record { order = forward text lo xs hi h; rooted = tt }
suite_in text lo xs hi (F.case_suite {ts = ts} w c s) is h =
    let r = after_colon text lo xs hi ts s (case_closes c []) is h in record { order = r.order; rooted = r.rooted }

-- ---- A line.

-- the spans of what stands in a line lie in it, its statements in order, and each holds what is in it
pub record LineLies (profile : Profile) (f : Form) (z : LinePlaces) : Type 0 where
  pub forward : z.whole.start ≤ z.whole.stop
  pub before : AllLieBetween z.whole.start z.whole.stop z.before
  pub following : AllLieBetween z.whole.start z.whole.stop z.following
  pub suite : AllLieBetween z.whole.start z.whole.stop z.suite
  pub order : AreInOrder z.whole.start (statement_spans profile (statements_in f) z.suite) z.whole.stop
  pub rooted : SuiteRooted profile f z.suite

all_in : {lo hi n : ℕ} (ss : List Span) → Fills lo hi ss → n ≡ length ss → (rs : List Stretch) → AreWithin 0 n rs
    → AllLieBetween lo hi (spans_of ss rs)
all_in {lo} {hi} ss f e rs w =
    subst (λ z. AllLieBetween lo hi (spans_of z rs)) (append-nil ss) (all_lie [] ss [] f refl (omega (arith, e)) rs w)

line_lies : {profile : Profile} {inside : Bool} {f : Form} (text : List ℕ) (lo : ℕ) (xs : List Token) (hi : ℕ)
    (d : F.FormAt profile inside (terminals_in xs) f) → (g : Filled text lo xs hi) → AreSound xs
    → LineLies profile f (line_of (spans_in text xs) (places_at d))
line_lies {profile} {inside} {f} text lo xs hi d g sound =
    let ss = spans_in text xs in
    let is : whole_of ss ≡ span g.from g.to = whole_is g.fills in
    let w = places_are_lawful.tokens profile inside (terminals_in xs) f d in
    let size : length (terminals_in xs) ≡ length ss = sym (lengths text xs sound) in
    let s = suite_in text g.from xs g.to d refl g.tight in
    let lies : LineLies profile f (record {
      whole = span g.from g.to;
      before = spans_of ss (places_at d).before;
      following = spans_of ss (places_at d).following;
      suite = spans_of ss (places_at d).suite;
    }) = record {
      forward = ordered g.fills;
      before = all_in ss g.fills size (places_at d).before w.0;
      following = all_in ss g.fills size (places_at d).following w.1;
      suite = all_in ss g.fills size (places_at d).suite w.2;
      order = s.order;
      rooted = s.rooted;
    } in
    subst (λ z. LineLies profile f (record {
      whole = z;
      before = spans_of ss (places_at d).before;
      following = spans_of ss (places_at d).following;
      suite = spans_of ss (places_at d).suite;
    })) (sym is) lies

-- ---- Lines.

-- so it is with each line, and each ends before the next begins
pub data LinesLie (profile : Profile) : ℕ → List Line → List LinePlaces → ℕ → Type 0 where
  no_more : {lo hi : ℕ} → lo ≤ hi → LinesLie profile lo [] [] hi
  one_more : {lo hi : ℕ} {x : Line} {xs : List Line} {z : LinePlaces} {zs : List LinePlaces} → lo ≤ z.whole.start
      → LineLies profile x.form z → LinesLie profile z.whole.stop xs zs hi → LinesLie profile lo (x ∷ xs) (z ∷ zs) hi

pub in_order : {profile : Profile} {lo hi : ℕ} {xs : List Line} {zs : List LinePlaces} → LinesLie profile lo xs zs hi
    → LinesInOrder profile lo xs zs hi
in_order (no_more h) = no_line h
in_order (one_more a l o) = a_line a l.forward l.order (in_order o)

pub lie_lower : {profile : Profile} {low lo hi : ℕ} {xs : List Line} {zs : List LinePlaces} → low ≤ lo → LinesLie profile lo xs zs hi
    → LinesLie profile low xs zs hi
lie_lower a (no_more h) = no_more (omega (arith, a, h))
lie_lower a (one_more b l o) = one_more (omega (arith, a, b)) l o

pub lines_lie : {profile : Profile} {earlier : List Line} {xs : List Tokens.Line} {ys : List Line} (text : List ℕ) (lo hi : ℕ)
    (f : Formed profile earlier xs ys) → LinesIn text lo xs hi → LinesLie profile lo ys (formed_places (line_spans text) f) hi
lines_lie text lo hi formed_end h = no_more h
lines_lie {profile} text lo hi (formed_line {x = x} h r) l =
    let sound = are_sound text lo x.tokens l.0 l.1 in
    let size = lengths text x.tokens sound in
    let g = some_token text lo x.tokens l.0 l.1 (omega (arith, size, form_some h.is)) in
    let is : whole_of (spans_in text x.tokens) ≡ span g.from g.to = whole_is g.fills in
    let start : (whole_of (spans_in text x.tokens)).start ≡ g.from = ap (λ z. z.start) is in
    let stop : (whole_of (spans_in text x.tokens)).stop ≡ g.to = ap (λ z. z.stop) is in
    one_more (omega (arith, start, g.begins)) (line_lies text lo x.tokens l.0 h.is g sound)
    (lie_lower (omega (arith, stop, g.ends)) (lines_lie text l.0 hi r l.2))
