-- The simple statements of a line stand in order, and the span of each holds those of its parts.
--
-- Carries: SimplesIn, simples_in, for Lines. On: LineSpans, Counted.
use Rattle.std.proofs.Common.{◌≡◌, refl, sym, ap, ◌∙◌, subst, ℕ, ◌+◌, ◌-◌, ◌<◌, ◌≤◌, arith, List, [], ◌∷◌, ◌++◌, append-nil}
use Rattle.std.proofs.Common.{append_assoc, length, length-append, take, drop}
use Rattle.std.proofs.lemmas.List.{map-append, length-map}
use Rattle.std.proofs.Math.Seq.{drop-append_seam, take-append_seam}
use Rattle.pylex_lexeme.specs.declared.kinds.Exact.TheVariants as Sign
use Rattle.pytree_node.specs.declared.profiles.Profile.{Profile}
use Rattle.pytree_node.specs.Trees.{Stmt}
use Rattle.pytree_dump_text.specs.Shows.{shown_stmt}
use Rattle.pytree_marked.specs.MarkedNodes.{marked}
use Rattle.pytoken.specs.Terminals.{Terminal, Op}
use Rattle.pytoken.specs.Tokens.{Token}
use Rattle.pygrammar.specs.Forms as F
use Rattle.pygrammar.proofs.Callers.OpenStrings.{simple_closes}
use Rattle.pyplaces.specs.Stretches.{Span, Stretch, stretch, span_of, spans_of}
use Rattle.pyplaces.specs.FormPlaces.{field_places, simple_places, simples_places}
use Rattle.pyplaces.specs.Laws.{IsWithin, AreWithin, last_of, statement_spans, AreInOrder}
use Rattle.pyplaces.proofs.Laws.Law.{places_are_lawful}
use Rattle.pyplaces.specs.Spans.{AllLieBetween}
use Rattle.pyplaces.specs.Nesting.{in_decorators, HoldsItsParts, AllHoldTheirParts}
use Rattle.pyplaces.proofs.Laws.Forms.{count_simple}
use Rattle.pyplaces.proofs.Order.TokenLines.{TokensIn, forward}
use Rattle.pyplaces.proofs.Order.Aligned.{terminals_in}
use Rattle.pyplaces.proofs.Order.Filling.{ordered, following_first, following_last, after_middle}
use Rattle.pyplaces.proofs.Order.LineSpans.{spans_in, Filled, filled, piece, all_lie}

-- ---- The stretches of a simple statement.

snoc_last : (as_ bs : List Stretch) (a b : Stretch) → as_ ++ (a ∷ []) ≡ bs ++ (b ∷ []) → (as_ ≡ bs) × (a ≡ b)
snoc_last [] [] a b e = let same : a ≡ b = cc in (refl, same)
snoc_last [] (c ∷ bs) a b e = absurd (omega (arith, ap length e, length-append bs (b ∷ [])))
snoc_last (c ∷ as_) [] a b e = absurd (omega (arith, ap length e, length-append as_ (a ∷ [])))
snoc_last (c ∷ as_) (d ∷ bs) a b e =
    let first : c ≡ d = cc in
    let rest : as_ ++ (a ∷ []) ≡ bs ++ (b ∷ []) = cc in
    let r = snoc_last as_ bs a b rest in
    (ap (λ z. c ∷ z) r.0 ∙ ap (λ z. z ∷ bs) first, r.1)

-- those of its parts lie within it, and it has a terminal
record Held {profile : Profile} {ts : List Terminal} {s : Stmt} (at : ℕ) (d : F.Simple profile ts s) : Type 0 where
  parts : AreWithin at (at + length ts) (field_places at d)
  own : IsWithin at (at + length ts) (stretch at (at + length ts))

held : {profile : Profile} {ts : List Terminal} {s : Stmt} (at : ℕ) (d : F.Simple profile ts s) → Held at d
held {profile} {ts} {s} at d =
    let r = places_are_lawful.nested.statements profile ts s at d in
    let e = snoc_last (field_places at d) r.fields (stretch at (at + length ts)) r.own r.are in
    record {
      parts = subst (λ z. AreWithin at (at + length ts) z) (sym e.0)
          (subst (λ (z : Stretch). AreWithin z.first z.following r.fields) (sym e.1) r.holds);
      own = subst (IsWithin at (at + length ts)) (sym e.1) r.within;
    }

no_decorators : {profile : Profile} {ts : List Terminal} {s : Stmt} → F.Simple profile ts s → 0 ≡ in_decorators s
no_decorators (F.value p) = refl
no_decorators (F.assign t p) = refl
no_decorators (F.augmented_assign x t h p) = refl
no_decorators (F.annotated_name p v) = refl
no_decorators (F.annotated_group t p v) = refl
no_decorators (F.annotated_part t h p v) = refl
no_decorators (F.type_alias h c p) = refl
no_decorators (F.return_of p) = refl
no_decorators F.raise_alone = refl
no_decorators (F.raise_of p c) = refl
no_decorators (F.assert_of p c) = refl
no_decorators (F.delete c) = refl
no_decorators (F.global c) = refl
no_decorators (F.nonlocal c) = refl
no_decorators F.pass = refl
no_decorators F.break = refl
no_decorators F.continue = refl
no_decorators (F.import_names c) = refl
no_decorators (F.from_module d m c) = refl
no_decorators (F.from_dots d h c) = refl

-- ---- The spans of a simple statement.

-- its own span holds what is in it, and lies between two bytes
pub record StatementIn (profile : Profile) (lo : ℕ) (s : Stmt) (ps : List Span) (hi : ℕ) : Type 0 where
  pub root : HoldsItsParts s ps
  pub begins : lo ≤ root.own.start
  pub ends : root.own.stop ≤ hi
  pub count : length ps ≡ marked (shown_stmt profile s)

pub some_token : (text : List ℕ) (lo : ℕ) (ts : List Token) (hi : ℕ) → TokensIn text lo ts hi → 0 < length (spans_in text ts)
    → Filled text lo ts hi
some_token text lo [] hi h l = absurd (omega (arith, l))
some_token text lo (t ∷ ts) hi h l = filled text lo t ts hi h

simple_in : {profile : Profile} {ts : List Terminal} {s : Stmt} (text : List ℕ) (lo : ℕ) (xs : List Token) (hi : ℕ) (at : ℕ)
    (before after : List Span) (d : F.Simple profile ts s) → length before ≡ at → length (spans_in text xs) ≡ length ts
    → TokensIn text lo xs hi
    → StatementIn profile lo s (spans_of (before ++ (spans_in text xs ++ after)) (simple_places at d)) hi
simple_in {profile} {ts} {s} text lo xs hi at before after d e size h =
    let ss = spans_in text xs in
    let whole = before ++ (ss ++ after) in
    let k = held at d in
    let o = k.own in
    let f = some_token text lo xs hi h (omega (arith, size, o.some)) in
    let own = span_of whole (stretch at (at + length ts)) in
    let count = count_simple {profile = profile} at d in
    let start : own.start ≡ f.from =
    ap (λ z. z.start) (after_middle before ss after 0 at (omega (arith, e)) (omega (arith, size, o.some))) ∙ following_first f.fills in
    let last = length ts - 1 in
    let stop : own.stop ≡ f.to =
    ap (λ z. z.stop) (after_middle before ss after last (at + length ts - 1) (omega (arith, e, o.some)) (omega (arith, size, o.some)))
    ∙ following_last f.fills last (omega (arith, size, o.some)) in
    let parts = all_lie before ss after f.fills e (omega (arith, size)) (field_places at d) k.parts in
    let fields = spans_of whole (field_places at d) in
    let holds : AllLieBetween own.start own.stop fields =
    subst (λ n. AllLieBetween n own.stop fields) (sym start) (subst (λ n. AllLieBetween f.from n fields) (sym stop) parts) in
    record {
      root = record {
        inside = fields;
        beside = [];
        further = [];
        own = own;
        are = map-append (span_of whole) (field_places at d) (stretch at (at + length ts) ∷ []);
        decorators = no_decorators d;
        forward = omega (arith, start, stop, ordered f.fills);
        holds = subst (AllLieBetween own.start own.stop) (sym (append-nil fields)) holds;
        apart = tt;
      };
      begins = omega (arith, start, f.begins);
      ends = omega (arith, stop, f.ends);
      count = length-map (simple_places at d) (span_of whole) ∙ count.is;
    }

-- ---- Statements in order.

-- the spans of some statements between two bytes
pub record SimplesIn (profile : Profile) (lo : ℕ) (ss : List Stmt) (ps : List Span) (hi : ℕ) : Type 0 where
  pub order : AreInOrder lo (statement_spans profile ss ps) hi
  pub rooted : AllHoldTheirParts profile ss ps

pub last_is : (fs : List Span) (o : Span) → last_of (fs ++ (o ∷ [])) ≡ o ∷ []
last_is [] o = refl
last_is (f ∷ []) o = refl
last_is (f ∷ (g ∷ fs)) o = last_is (g ∷ fs) o

pub order_lower : (low lo : ℕ) (ps : List Span) (hi : ℕ) → low ≤ lo → AreInOrder lo ps hi → AreInOrder low ps hi
order_lower low lo [] hi a h = omega (arith, a, h)
order_lower low lo (p ∷ ps) hi a h = (omega (arith, a, h.0), h.1, h.2)

pub none_in : (profile : Profile) (lo hi : ℕ) → lo ≤ hi → SimplesIn profile lo [] [] hi
none_in profile lo hi h = record { order = h; rooted = refl }

pub three : (as_ bs cs ds : List Span) → as_ ++ (bs ++ (cs ++ ds)) ≡ (as_ ++ (bs ++ cs)) ++ ds
three as_ bs cs ds = simp append_assoc refl

-- a statement and others after it
pub more_in : {profile : Profile} {lo mid hi : ℕ} {s : Stmt} {ss : List Stmt} {ps qs : List Span} → StatementIn profile lo s ps mid
    → SimplesIn profile mid ss qs hi → SimplesIn profile lo (s ∷ ss) (ps ++ qs) hi
more_in {profile} {lo} {mid} {hi} {s} {ss} {ps} {qs} a b =
    let n = marked (shown_stmt profile s) in
    let r = a.root in
    let own = r.own in
    let fields = r.inside ++ (r.beside ++ r.further) in
    let are : ps ≡ fields ++ (own ∷ []) = r.are ∙ three r.inside r.beside r.further (own ∷ []) in
    let front : take n (ps ++ qs) ≡ ps = ap (λ z. take z (ps ++ qs)) (sym a.count) ∙ take-append_seam ps qs in
    let back : drop n (ps ++ qs) ≡ qs = ap (λ z. drop z (ps ++ qs)) (sym a.count) ∙ drop-append_seam ps qs in
    let spans : statement_spans profile (s ∷ ss) (ps ++ qs) ≡ own ∷ statement_spans profile ss qs =
    ap (λ z. last_of z ++ statement_spans profile ss (drop n (ps ++ qs))) (front ∙ are)
    ∙ (ap (λ z. z ++ statement_spans profile ss (drop n (ps ++ qs))) (last_is fields own)
    ∙ ap (λ z. own ∷ statement_spans profile ss z) back) in
    record {
      order = subst (λ z. AreInOrder lo z hi) (sym spans)
          (a.begins, r.forward, order_lower own.stop mid (statement_spans profile ss qs) hi a.ends b.order);
      rooted = (subst (HoldsItsParts s) (sym front) r, subst (AllHoldTheirParts profile ss) (sym back) b.rooted);
    }

-- one statement, and perhaps tokens after it
pub one_in : {profile : Profile} {lo mid hi : ℕ} {s : Stmt} {ps : List Span} → StatementIn profile lo s ps mid → mid ≤ hi
    → SimplesIn profile lo (s ∷ []) ps hi
one_in {profile} {lo} {mid} {hi} {s} {ps} a h =
    subst (λ z. SimplesIn profile lo (s ∷ []) z hi) (append-nil ps) (more_in a (none_in profile mid hi h))

pub simples_in : {profile : Profile} {ts : List Terminal} {ss : List Stmt} (text : List ℕ) (lo : ℕ) (xs : List Token) (hi : ℕ)
    (at : ℕ) (before : List Span) (c : F.Simples profile ts ss) → length before ≡ at → terminals_in xs ≡ ts → TokensIn text lo xs hi
    → SimplesIn profile lo ss (spans_of (before ++ spans_in text xs) (simples_places at c)) hi
simples_in {profile} text lo xs hi at before (F.last_simple {ts = ts} {s = s} p) e is h =
    let r = piece text lo xs hi ts [] h (simple_closes p []) (is ∙ sym (append-nil ts)) in
    let one = simple_in text lo r.front r.mid at before (spans_in text r.back) p e r.size r.in_front in
    subst (λ z. SimplesIn profile lo (s ∷ []) (spans_of (before ++ z) (simple_places at p)) hi) (sym r.spans)
    (one_in one (forward text r.mid r.back hi r.in_back))
simples_in {profile} text lo xs hi at before (F.ended_simple {ts = ts} {s = s} p) e is h =
    let r = piece text lo xs hi ts (Op Sign.Semi ∷ []) h (simple_closes p []) is in
    let one = simple_in text lo r.front r.mid at before (spans_in text r.back) p e r.size r.in_front in
    subst (λ z. SimplesIn profile lo (s ∷ []) (spans_of (before ++ z) (simple_places at p)) hi) (sym r.spans)
    (one_in one (forward text r.mid r.back hi r.in_back))
simples_in {profile} text lo xs hi at before (F.more_simples {ts = ts} {us = us} {s = s} {ss = ss} p c) e is h =
    let r = piece text lo xs hi ts (Op Sign.Semi ∷ us) h (simple_closes p []) is in
    let q = piece text r.mid r.back hi (Op Sign.Semi ∷ []) us r.in_back refl r.back_is in
    let one = simple_in text lo r.front r.mid at before (spans_in text r.back) p e r.size r.in_front in
    let next = 1 + (at + length ts) in
    let front = spans_in text r.front in
    let semi = spans_in text q.front in
    let others = spans_in text q.back in
    let earlier = before ++ (front ++ semi) in
    let size : length earlier ≡ next =
    omega (arith, length-append before (front ++ semi), length-append front semi, e, r.size, q.size) in
    let more = simples_in text q.mid q.back hi next earlier c size q.back_is q.in_back in
    let lists : earlier ++ others ≡ before ++ spans_in text xs =
    append_assoc before (front ++ semi) others ∙ ap (λ z. before ++ z) (append_assoc front semi others
    ∙ (ap (λ z. front ++ z) (sym q.spans) ∙ sym r.spans)) in
    let whole = before ++ spans_in text xs in
    let a : StatementIn profile lo s (spans_of whole (simple_places at p)) r.mid =
    subst (λ z. StatementIn profile lo s (spans_of (before ++ z) (simple_places at p)) r.mid) (sym r.spans) one in
    let b : SimplesIn profile q.mid ss (spans_of whole (simples_places next c)) hi =
    subst (λ z. SimplesIn profile q.mid ss (spans_of z (simples_places next c)) hi) lists more in
    let low = forward text r.mid q.front q.mid q.in_front in
    let c1 : SimplesIn profile r.mid ss (spans_of whole (simples_places next c)) hi = record {
      order = order_lower r.mid q.mid (statement_spans profile ss (spans_of whole (simples_places next c))) hi low b.order;
      rooted = b.rooted;
    } in
    subst (λ z. SimplesIn profile lo (s ∷ ss) z hi) (sym (map-append (span_of whole) (simple_places at p) (simples_places next c)))
    (more_in a c1)
