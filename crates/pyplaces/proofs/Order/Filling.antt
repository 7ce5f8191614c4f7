-- Spans that fill some bytes: the first begins where these begin, the last ends where they end, and no later one ends before an earlier
-- one begins.
--
-- Carries: Rises, Fills and their lemmas, for Walks, LineSpans.
use Rattle.std.proofs.Common.{◌≡◌, refl, sym, ap, ◌∙◌, subst, ℕ, zero, suc, ◌+◌, ◌<◌, ◌≤◌, arith, List, [], ◌∷◌, ◌++◌, append_assoc}
use Rattle.std.proofs.Common.{length, length-append}
use Rattle.pyparse_marks.specs.Spans.{Span, span}
use Rattle.pyplaces.specs.Stretches.{span_after}
use Rattle.pyplaces.specs.Spans.{LiesBetween, AllLieBetween}

-- ---- Spans in some bytes.

pub all_wide : (lo hi low high : ℕ) (ss : List Span) → low ≤ lo → hi ≤ high → AllLieBetween lo hi ss → AllLieBetween low high ss
all_wide lo hi low high [] a b h = tt
all_wide lo hi low high (s ∷ ss) a b h =
    let l = h.0 in (
      record { begins = omega (arith, a, l.begins); forward = l.forward; ends = omega (arith, b, l.ends) },
      all_wide lo hi low high ss a b h.1,
    )

pub all_both : (lo hi : ℕ) (ss rs : List Span) → AllLieBetween lo hi ss → AllLieBetween lo hi rs → AllLieBetween lo hi (ss ++ rs)
all_both lo hi [] rs h k = k
all_both lo hi (s ∷ ss) rs h k = (h.0, all_both lo hi ss rs h.1 k)

-- ---- Spans that rise.

-- all begin here or before it, or end here or after it
abbrev pub Starts : ℕ → List Span → Type 0
Starts n [] = Unit {0}
Starts n (s ∷ ss) = (s.start ≤ n) × Starts n ss

abbrev pub Stops : ℕ → List Span → Type 0
Stops n [] = Unit {0}
Stops n (s ∷ ss) = (n ≤ s.stop) × Stops n ss

abbrev pub Rises : List Span → Type 0
Rises [] = Unit {0}
Rises (s ∷ ss) = Stops s.start ss × Rises ss

pub starts_later : (m n : ℕ) (ss : List Span) → m ≤ n → Starts m ss → Starts n ss
starts_later m n [] a h = tt
starts_later m n (s ∷ ss) a h = (omega (arith, a, h.0), starts_later m n ss a h.1)

pub stops_earlier : (m n : ℕ) (ss : List Span) → m ≤ n → Stops n ss → Stops m ss
stops_earlier m n [] a h = tt
stops_earlier m n (s ∷ ss) a h = (omega (arith, a, h.0), stops_earlier m n ss a h.1)

pub starts_both : (n : ℕ) (ss rs : List Span) → Starts n ss → Starts n rs → Starts n (ss ++ rs)
starts_both n [] rs h k = k
starts_both n (s ∷ ss) rs h k = (h.0, starts_both n ss rs h.1 k)

stops_both : (n : ℕ) (ss rs : List Span) → Stops n ss → Stops n rs → Stops n (ss ++ rs)
stops_both n [] rs h k = k
stops_both n (s ∷ ss) rs h k = (h.0, stops_both n ss rs h.1 k)

-- all of the first begin at a byte or before it, and all of the others end there or after it
pub rises_both : (n : ℕ) (ss rs : List Span) → Rises ss → Rises rs → Starts n ss → Stops n rs → Rises (ss ++ rs)
rises_both n [] rs h k a b = k
rises_both n (s ∷ ss) rs h k a b =
    (stops_both s.start ss rs h.0 (stops_earlier s.start n rs a.0 b), rises_both n ss rs h.1 k a.1 b)

starts_by : (lo hi : ℕ) (ss : List Span) → AllLieBetween lo hi ss → Starts hi ss
starts_by lo hi [] h = tt
starts_by lo hi (s ∷ ss) h = let l = h.0 in (omega (arith, l.forward, l.ends), starts_by lo hi ss h.1)

stops_by : (lo hi : ℕ) (ss : List Span) → AllLieBetween lo hi ss → Stops lo ss
stops_by lo hi [] h = tt
stops_by lo hi (s ∷ ss) h = let l = h.0 in (omega (arith, l.forward, l.begins), stops_by lo hi ss h.1)

-- ---- Spans that fill.

pub record Fills (lo hi : ℕ) (ss : List Span) : Type 0 where
  pub first : Span
  pub later : List Span
  pub from_first : ss ≡ first ∷ later
  pub begins : first.start ≡ lo
  pub last : Span
  pub earlier : List Span
  pub to_last : ss ≡ earlier ++ (last ∷ [])
  pub ends : last.stop ≡ hi
  pub inside : AllLieBetween lo hi ss
  pub rises : Rises ss

pub one_fills : (lo hi : ℕ) → lo ≤ hi → Fills lo hi (span lo hi ∷ [])
one_fills lo hi h = record {
  first = span lo hi;
  later = [];
  from_first = refl;
  begins = refl;
  last = span lo hi;
  earlier = [];
  to_last = refl;
  ends = refl;
  inside = (record { begins = omega arith; forward = h; ends = omega arith }, tt);
  rises = (tt, tt);
}

pub ordered : {lo hi : ℕ} {ss : List Span} → Fills lo hi ss → lo ≤ hi
ordered {lo} {hi} f =
    let all : AllLieBetween lo hi (f.first ∷ f.later) = subst (AllLieBetween lo hi) f.from_first f.inside in
    let l = all.0 in omega (arith, l.begins, l.forward, l.ends)

pub fills_both : {a b c d : ℕ} {ss rs : List Span} → Fills a b ss → Fills c d rs → b ≤ c → Fills a d (ss ++ rs)
fills_both {a} {b} {c} {d} {ss = ss} {rs = rs} f g h =
    let m = ordered f in
    let n = ordered g in
    record {
      first = f.first;
      later = f.later ++ rs;
      from_first = ap (λ z. z ++ rs) f.from_first;
      begins = f.begins;
      last = g.last;
      earlier = ss ++ g.earlier;
      to_last = ap (λ z. ss ++ z) g.to_last ∙ sym (append_assoc ss g.earlier (g.last ∷ []));
      ends = g.ends;
      inside = all_both a d ss rs (all_wide a b a d ss (omega arith) (omega (arith, h, n)) f.inside)
          (all_wide c d a d rs (omega (arith, h, m)) (omega arith) g.inside);
      rises = rises_both b ss rs f.rises g.rises (starts_by a b ss f.inside) (stops_earlier b c rs h (stops_by c d rs g.inside));
    }

-- ---- The span after so many.

pub after_lies : (lo hi : ℕ) (ss : List Span) (i : ℕ) → i < length ss → AllLieBetween lo hi ss → LiesBetween lo hi (span_after i ss)
after_lies lo hi [] i l h = absurd (omega (arith, l))
after_lies lo hi (s ∷ ss) zero l h = h.0
after_lies lo hi (s ∷ ss) (suc i) l h = after_lies lo hi ss i (omega (arith, l)) h.1

after_stops : (n : ℕ) (ss : List Span) (i : ℕ) → i < length ss → Stops n ss → n ≤ (span_after i ss).stop
after_stops n [] i l h = absurd (omega (arith, l))
after_stops n (s ∷ ss) zero l h = h.0
after_stops n (s ∷ ss) (suc i) l h = after_stops n ss i (omega (arith, l)) h.1

-- what begins at a span and ends at a later one
after_rises : (lo hi : ℕ) (ss : List Span) (i j : ℕ) → i ≤ j → j < length ss → AllLieBetween lo hi ss → Rises ss
    → (span_after i ss).start ≤ (span_after j ss).stop
after_rises lo hi [] i j k l h r = absurd (omega (arith, l))
after_rises lo hi (s ∷ ss) zero zero k l h r = let o = h.0 in omega (arith, o.forward)
after_rises lo hi (s ∷ ss) zero (suc j) k l h r = after_stops s.start ss j (omega (arith, l)) r.0
after_rises lo hi (s ∷ ss) (suc i) zero k l h r = absurd (omega (arith, k))
after_rises lo hi (s ∷ ss) (suc i) (suc j) k l h r = after_rises lo hi ss i j (omega (arith, k)) (omega (arith, l)) h.1 r.1

pub between : {lo hi : ℕ} {ss : List Span} → Fills lo hi ss → (i j : ℕ) → i ≤ j → j < length ss
    → LiesBetween lo hi (span (span_after i ss).start (span_after j ss).stop)
between {lo} {hi} {ss} f i j k l =
    let a = after_lies lo hi ss i (omega (arith, k, l)) f.inside in
    let b = after_lies lo hi ss j l f.inside in
    record { begins = a.begins; forward = after_rises lo hi ss i j k l f.inside f.rises; ends = b.ends }

pub following_first : {lo hi : ℕ} {ss : List Span} → Fills lo hi ss → (span_after 0 ss).start ≡ lo
following_first f = ap (λ z. (span_after 0 z).start) f.from_first ∙ f.begins

at_end : (es : List Span) (s : Span) (i : ℕ) → i + 1 ≡ length (es ++ (s ∷ [])) → span_after i (es ++ (s ∷ [])) ≡ s
at_end [] s zero h = refl
at_end [] s (suc i) h = absurd (omega (arith, h))
at_end (e ∷ es) s zero h = absurd (omega (arith, h, length-append es (s ∷ [])))
at_end (e ∷ es) s (suc i) h = at_end es s i (omega (arith, h))

pub following_last : {lo hi : ℕ} {ss : List Span} → Fills lo hi ss → (i : ℕ) → i + 1 ≡ length ss → (span_after i ss).stop ≡ hi
following_last f i h =
    ap (λ z. (span_after i z).stop) f.to_last ∙ (ap (λ z. z.stop) (at_end f.earlier f.last i (h ∙ ap length f.to_last)) ∙ f.ends)

-- among others
pub after_middle : (before ss after : List Span) (i n : ℕ) → n ≡ length before + i → i < length ss
    → span_after n (before ++ (ss ++ after)) ≡ span_after i ss
after_middle [] [] after i n e l = absurd (omega (arith, l))
after_middle [] (s ∷ ss) after zero zero e l = refl
after_middle [] (s ∷ ss) after zero (suc n) e l = absurd (omega (arith, e))
after_middle [] (s ∷ ss) after (suc i) zero e l = absurd (omega (arith, e))
after_middle [] (s ∷ ss) after (suc i) (suc n) e l = after_middle [] ss after i n (omega (arith, e)) (omega (arith, l))
after_middle (b ∷ before) ss after i zero e l = absurd (omega (arith, e))
after_middle (b ∷ before) ss after i (suc n) e l = after_middle before ss after i n (omega (arith, e)) l
