-- Reads one after another.
--
-- Carries: fill, line_end, read_head. On: ByteLemmas.
use Rattle.std.proofs.Common.{◌≡◌, ◌≢◌, ℕ, ◌+◌, ◌<◌, ◌≤◌, List, [], ◌∷◌, ◌++◌, length, sym, ap, subst, refl, inl, inr, ◌∙◌, arith}
use Rattle.std.proofs.Common.{length-append, append_assoc, append-nil}
use Rattle.std.specs.Prelude.{◌⊎◌}
use Rattle.std.specs.Io.KnownBytes.{Consumes, IsAtEnd}
use Rattle.std.proofs.lemmas.Bool.{cases_lt}
use Rattle.std.proofs.lemmas.List.{get_or_append_left}
use Rattle.pysource.specs.declared.buffers.Intake.{Intake}
use Rattle.pysource.specs.Bytes.{Seen, IsSteady}
use Rattle.pysource.specs.Limits.{source_limit}
use Rattle.pysource.specs.Taking.{ReadsBytes, Grows, NoLfFrom}
use Rattle.pysource.specs.declared.line_reader.Reach.{Reach}
use Rattle.pysource.specs.declared.line_reader.Reach.TheVariants.{Reading, End, Broken, Passed}
use Rattle.pysource.proofs.TakenBytes.ByteLemmas.{Consumes-append, Consumes-refl, Steady-append}
use Rattle.pysource.proofs.LineReading.StreamLemmas.{no_more}

-- no read was made
pub ReadsBytes-none : (seen : Seen) (count : ℕ) (reach : Reach) → ReadsBytes seen seen reach reach count count []
ReadsBytes-none seen count reach = record {
  lost = [];
  consumes = Consumes-refl seen.to_come;
  count = omega arith;
  within = λ h. h;
  told = refl;
  steady = (refl, λ _. refl);
  passed = λ h. absurd (omega arith);
  newly = λ not is. absurd (not is);
  ended = λ not is. absurd (not is);
  over = λ _. (refl, refl, refl);
}

zero_or : (xs : List ℕ) → (length xs ≡ 0) ⊎ (0 < length xs)
zero_or [] = inl refl
zero_or (x ∷ xs) = inr (omega arith)

-- where reading goes on nothing was lost
pub lost_none : {x y : Seen} {c d : ℕ} {r : Reach} {t : List ℕ} (p : ReadsBytes x y r Reading c d t) → p.lost ≡ []
lost_none p = no_more p.lost (elim (zero_or p.lost) [ inl e ↦ e | inr h ↦ absurd (let e = (p.passed h).0 in cc) ])

-- reads, and then others
pub ReadsBytes-append : {x y z : Seen} {k l m : ℕ} {r s : Reach} (t u : List ℕ) → ReadsBytes x y r Reading k l t
    → ReadsBytes y z Reading s l m u → ReadsBytes x z r s k m (t ++ u)
ReadsBytes-append {x} {y} {z} {k} {l} {m} {r} {s} t u p q =
    let none = lost_none p in
    let first : Consumes x.to_come y.to_come t = subst (Consumes x.to_come y.to_come) (ap (λ (w : List ℕ). t ++ w) none
    ∙ append-nil t) p.consumes in
    let whole = length-append t u in
    record {
      lost = q.lost;
      consumes = subst (Consumes x.to_come z.to_come) (sym (append_assoc t u q.lost))
          (Consumes-append x.to_come y.to_come z.to_come t (u ++ q.lost) first q.consumes);
      count = omega (arith, p.count, q.count, whole);
      within = λ h. q.within (p.within h);
      told = omega (arith, p.told, q.told);
      steady = Steady-append x y z p.steady q.steady;
      passed = q.passed;
      newly = λ not is. q.newly (λ e. let e' : Reading ≡ Passed = e in cc) is;
      ended = λ not is. q.ended (λ e. let e' : Reading ≡ End = e in cc) is;
      over = λ not. absurd (not (sym (p.over not).0));
    }

-- one read that gave some bytes
pub ReadsBytes-some : (x y : Seen) (c d : ℕ) (t : List ℕ) → Consumes x.to_come y.to_come t → d ≡ c + length t
    → (c ≤ source_limit → d ≤ source_limit) → y.failures ≡ x.failures → IsSteady x y → ReadsBytes x y Reading Reading c d t
ReadsBytes-some x y c d t p size within told steady = record {
  lost = [];
  consumes = subst (Consumes x.to_come y.to_come) (sym (append-nil t)) p;
  count = size;
  within = within;
  told = omega (arith, told);
  steady = steady;
  passed = λ h. absurd (omega arith);
  newly = λ not is. cc;
  ended = λ not is. cc;
  over = λ not. absurd (not refl);
}

-- that found the end
pub ReadsBytes-end : (x y : Seen) (c : ℕ) → Consumes x.to_come y.to_come [] → IsAtEnd y.to_come → y.failures ≡ x.failures → IsSteady x y
    → ReadsBytes x y Reading End c c []
ReadsBytes-end x y c p at told steady = record {
  lost = [];
  consumes = p;
  count = omega arith;
  within = λ h. h;
  told = omega (arith, told);
  steady = steady;
  passed = λ h. absurd (omega arith);
  newly = λ not is. cc;
  ended = λ not is. at;
  over = λ not. absurd (not refl);
}

-- that failed
pub ReadsBytes-failed : (x y : Seen) (c : ℕ) → Consumes x.to_come y.to_come [] → y.failures ≡ x.failures + 1 → IsSteady x y
    → ReadsBytes x y Reading Broken c c []
ReadsBytes-failed x y c p told steady = record {
  lost = [];
  consumes = p;
  count = omega arith;
  within = λ h. h;
  told = omega (arith, told);
  steady = steady;
  passed = λ h. absurd (omega arith);
  newly = λ not is. cc;
  ended = λ not is. cc;
  over = λ not. absurd (not refl);
}

-- that passed the limit
pub ReadsBytes-passed : (x y : Seen) (c : ℕ) (t : List ℕ) → Consumes x.to_come y.to_come t → 0 < length t → c ≡ source_limit
    → y.failures ≡ x.failures → IsSteady x y → ReadsBytes x y Reading Passed c c []
ReadsBytes-passed x y c t p some full told steady = record {
  lost = t;
  consumes = p;
  count = omega arith;
  within = λ h. h;
  told = omega (arith, told);
  steady = steady;
  passed = λ h. (refl, full);
  newly = λ not is. some;
  ended = λ not is. cc;
  over = λ not. absurd (not refl);
}

-- a reader that is still read has a read to come that may end it
abbrev pub left : Reach → ℕ
left Reading = 1
left End = 0
left Broken = 0
left Passed = 0

-- a reader that is read now was read before
pub was_reading : {x y : Seen} {c d : ℕ} {r : Reach} {t : List ℕ} → ReadsBytes x y r Reading c d t → r ≡ Reading
was_reading {r = Reading} p = refl
was_reading {r = End} p = sym (p.over (λ e. let e' : End ≡ Reading = e in cc)).0
was_reading {r = Broken} p = sym (p.over (λ e. let e' : Broken ≡ Reading = e in cc)).0
was_reading {r = Passed} p = sym (p.over (λ e. let e' : Passed ≡ Reading = e in cc)).0

-- the same of an intake
pub Grows-append : {x y z : Seen} {s t u : Intake} → t.reach ≡ Reading → Grows x y s t → Grows y z t u → Grows x z s u
Grows-append {x} {y} {z} {s} {t} {u} e p q = record {
  taken = p.taken ++ q.taken;
  takes = ReadsBytes-append p.taken q.taken (subst (λ (r : Reach). ReadsBytes x y s.reach r s.count t.count p.taken) e p.takes)
      (subst (λ (r : Reach). ReadsBytes y z r u.reach t.count u.count q.taken) e q.takes);
  bytes = q.bytes ∙ ap (λ (w : List ℕ). w ++ q.taken) p.bytes ∙ append_assoc s.buffer p.taken q.taken;
}

is_reading : (r : Reach) → (r ≡ Reading) ⊎ (r ≢ Reading)
is_reading Reading = inl refl
is_reading End = inr (λ e. cc)
is_reading Broken = inr (λ e. cc)
is_reading Passed = inr (λ e. cc)

-- what reading leaves of the kinds of reach
pub kept_or_full : {x y : Seen} {s t : Intake} (u : Intake) → t.reach ≡ Reading → Grows x y s t → (u.reach ≢ Reading → u.buffer ≡ t.buffer)
    → (u.reach ≡ s.reach) ⊎ (length t.buffer ≡ length u.buffer)
kept_or_full {x} {y} {s} {t} u e p same =
    let was : s.reach ≡ Reading = was_reading (subst (λ (r : Reach). ReadsBytes x y s.reach r s.count t.count p.taken) e p.takes) in
    elim (is_reading u.reach) [ inl is ↦ inl (is ∙ sym was) | inr not ↦ inr (sym (ap length (same not))) ]

-- no line feed stands up to where a search began, nor after
pub clean_on : (start from end : ℕ) (bytes : List ℕ) → NoLfFrom start from bytes → NoLfFrom from end bytes → NoLfFrom start end bytes
clean_on start from end bytes p q k low high = elim (cases_lt k from) [ inl l ↦ p k low l | inr l ↦ q k l high ]

-- bytes after change none before
pub clean_under : (start : ℕ) (bytes more : List ℕ) → NoLfFrom start (length bytes) bytes → NoLfFrom start (length bytes) (bytes ++ more)
clean_under start bytes more p k low high e = p k low high (sym (get_or_append_left bytes more 0 k high) ∙ e)

-- all that was read, where nothing had been
pub ReadsBytes-whole : {x y : Seen} {s t : Intake} → s.buffer ≡ [] → s.reach ≡ Reading → s.count ≡ 0 → Grows x y s t
    → ReadsBytes x y Reading t.reach 0 t.count t.buffer
ReadsBytes-whole {x} {y} {s} {t} empty reading none p =
    let all : p.taken ≡ t.buffer = sym (p.bytes ∙ ap (λ (w : List ℕ). w ++ p.taken) empty) in
    subst (λ (w : List ℕ). ReadsBytes x y Reading t.reach 0 t.count w) all
    (subst (λ (n : ℕ). ReadsBytes x y Reading t.reach n t.count p.taken) none
    (subst (λ (r : Reach). ReadsBytes x y r t.reach s.count t.count p.taken) reading p.takes))

-- reads, and then others, which may be none
empty_parts : (t u : List ℕ) → t ++ u ≡ [] → (t ≡ []) × (u ≡ [])
empty_parts [] u e = (refl, e)
empty_parts (x ∷ t) u e = absurd (let f : x ∷ (t ++ u) ≡ [] = e in cc)

pub ReadsBytes-on : (x y z : Seen) (k l m : ℕ) (r q s : Reach) (t u : List ℕ) → ReadsBytes x y r q k l t → ReadsBytes y z q s l m u
    → ReadsBytes x z r s k m (t ++ u)
ReadsBytes-on x y z k l m r q s t u p n = by (is_reading q)
  where
    by : (q ≡ Reading) ⊎ (q ≢ Reading) → ReadsBytes x z r s k m (t ++ u)
    by (inl e) = ReadsBytes-append t u (subst (λ w. ReadsBytes x y r w k l t) e p) (subst (λ w. ReadsBytes y z w s l m u) e n)
    by (inr over) =
        let o = n.over over in
        let none = empty_parts u n.lost o.1 in
        let same : t ++ u ≡ t = ap (λ w. t ++ w) none.0 ∙ append-nil t in
        let size : length u ≡ 0 = ap length none.0 in
        let counts : m ≡ l = omega (arith, n.count, size) in
        rw (same, o.0, o.2, counts) p
