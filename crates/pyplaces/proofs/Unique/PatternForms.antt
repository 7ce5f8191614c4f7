-- The alternatives of patterns.
--
-- Carries: PatternReads, next_reads .. named_reads, for Patterns. On: PatternLooks, PatternValues.
use Rattle.std.proofs.Common.{◌≡◌, refl, ap, ◌∙◌, ℕ, ◌+◌, ◌≤◌, ◌==◌, arith, List, [], ◌∷◌, ◌++◌, length, append_assoc}
use Rattle.std.proofs.Common.{length-append}
use Rattle.std.proofs.Common.{Some, true, false, cond}
use Rattle.std.proofs.lemmas.Bool.{ne_eqb, lt-leb}
use Rattle.pylex_lexeme.specs.declared.kinds.Exact.TheVariants.{LPar, RPar, LSqb, RSqb, LBrace, RBrace, Colon, Comma, Star, DoubleStar}
use Rattle.pylex_lexeme.specs.declared.kinds.Exact.TheVariants.{Equal}
use Rattle.pylex_lexeme.specs.declared.kinds.Exact.TheVariants.{Dot, VBar}
use Rattle.pytoken.specs.declared.keywords.Keyword.TheVariants as Key
use Rattle.pytree_node.specs.Trees.{Expr, Identifier}
use Rattle.pytree_node.specs.Values
use Rattle.pytoken.specs.Terminals.{Spelled, Terminal, Op, Word, Ident}
use Rattle.pygrammar.specs.declared.pattern_levels.PatternLevel.{PatternLevel}
use Rattle.pygrammar.specs.declared.pattern_levels.PatternLevel.TheVariants.{Patterns, StarPattern, AsPattern, OrPattern, ClosedPattern}
use Rattle.pygrammar.specs.PatternOperators.{below_pattern, singleton_word}
use Rattle.pygrammar.specs.PatternEntries.{PatternItem, Element, KeyPattern, ClassArgument}
use Rattle.pygrammar.specs.Grammar as G
use Rattle.pygrammar.specs.PatternGrammar as P
use Rattle.pygrammar.proofs.Callers.Steps.{close_shape, close_after}
use Rattle.pyplaces.specs.Stretches.{Stretch, over}
use Rattle.pyplaces.specs.FormPlaces.{plain_header}
use Rattle.pyplaces.specs.PatternPlaces.{EntryPlaces, Alone, Keyed, Rest, Named, alone, pattern_keys, key_patterns, named, literal_places}
use Rattle.pyplaces.specs.PatternPlaces.{dotted_places, key_places}
use Rattle.pyplaces.specs.Inner.Looks.{after, lead_of, mark_of, name_mark, on_mark}
use Rattle.pyplaces.specs.Inner.ExpressionSteps.{Goes}
use Rattle.pyplaces.specs.Inner.PatternSteps.{literal_read, key_read, closed_pattern, named_pattern, entry_starts}
use Rattle.pyplaces.specs.Inner.Questions.{Pattern, Alternatives, Entries, Entry, Reading, Done, Ask}
use Rattle.pyplaces.specs.Inner.Steps.{here, on}
use Rattle.pyplaces.proofs.Unique.Leading.{Comes, via, from, to, past, untrue, is_true, one_end}
use Rattle.pyplaces.proofs.Unique.LookLemmas.{fronted}
use Rattle.pyplaces.proofs.Unique.Answered.{Answers, counted, shaped}
use Rattle.pyplaces.proofs.Unique.PatternLooks.{miss_mark, PatternStops, least}
use Rattle.pyplaces.proofs.Unique.PatternValues.{literal_reads, dotted_reads, dotted_front, dotted_end, key_reads}

abbrev pub PatternReads : PatternLevel → List Terminal → (ℕ → List Stretch) → Type 0
PatternReads l ts f = Answers (Pattern l) ts f (PatternStops l)

pub next_reads : (l : PatternLevel) (ts : List Terminal) (f : ℕ → List Stretch) → least (below_pattern l) ≤ lead_of ts
    → PatternReads (below_pattern l) ts f → PatternReads l ts f
next_reads Patterns ts f l p at rest k s = on (on (past _ (fronted ts rest 7 (omega (arith, l)))
    (via (p at rest _ (omega (arith, s.0))) (miss_mark rest 6 _ (λ q. omega (arith, s.0, q)) here))))
next_reads StarPattern ts f l p at rest k s = on (past _ (fronted ts rest 7 (omega (arith, l))) (p at rest k s))
next_reads AsPattern ts f l p at rest k s =
    on (via (p at rest _ (omega (arith, s))) (miss_mark rest 7 _ (λ q. omega (arith, s, q)) here))
next_reads OrPattern ts f l p at rest k s =
    on (via (p at rest _ (omega (arith, s))) (miss_mark rest 8 _ (λ q. omega (arith, s, q)) here))
next_reads ClosedPattern ts f l p at rest k s = p at rest k s

-- ---- Lists.

abbrev pub EntryStops : PatternItem → List Terminal → Type 0
EntryStops Element r = mark_of r ≤ 6
EntryStops KeyPattern r = mark_of r ≤ 6
EntryStops ClassArgument r = (mark_of r ≤ 6) × (mark_of r ≡ 5 → ⊥)

abbrev pub EntriesEnd : PatternItem → List Terminal → Type 0
EntriesEnd i r = (entry_starts i r ≡ false) × (mark_of r ≡ 6 → ⊥) × EntryStops i r

abbrev pub EntriesRead : PatternItem → List Terminal → (ℕ → List EntryPlaces) → Type 0
EntriesRead i ts g = Answers (Entries i) ts g (EntriesEnd i)

comma_stops : (i : PatternItem) (r : List Terminal) → EntryStops i (Op Comma ∷ r)
comma_stops Element r = omega arith
comma_stops KeyPattern r = omega arith
comma_stops ClassArgument r = (omega arith, λ q. absurd (omega (arith, q)))

pub no_entry_reads : (i : PatternItem) → EntriesRead i [] (λ at. [])
no_entry_reads i at rest k s = on (untrue _ s.0 here)

pub last_entry_reads : (i : PatternItem) (ts : List Terminal) {f : ℕ → EntryPlaces}
    → ((us : List Terminal) → entry_starts i (ts ++ us) ≡ true)
    → Answers (Entry i) ts f (EntryStops i) → EntriesRead i ts (λ at. f at ∷ [])
last_entry_reads i ts st p at rest k s = on (is_true _ (st rest) (via (p at rest _ s.2) (miss_mark rest 6 _ s.1 here)))

pub entry_reads : (i : PatternItem) (ts us : List Terminal) {f : ℕ → EntryPlaces} {g : ℕ → List EntryPlaces}
    → ((us : List Terminal) → entry_starts i (ts ++ us) ≡ true) → Answers (Entry i) ts f (EntryStops i) → EntriesRead i us g
    → EntriesRead i (ts ++ (Op Comma ∷ us)) (λ at. f at ∷ g (1 + (at + length ts)))
entry_reads i ts us st p q at rest k s = shaped (Entries i) at k (append_assoc ts (Op Comma ∷ us) rest)
    (on (is_true _ (st (Op Comma ∷ (us ++ rest))) (via (p at (Op Comma ∷ (us ++ rest)) _ (comma_stops i (us ++ rest)))
    (via (q (1 + (at + length ts)) rest _ s) (counted k rest (omega (arith, length-append ts (Op Comma ∷ us))))))))

-- ---- Names and literals.

pub star_reads : (x : Spelled) → PatternReads StarPattern (Op Star ∷ (Ident x ∷ [])) (λ at. over at 2)
star_reads x at rest k s = on here

pub capture_reads : (x : Spelled) → PatternReads ClosedPattern (Ident x ∷ []) (λ at. over at 1)
capture_reads x at rest k s = on (on (from (dotted_end (over at 1) 1 at rest _ (omega (arith, s)))
    (miss_mark rest 11 _ (λ q. omega (arith, s, q)) here)))

singleton_closed : (t : Terminal) (v : Values.Value) → singleton_word t ≡ Some v → (at : ℕ) (r : List Terminal) (k : Goes)
    → closed_pattern at (t ∷ r) k ≡ k (over at 1) 1 r
singleton_closed (Word w) v h at r k = refl
singleton_closed (Op _) v h at r k = absurd (cc)
singleton_closed _ v h at r k = absurd (cc)

pub singleton_reads : (t : Terminal) (v : Values.Value) → singleton_word t ≡ Some v → PatternReads ClosedPattern (t ∷ []) (λ at. over at 1)
singleton_reads t v h at rest k s = on (from (singleton_closed t v h at rest k) here)

literal_closed : {ts : List Terminal} {e : Expr} → P.LiteralOf ts e → (at : ℕ) (r : List Terminal) (k : Goes)
    → closed_pattern at (ts ++ r) k ≡ literal_read at (ts ++ r) (λ ps n r1. k (ps ++ over at n) n r1)
literal_closed (P.number P.unsigned) at r k = refl
literal_closed (P.number P.negative) at r k = refl
literal_closed (P.complex t P.unsigned h q j) at r k = refl
literal_closed (P.complex t P.negative h q j) at r k = refl
literal_closed (P.strings vs h) at r k = refl
literal_closed (P.joined_string G.no_literal b h) at r k = absurd (cc)
literal_closed (P.joined_string (G.text_literal l) b h) at r k = refl
literal_closed (P.joined_string (G.formatted_literal p l) b h) at r k = refl

pub literal_pattern_reads : {ts : List Terminal} {e : Expr} (q : P.LiteralOf ts e)
    → PatternReads ClosedPattern ts (λ at. literal_places at q ++ over at (length ts))
literal_pattern_reads q at rest k s = on (from (literal_closed q at rest k) (literal_reads q at rest _ s))

named_closed : {f : Identifier} {ts : List Terminal} {e : Expr} (q : P.Dotted f ts e) (at : ℕ) (r : List Terminal) (k : Goes)
    → closed_pattern at (ts ++ r) k ≡ named_pattern at (after (ts ++ r)) k
named_closed q at r k = let w = dotted_front q r in ap (λ z. closed_pattern at z k) w.1

pub value_reads : {f : Identifier} (ts : List Terminal) {e : Expr} (x : Spelled) (q : P.Dotted f ts e)
    → PatternReads ClosedPattern (ts ++ (Op Dot ∷ (Ident x ∷ [])))
    (λ at. dotted_places at q ++ (over at (2 + length ts) ++ over at (2 + length ts)))
value_reads ts x q at rest k s = on (from (named_closed (P.dot_name x q) at rest k) (via (dotted_reads (P.dot_name x q) at rest _)
    (on (from (dotted_end _ _ at rest _ (omega (arith, s))) (miss_mark rest 11 _ (λ e. omega (arith, s, e))
    (finish (length (ts ++ (Op Dot ∷ (Ident x ∷ [])))) (omega (arith, length-append ts (Op Dot ∷ (Ident x ∷ []))))))))))
  where
    finish : (n : ℕ) → n ≡ 2 + length ts
        → Comes (cond (n == 1) (k (dotted_places at q ++ over at (2 + length ts)) n rest)
        (k ((dotted_places at q ++ over at (2 + length ts)) ++ over at n) n rest))
        (k (dotted_places at q ++ (over at (2 + length ts) ++ over at (2 + length ts))) n rest)
    finish n e = untrue _ (ne_eqb n 1 (λ w. omega (arith, e, w)))
        (to here (ap (λ z. k z n rest) (append_assoc (dotted_places at q) (over at (2 + length ts)) (over at n)
        ∙ ap (λ z. dotted_places at q ++ (over at (2 + length ts) ++ over at z)) e)))

-- ---- Brackets.

round_front : (ts i : List Terminal) (at : ℕ) (k : Goes) {c : Reading} → 7 ≤ lead_of ts
    → Comes (Ask (Pattern StarPattern) (1 + at) (ts ++ i) (λ ps n r1. on_mark 6 r1
    (Ask (Entries Element) (2 + (at + n)) (after r1)
    (λ es m r2. k (ps ++ (alone es ++ over at (3 + (n + m)))) (3 + (n + m)) (after r2))) (k ps (2 + n) (after r1)))) c
    → Comes (Ask (Pattern ClosedPattern) at (Op LPar ∷ (ts ++ i)) k) c
round_front [] i at k l p = absurd (omega (arith, l))
round_front (Op RPar ∷ ts) i at k l p = absurd (omega (arith, l))
round_front (Op _ ∷ ts) i at k l p = on p
round_front (_ ∷ ts) i at k l p = on p

pub group_reads : (ts : List Terminal) (f : ℕ → List Stretch) → 20 ≤ lead_of ts → PatternReads AsPattern ts f
    → PatternReads ClosedPattern (Op LPar ∷ (ts ++ (Op RPar ∷ []))) (λ at. f (1 + at))
group_reads ts f l p at rest k s = shaped (Pattern ClosedPattern) at k (close_shape ts rest (Op LPar) (Op RPar))
    (round_front ts (Op RPar ∷ rest) at k (omega (arith, l))
    (via (next_reads StarPattern ts f l p (1 + at) (Op RPar ∷ rest) _ (omega arith))
    (counted k rest (omega (arith, length-append ts (Op RPar ∷ []))))))

pub empty_sequence_reads : PatternReads ClosedPattern (Op LPar ∷ (Op RPar ∷ [])) (λ at. over at 2)
empty_sequence_reads at rest k s = on here

pub round_sequence_reads : (ts us : List Terminal) {f : ℕ → List Stretch} {g : ℕ → List EntryPlaces} → 7 ≤ lead_of ts
    → PatternReads StarPattern ts f → EntriesRead Element us g
    → PatternReads ClosedPattern (Op LPar ∷ (ts ++ (Op Comma ∷ (us ++ (Op RPar ∷ [])))))
    (λ at. f (1 + at) ++ (alone (g (2 + (at + length ts))) ++ over at (3 + (length ts + length us))))
round_sequence_reads ts us l p q at rest k s = shaped (Pattern ClosedPattern) at k (close_after ts us rest (Op LPar) (Op Comma) (Op RPar))
    (round_front ts (Op Comma ∷ (us ++ (Op RPar ∷ rest))) at k l
    (via (p (1 + at) (Op Comma ∷ (us ++ (Op RPar ∷ rest))) _ (omega arith))
    (via (q (2 + (at + length ts)) (Op RPar ∷ rest) _ (refl, λ q. absurd (omega (arith, q)), omega arith))
    (counted k rest (omega (
      arith,
      length-append ts (Op Comma ∷ (us ++ (Op RPar ∷ []))),
      length-append us (Op RPar ∷ []),
    ))))))

pub square_sequence_reads : (ts : List Terminal) {g : ℕ → List EntryPlaces} → EntriesRead Element ts g
    → PatternReads ClosedPattern (Op LSqb ∷ (ts ++ (Op RSqb ∷ []))) (λ at. alone (g (1 + at)) ++ over at (2 + length ts))
square_sequence_reads ts q at rest k s = shaped (Pattern ClosedPattern) at k (close_shape ts rest (Op LSqb) (Op RSqb))
    (on (via (q (1 + at) (Op RSqb ∷ rest) _ (refl, λ q. absurd (omega (arith, q)), omega arith))
    (counted k rest (omega (arith, length-append ts (Op RSqb ∷ []))))))

pub mapping_reads : (ts : List Terminal) {g : ℕ → List EntryPlaces} → EntriesRead KeyPattern ts g
    → PatternReads ClosedPattern (Op LBrace ∷ (ts ++ (Op RBrace ∷ [])))
    (λ at. pattern_keys (g (1 + at)) ++ (key_patterns (g (1 + at)) ++ over at (2 + length ts)))
mapping_reads ts q at rest k s = shaped (Pattern ClosedPattern) at k (close_shape ts rest (Op LBrace) (Op RBrace))
    (on (via (q (1 + at) (Op RBrace ∷ rest) _ (refl, λ q. absurd (omega (arith, q)), omega arith))
    (counted k rest (omega (arith, length-append ts (Op RBrace ∷ []))))))

pub class_pattern_reads : {f : Identifier} (ts us : List Terminal) {e : Expr} {g : ℕ → List EntryPlaces} (q : P.Dotted f ts e)
    → EntriesRead ClassArgument us g → PatternReads ClosedPattern (ts ++ (Op LPar ∷ (us ++ (Op RPar ∷ []))))
    (λ at. dotted_places at q ++ (alone (g (1 + (at + length ts))) ++ (named (g (1 + (at + length ts)))
    ++ over at (2 + (length ts + length us)))))
class_pattern_reads ts us q c at rest k s = shaped (Pattern ClosedPattern) at k (shape rest)
    (on (from (named_closed q at (Op LPar ∷ (us ++ (Op RPar ∷ rest))) k) (via (dotted_reads q at (Op LPar ∷ (us ++ (Op RPar ∷ rest))) _)
    (on (via (c (1 + (at + length ts)) (Op RPar ∷ rest) _ (
      refl,
      λ q. absurd (omega (arith, q)),
      (omega arith, λ q. absurd (omega (arith, q))),
    )) (counted k rest (omega (
      arith,
      length-append ts (Op LPar ∷ (us ++ (Op RPar ∷ []))),
      length-append us (Op RPar ∷ []),
    ))))))))
  where
    shape : (rest : List Terminal) → (ts ++ (Op LPar ∷ (us ++ (Op RPar ∷ [])))) ++ rest ≡ ts ++ (Op LPar ∷ (us ++ (Op RPar ∷ rest)))
    shape rest = simp append_assoc refl

-- ---- Levels.

pub open_sequence_reads : (ts us : List Terminal) {f : ℕ → List Stretch} {g : ℕ → List EntryPlaces} → PatternReads StarPattern ts f
    → EntriesRead Element us g → PatternReads Patterns (ts ++ (Op Comma ∷ us))
    (λ at. f at ++ (alone (g (1 + (at + length ts))) ++ over at (1 + (length ts + length us))))
open_sequence_reads ts us p q at rest k s = shaped (Pattern Patterns) at k (append_assoc ts (Op Comma ∷ us) rest)
    (on (via (p at (Op Comma ∷ (us ++ rest)) _ (omega arith))
    (via (q (1 + (at + length ts)) rest _ (lt-leb 7 (lead_of rest) (omega (arith, s.1)), λ e. omega (arith, s.0, e), omega (arith, s.0)))
    (counted k rest (omega (arith, length-append ts (Op Comma ∷ us)))))))

pub as_name_reads : (ts : List Terminal) (x : Spelled) {f : ℕ → List Stretch} → PatternReads OrPattern ts f
    → PatternReads AsPattern (ts ++ (Word Key.As ∷ (Ident x ∷ []))) (λ at. f at ++ over at (2 + length ts))
as_name_reads ts x p at rest k s = shaped (Pattern AsPattern) at k (append_assoc ts (Word Key.As ∷ (Ident x ∷ [])) rest)
    (on (via (p at (Word Key.As ∷ (Ident x ∷ rest)) _ (omega arith))
    (counted k rest (omega (arith, length-append ts (Word Key.As ∷ (Ident x ∷ [])))))))

abbrev pub AlternativesRead : List Terminal → (ℕ → List Stretch) → Type 0
AlternativesRead ts f = Answers Alternatives ts f (λ r. mark_of r ≤ 7)

pub alternatives_reads : (ts us : List Terminal) {f g : ℕ → List Stretch} → PatternReads ClosedPattern ts f → AlternativesRead us g
    → PatternReads OrPattern (ts ++ (Op VBar ∷ us)) (λ at. f at ++ (g (1 + (at + length ts)) ++ over at (1 + (length ts + length us))))
alternatives_reads ts us p q at rest k s = shaped (Pattern OrPattern) at k (append_assoc ts (Op VBar ∷ us) rest)
    (on (via (p at (Op VBar ∷ (us ++ rest)) _ (omega arith)) (via (q (1 + (at + length ts)) rest _ s)
    (counted k rest (omega (arith, length-append ts (Op VBar ∷ us)))))))

pub last_alternative_reads : (ts : List Terminal) {f : ℕ → List Stretch} → PatternReads ClosedPattern ts f → AlternativesRead ts f
last_alternative_reads ts p at rest k s =
    on (via (p at rest _ (omega (arith, s))) (miss_mark rest 8 _ (λ q. omega (arith, s, q)) here))

pub alternative_reads : (ts us : List Terminal) {f g : ℕ → List Stretch} → PatternReads ClosedPattern ts f → AlternativesRead us g
    → AlternativesRead (ts ++ (Op VBar ∷ us)) (λ at. f at ++ g (1 + (at + length ts)))
alternative_reads ts us p q at rest k s = shaped Alternatives at k (append_assoc ts (Op VBar ∷ us) rest)
    (on (via (p at (Op VBar ∷ (us ++ rest)) _ (omega arith)) (via (q (1 + (at + length ts)) rest _ s)
    (counted k rest (omega (arith, length-append ts (Op VBar ∷ us)))))))

-- ---- Entries.

pub element_reads : (ts : List Terminal) {f : ℕ → List Stretch} → PatternReads StarPattern ts f
    → Answers (Entry Element) ts (λ at. Alone (f at)) (EntryStops Element)
element_reads ts p at rest k s = on (p at rest _ s)

key_entry : (i : List Terminal) (at : ℕ) (k : EntryPlaces → ℕ → List Terminal → Reading) {c : Reading} → 20 ≤ lead_of i
    → Comes (key_read at i (λ ks n r. Ask (Pattern AsPattern) (1 + (at + n)) (after r) (λ ps m r1. k (Keyed ks ps) (1 + (n + m)) r1))) c
    → Comes (Ask (Entry KeyPattern) at i k) c
key_entry [] at k l p = absurd (omega (arith, l))
key_entry (Op DoubleStar ∷ r) at k l p = absurd (omega (arith, l))
key_entry (Op _ ∷ r) at k l p = on p
key_entry (_ ∷ r) at k l p = on p

pub key_pattern_reads : (ts us : List Terminal) {e : Expr} (q : P.KeyOf ts e) {f : ℕ → List Stretch}
    → ((r : List Terminal) → 20 ≤ lead_of (ts ++ r)) → PatternReads AsPattern us f
    → Answers (Entry KeyPattern) (ts ++ (Op Colon ∷ us)) (λ at. Keyed (key_places at q) (f (1 + (at + length ts)))) (EntryStops KeyPattern)
key_pattern_reads ts us q l p at rest k s = shaped (Entry KeyPattern) at k (append_assoc ts (Op Colon ∷ us) rest)
    (key_entry (ts ++ (Op Colon ∷ (us ++ rest))) at k (l (Op Colon ∷ (us ++ rest)))
    (via (key_reads q at (us ++ rest) _) (via (p (1 + (at + length ts)) rest _ s)
    (counted k rest (omega (arith, length-append ts (Op Colon ∷ us)))))))

pub rest_reads : (x : Spelled) → Answers (Entry KeyPattern) (Op DoubleStar ∷ (Ident x ∷ [])) (λ at. Rest) (EntryStops KeyPattern)
rest_reads x at rest k s = on here

-- a NAME that is all of a pattern, though a `=` follows
unnamed : (ts rest : List Terminal) (f : ℕ → List Stretch) → PatternReads AsPattern ts f → mark_of rest ≤ 6 → (mark_of rest ≡ 5 → ⊥)
    → name_mark (ts ++ rest) ≡ 5 → ⊥
unnamed ts rest f p s n q = go (ts ++ rest) q (p 0 rest (λ ps m r. Done (plain_header ps) r) s)
  where
    go : (i : List Terminal) → name_mark i ≡ 5
        → Comes (Ask (Pattern AsPattern) 0 i (λ ps m r. Done (plain_header ps) r)) (Done (plain_header (f 0)) rest) → ⊥
    go [] q c = omega (arith, q)
    go (Ident x ∷ []) q c = omega (arith, q)
    go (Ident x ∷ (t ∷ r)) q c =
        let name = next_reads AsPattern (Ident x ∷ []) (λ at. over at 1) (omega arith)
        (next_reads OrPattern (Ident x ∷ []) (λ at. over at 1) (omega arith) (capture_reads x)) in
        let e = one_end c (name 0 (t ∷ r) (λ ps m r. Done (plain_header ps) r) (omega (arith, q))) in
        n (ap mark_of (e.1) ∙ q)
    go (_ ∷ r) q c = omega (arith, q)

pub argument_reads : (ts : List Terminal) (f : ℕ → List Stretch) → PatternReads AsPattern ts f
    → Answers (Entry ClassArgument) ts (λ at. Alone (f at)) (EntryStops ClassArgument)
argument_reads ts f p at rest k s = on (past _ (unnamed ts rest f p s.0 s.1) (p at rest _ s.0))

pub named_reads : (x : Spelled) (ts : List Terminal) {f : ℕ → List Stretch} → PatternReads AsPattern ts f
    → Answers (Entry ClassArgument) (Ident x ∷ (Op Equal ∷ ts)) (λ at. Named (f (2 + at))) (EntryStops ClassArgument)
named_reads x ts p at rest k s = on (via (p (2 + at) rest _ s.0) (counted k rest (omega arith)))
