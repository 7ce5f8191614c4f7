-- The next step of a pattern, and of what stands in one.
use Rattle.std.specs.Prelude.{ℕ, ◌+◌, ◌==◌, leb, List, [], ◌∷◌, ◌++◌, cond, Bool, true}
use Rattle.pylex_lexeme.specs.declared.kinds.Exact.TheVariants.{LPar, RPar, LSqb, LBrace, Minus, Dot, DoubleStar}
use Rattle.pytoken.specs.Terminals.{Terminal, Op, Word, Ident, Number}
use Rattle.pygrammar.specs.declared.pattern_levels.PatternLevel.{PatternLevel}
use Rattle.pygrammar.specs.declared.pattern_levels.PatternLevel.TheVariants.{Patterns, StarPattern, AsPattern, OrPattern, ClosedPattern}
use Rattle.pygrammar.specs.PatternEntries.{PatternItem, Element, KeyPattern, ClassArgument}
use Rattle.pyplaces.specs.Stretches.{Stretch, over}
use Rattle.pyplaces.specs.PatternPlaces.{EntryPlaces, Alone, Keyed, Rest, Named, alone, pattern_keys, key_patterns, named}
use Rattle.pyplaces.specs.Inner.Looks.{after, lead_of, on_lead, on_mark, name_mark}
use Rattle.pyplaces.specs.Inner.Questions.{Pattern, Dotted, Alternatives, Entries, Entry, Reading, Ask}
use Rattle.pyplaces.specs.Inner.ExpressionSteps.{Goes}
use Rattle.pyplaces.specs.Inner.AtomSteps.{run}

-- ---- Values.

-- an imaginary number, if it follows
abbrev pub summed : List Stretch → ℕ → ℕ → List Terminal → Goes → Reading
summed ps n at r k = on_mark 10 r (k (ps ++ (over (1 + (at + n)) 1 ++ over at (2 + n))) (2 + n) (after (after r))) (k ps n r)

abbrev pub literal_read : ℕ → List Terminal → Goes → Reading
literal_read at (Op Minus ∷ r) k = summed (over (1 + at) 1 ++ over at 2) 2 at (after r) k
literal_read at (Number v ∷ r) k = summed (over at 1) 1 at r k
literal_read at r k = run at r k

abbrev pub dotted_step : List Stretch → ℕ → ℕ → List Terminal → Goes → Reading
dotted_step ps n at (Op Dot ∷ r) k = Ask (Dotted (ps ++ over at (2 + n)) (2 + n)) at (after r) k
dotted_step ps n at r k = k ps n r

abbrev pub key_read : ℕ → List Terminal → Goes → Reading
key_read at (Ident x ∷ r) k = Ask (Dotted (over at 1) 1) at r k
key_read at (Word w ∷ r) k = k (over at 1) 1 r
key_read at r k = literal_read at r k

-- ---- Patterns.

abbrev pub round_pattern : ℕ → List Terminal → Goes → Reading
round_pattern at (Op RPar ∷ r) k = k (over at 2) 2 r
round_pattern at r k = Ask (Pattern StarPattern) (1 + at) r (λ ps n r1. on_mark 6 r1
    (Ask (Entries Element) (2 + (at + n)) (after r1)
    (λ es m r2. k (ps ++ (alone es ++ over at (3 + (n + m)))) (3 + (n + m)) (after r2))) (k ps (2 + n) (after r1)))

-- a name, dots or not, and the arguments of a class
abbrev pub named_pattern : ℕ → List Terminal → Goes → Reading
named_pattern at r k = Ask (Dotted (over at 1) 1) at r (λ ps n r1. on_mark 11 r1
    (Ask (Entries ClassArgument) (1 + (at + n)) (after r1)
    (λ es m r2. k (ps ++ (alone es ++ (named es ++ over at (2 + (n + m))))) (2 + (n + m)) (after r2)))
    (cond (n == 1) (k ps n r1) (k (ps ++ over at n) n r1)))

abbrev pub closed_pattern : ℕ → List Terminal → Goes → Reading
closed_pattern at (Op LPar ∷ r) k = round_pattern at r k
closed_pattern at (Op LSqb ∷ r) k = Ask (Entries Element) (1 + at) r (λ es n r1. k (alone es ++ over at (2 + n)) (2 + n) (after r1))
closed_pattern at (Op LBrace ∷ r) k = Ask (Entries KeyPattern) (1 + at) r
    (λ es n r1. k (pattern_keys es ++ (key_patterns es ++ over at (2 + n))) (2 + n) (after r1))
closed_pattern at (Ident x ∷ r) k = named_pattern at r k
closed_pattern at (Word w ∷ r) k = k (over at 1) 1 r
closed_pattern at r k = literal_read at r (λ ps n r1. k (ps ++ over at n) n r1)

abbrev pub pattern_step : PatternLevel → ℕ → List Terminal → Goes → Reading
pattern_step Patterns at i k = Ask (Pattern StarPattern) at i (λ ps n r. on_mark 6 r
    (Ask (Entries Element) (1 + (at + n)) (after r)
    (λ es m r1. k (ps ++ (alone es ++ over at (1 + (n + m)))) (1 + (n + m)) r1)) (k ps n r))
pattern_step StarPattern at i k = on_lead 7 i (k (over at 2) 2 (after (after i))) (Ask (Pattern AsPattern) at i k)
pattern_step AsPattern at i k = Ask (Pattern OrPattern) at i
    (λ ps n r. on_mark 7 r (k (ps ++ over at (2 + n)) (2 + n) (after (after r))) (k ps n r))
pattern_step OrPattern at i k = Ask (Pattern ClosedPattern) at i (λ ps n r. on_mark 8 r
    (Ask Alternatives (1 + (at + n)) (after r) (λ qs m r1. k (ps ++ (qs ++ over at (1 + (n + m)))) (1 + (n + m)) r1)) (k ps n r))
pattern_step ClosedPattern at i k = closed_pattern at i k

abbrev pub alternatives_step : ℕ → List Terminal → Goes → Reading
alternatives_step at i k = Ask (Pattern ClosedPattern) at i (λ ps n r. on_mark 8 r
    (Ask Alternatives (1 + (at + n)) (after r) (λ qs m r1. k (ps ++ qs) (1 + (n + m)) r1)) (k ps n r))

-- ---- Lists.

abbrev pub entry_starts : PatternItem → List Terminal → Bool
entry_starts Element r = leb 7 (lead_of r)
entry_starts KeyPattern (Op DoubleStar ∷ r) = true
entry_starts i r = leb 20 (lead_of r)

abbrev pub entries_step : PatternItem → ℕ → List Terminal → (List EntryPlaces → ℕ → List Terminal → Reading) → Reading
entries_step i at r k = cond (entry_starts i r)
    (Ask (Entry i) at r (λ e n r1. on_mark 6 r1
    (Ask (Entries i) (1 + (at + n)) (after r1) (λ es m r2. k (e ∷ es) (1 + (n + m)) r2)) (k (e ∷ []) n r1)))
    (k [] 0 r)

abbrev pub entry_step : PatternItem → ℕ → List Terminal → (EntryPlaces → ℕ → List Terminal → Reading) → Reading
entry_step Element at i k = Ask (Pattern StarPattern) at i (λ ps n r. k (Alone ps) n r)
entry_step KeyPattern at (Op DoubleStar ∷ r) k = k Rest 2 (after r)
entry_step KeyPattern at i k = key_read at i
    (λ ks n r. Ask (Pattern AsPattern) (1 + (at + n)) (after r) (λ ps m r1. k (Keyed ks ps) (1 + (n + m)) r1))
entry_step ClassArgument at i k = cond (name_mark i == 5)
    (Ask (Pattern AsPattern) (2 + at) (after (after i)) (λ ps n r. k (Named ps) (2 + n) r))
    (Ask (Pattern AsPattern) at i (λ ps n r. k (Alone ps) n r))
