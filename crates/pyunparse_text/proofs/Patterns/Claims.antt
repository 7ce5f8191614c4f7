-- Carries: the laws of written patterns. On: what the induction says of a pattern, and its step for each form without a list.
use Rattle.std.proofs.Common.{◌≡◌, refl, sym, subst, ◌≤◌, ◌+◌, arith, List, [], ◌∷◌, ◌++◌, length, length-append, Some, None, Bool, true}
use Rattle.std.proofs.Common.{false}
use Rattle.std.specs.Prelude.{if◌then◌else◌}
use Rattle.pylex_lexeme.specs.declared.kinds.Exact.TheVariants.{LPar, RPar, Star, Dot, VBar}
use Rattle.pytoken.specs.declared.keywords.Keyword.TheVariants as Key
use Rattle.pytree_node.specs.declared.operators.Context.TheVariants.{Load}
use Rattle.pygrammar.specs.declared.levels.Level.TheVariants.{Sum}
use Rattle.pygrammar.specs.declared.pattern_levels.PatternLevel.{PatternLevel}
use Rattle.pygrammar.specs.declared.pattern_levels.PatternLevel.TheVariants.{Patterns, StarPattern, AsPattern, OrPattern, ClosedPattern}
use Rattle.pytree_node.specs.Values
use Rattle.pytree_node.specs.Trees
use Rattle.pytree_node.specs.Trees.{Expr, Identifier, Pattern, absent_pattern, present_pattern, patterns}
use Rattle.pytoken.specs.Terminals.{Terminal, Spelled, Op, Word, Ident, in_form}
use Rattle.pygrammar.specs.PatternOperators.{below_pattern, captured, is_wildcard, singleton_word}
use Rattle.pygrammar.specs.PatternEntries.{as_named}
use Rattle.pygrammar.specs.PatternGrammar as P
use Rattle.pyunparse_text.specs.Written.{separated, constant_terminal, written}
use Rattle.pyunparse_text.specs.WrittenPatterns.{pattern_leads, pattern_reaches, target_name, fit_pattern, sequence_of, written_pattern}
use Rattle.pyunparse_text.specs.WrittenPatterns.{each_pattern}
use Rattle.pyunparse_text.specs.Terminals.{terminal}
use Rattle.pyunparse_text.proofs.Fewest.Counted.{one, AtLeast, none, token, both, fewer, in_brackets}
use Rattle.pyunparse_text.proofs.Fewest.Reach.{length_bracketed}
use Rattle.pyunparse_text.proofs.Fewest.Less.{length_separated, length_with_comma}
use Rattle.pyunparse_text.proofs.Fewest.Claims.{given}
use Rattle.pyunparse_text.proofs.Patterns.Values.{Told, told_front, told_after, told_rest, literal_again, literal_short, singleton_plain}
use Rattle.pyunparse_text.proofs.Patterns.Values.{class_again, class_short, attribute_written}

-- ---- What may stand at a level: a MatchStar has one place.

abbrev pub takes_star : PatternLevel → Bool
takes_star StarPattern = true
takes_star _ = false

abbrev pub stands : PatternLevel → Pattern → Bool
stands l (Trees.MatchStar name) = takes_star l
stands l _ = true

pub none_below : (l : PatternLevel) → takes_star (below_pattern l) ≡ false
none_below Patterns = refl
none_below StarPattern = refl
none_below AsPattern = refl
none_below OrPattern = refl
none_below ClosedPattern = refl

stands_below : (l : PatternLevel) (p : Pattern) → stands (below_pattern l) p ≡ true → stands l p ≡ true
stands_below l (Trees.MatchStar name) h = let n = none_below l in absurd (cc)
stands_below l _ h = refl

-- ---- The claim.

abbrev pub Ready : Pattern → Type 0
Ready p = (m : PatternLevel) → stands m p ≡ true → P.DerivesPattern m (written_pattern terminal m p) p

pub record Claim (l : PatternLevel) (ts : List Terminal) (p : Pattern) : Type 0 where
  pub ready : Told ts → Ready p
  pub place : stands l p ≡ true
  pub short : AtLeast (written_pattern one l p) ts

pub here : {l : PatternLevel} {ts : List Terminal} {p : Pattern} → Claim l ts p → Told ts
    → P.DerivesPattern l (written_pattern terminal l p) p
here {l} c h = c.ready h l c.place

-- ---- Levels.

pub from_closed : (l : PatternLevel) {ts : List Terminal} {p : Pattern} → P.DerivesPattern ClosedPattern ts p → P.DerivesPattern l ts p
from_closed Patterns d = P.next (P.next (P.next d))
from_closed StarPattern d = P.next (P.next (P.next d))
from_closed AsPattern d = P.next (P.next d)
from_closed OrPattern d = P.next d
from_closed ClosedPattern d = d

-- forms of the two levels with brackets, at each level
fits_as : (l : PatternLevel) {ts : List Terminal} {p : Pattern} → P.DerivesPattern AsPattern ts p
    → P.DerivesPattern l (fit_pattern terminal l AsPattern ts) p
unfolding fit_pattern pattern_reaches pattern_leads
fits_as Patterns d = P.next d
fits_as StarPattern d = P.next d
fits_as AsPattern d = d
fits_as OrPattern d = P.next (P.group d)
fits_as ClosedPattern d = P.group d

fits_or : (l : PatternLevel) {ts : List Terminal} {p : Pattern} → P.DerivesPattern OrPattern ts p
    → P.DerivesPattern l (fit_pattern terminal l OrPattern ts) p
unfolding fit_pattern pattern_reaches pattern_leads
fits_or Patterns d = P.next (P.next d)
fits_or StarPattern d = P.next (P.next d)
fits_or AsPattern d = P.next d
fits_or OrPattern d = d
fits_or ClosedPattern d = P.group (P.next d)

-- at the next level there are no fewer tokens
as_step : (l : PatternLevel) (ts : List (Unit {0}))
    → length (fit_pattern one l AsPattern ts) ≤ length (fit_pattern one (below_pattern l) AsPattern ts)
unfolding fit_pattern pattern_reaches pattern_leads
as_step AsPattern ts = omega (arith, length_bracketed ts)
as_step Patterns ts = omega arith
as_step StarPattern ts = omega arith
as_step OrPattern ts = omega arith
as_step ClosedPattern ts = omega arith

or_step : (l : PatternLevel) (ts : List (Unit {0}))
    → length (fit_pattern one l OrPattern ts) ≤ length (fit_pattern one (below_pattern l) OrPattern ts)
unfolding fit_pattern pattern_reaches pattern_leads
or_step OrPattern ts = omega (arith, length_bracketed ts)
or_step Patterns ts = omega arith
or_step StarPattern ts = omega arith
or_step AsPattern ts = omega arith
or_step ClosedPattern ts = omega arith

sequence_step : (l : PatternLevel) (tss : List (List (Unit {0})))
    → length (sequence_of one l tss) ≤ length (sequence_of one (below_pattern l) tss)
sequence_step Patterns [] = omega arith
sequence_step Patterns (ts ∷ tss) =
    rw length_with_comma (simp length-append (omega (arith, length_separated tt (ts ∷ tss), length_separated tt tss)))
sequence_step StarPattern tss = omega arith
sequence_step AsPattern tss = omega arith
sequence_step OrPattern tss = omega arith
sequence_step ClosedPattern tss = omega arith

step_less : (l : PatternLevel) (p : Pattern) → length (written_pattern one l p) ≤ length (written_pattern one (below_pattern l) p)
unfolding written_pattern
step_less l (Trees.MatchSequence inner) = sequence_step l _
step_less l (Trees.MatchAs (present_pattern p) name) = as_step l _
step_less l (Trees.MatchAs absent_pattern name) = omega arith
step_less l (Trees.MatchOr inner) = or_step l _
step_less l _ = omega arith

-- in brackets
group_more : (p : Pattern) → length (written_pattern one ClosedPattern p) ≤ length (written_pattern one AsPattern p) + 2
unfolding written_pattern fit_pattern pattern_reaches pattern_leads
group_more (Trees.MatchAs (present_pattern p) name) = omega (arith, length_bracketed (written_pattern one OrPattern p ++ (tt ∷ (tt ∷ []))))
group_more (Trees.MatchAs absent_pattern name) = omega arith
group_more (Trees.MatchOr inner) = omega (arith, length_bracketed (separated tt (each_pattern one ClosedPattern inner)))
group_more _ = omega arith

pub next_claim : {l : PatternLevel} {ts : List Terminal} {p : Pattern} → Claim (below_pattern l) ts p → Claim l ts p
next_claim {l} {ts} {p} c = record { ready = c.ready; place = stands_below l p c.place; short = fewer (step_less l p) c.short }

unstarred : (p : Pattern) → stands AsPattern p ≡ true → stands ClosedPattern p ≡ true
unstarred (Trees.MatchStar name) h = absurd (cc)
unstarred _ h = refl

pub group_claim : {ts : List Terminal} {p : Pattern} → Claim AsPattern ts p → Claim ClosedPattern (Op LPar ∷ (ts ++ (Op RPar ∷ []))) p
group_claim {ts} {p} c = record {
  ready = λ h. c.ready (told_front ts (Op RPar ∷ []) (told_rest h));
  place = unstarred p c.place;
  short = fewer (omega (arith, group_more p, length_bracketed (written_pattern one AsPattern p))) (in_brackets LPar RPar c.short);
}

-- ---- Closed patterns without a list.

pub closed : (p : Pattern) (us ts : List Terminal) → ((m : PatternLevel) → written_pattern terminal m p ≡ us)
    → stands ClosedPattern p ≡ true
    → (Told ts → P.DerivesPattern ClosedPattern us p) → AtLeast (written_pattern one ClosedPattern p) ts → Claim ClosedPattern ts p
closed p us ts w a d s = record {
  ready = λ h m i. subst (λ x. P.DerivesPattern m x p) (sym (w m)) (from_closed m (d h));
  place = a;
  short = s;
}

pub literal_claim : {ts : List Terminal} {e : Expr} → P.LiteralOf ts e → Claim ClosedPattern ts (Trees.MatchValue e)
unfolding written_pattern
literal_claim {ts} {e} p =
    closed (Trees.MatchValue e) (written terminal Sum e) ts (λ m. refl) refl (λ h. P.literal (literal_again p h)) (literal_short p)

pub value_claim : {ts : List Terminal} {e : Expr} (x : Spelled) → P.ClassOf ts e
    → Claim ClosedPattern (ts ++ (Op Dot ∷ (Ident x ∷ []))) (Trees.MatchValue (Trees.Attribute e x.form Load))
unfolding written_pattern
value_claim {ts} {e} x p =
    closed _ _ _ (λ m. attribute_written terminal e x.form) refl (λ h. P.value _ (class_again p))
    (subst (λ z. AtLeast z (ts ++ (Op Dot ∷ (Ident x ∷ [])))) (sym (attribute_written one e x.form))
    (both (class_short p) (token refl (token refl none))))

pub singleton_claim : {t : Terminal} {v : Values.Value} → singleton_word t ≡ Some v → Claim ClosedPattern (t ∷ []) (Trees.MatchSingleton v)
unfolding written_pattern
singleton_claim {t} {v} q =
    closed (Trees.MatchSingleton v) (constant_terminal v ∷ []) (t ∷ []) (λ m. refl) refl (λ h. P.singleton (again t v q))
    (token (singleton_plain t v q) none)
  where
    again : (t : Terminal) (v : Values.Value) → singleton_word t ≡ Some v → singleton_word (constant_terminal v) ≡ Some v
    again (Word Key.None) v q = given (λ v. singleton_word (constant_terminal v) ≡ Some v) q refl
    again (Word Key.True) v q = given (λ v. singleton_word (constant_terminal v) ≡ Some v) q refl
    again (Word Key.False) v q = given (λ v. singleton_word (constant_terminal v) ≡ Some v) q refl
    again _ v q = absurd (cc)

-- ---- Names that are captured.

abbrev pub spelled : Identifier → Spelled
spelled x = record { spelling = x; form = x }

captured_again : (x : Identifier) → captured (target_name (captured x)) ≡ captured x
captured_again x = by (is_wildcard x) refl
  where
    by : (b : Bool) → is_wildcard x ≡ b → captured (target_name (if b then None else Some x)) ≡ (if b then None else Some x)
    by true q = refl
    by false q = rw q refl

pub capture_claim : {x : Spelled} → Claim ClosedPattern (Ident x ∷ []) (Trees.MatchAs absent_pattern (captured x.form))
unfolding written_pattern
capture_claim {x} =
    closed _ _ _ (λ m. refl) refl
    (λ h. subst (λ n. P.DerivesPattern ClosedPattern (in_form (target_name (captured x.form)) ∷ []) (Trees.MatchAs absent_pattern n))
    (captured_again x.form) (P.capture {x = spelled (target_name (captured x.form))}))
    (token refl none)

pub star_claim : {x : Spelled} → Claim StarPattern (Op Star ∷ (Ident x ∷ [])) (Trees.MatchStar (captured x.form))
unfolding written_pattern
star_claim {x} = record { ready = λ h m i. at m i; place = refl; short = token refl (token refl none) }
  where
    at : (m : PatternLevel) → takes_star m ≡ true
        → P.DerivesPattern m (Op Star ∷ (in_form (target_name (captured x.form)) ∷ [])) (Trees.MatchStar (captured x.form))
    at StarPattern i =
        subst (λ n. P.DerivesPattern StarPattern (Op Star ∷ (in_form (target_name (captured x.form)) ∷ [])) (Trees.MatchStar n))
        (captured_again x.form) (P.star {x = spelled (target_name (captured x.form))})
    at _ i = absurd (cc)

pub record Named (p : Pattern) (x : Identifier) (q : Pattern) : Type 0 where
  pub tree : Trees.MatchAs (present_pattern p) (Some x) ≡ q
  pub again : as_named p x ≡ Some (Trees.MatchAs (present_pattern p) (Some x))

pub named : (p : Pattern) (x : Identifier) (q : Pattern) → as_named p x ≡ Some q → Named p x q
named p x q h = by (is_wildcard x) refl h
  where
    by : (b : Bool) → is_wildcard x ≡ b → as_named p x ≡ Some q → Named p x q
    by true w h = absurd (let z = rw w at h in cc)
    by false w h = record { tree = (let z = rw w at h in cc); again = rw w refl }

as_form : {ts : List Terminal} {p : Pattern} (x : Spelled) → Claim OrPattern ts p
    → as_named p x.form ≡ Some (Trees.MatchAs (present_pattern p) (Some x.form))
    → Claim AsPattern (ts ++ (Word Key.As ∷ (Ident x ∷ []))) (Trees.MatchAs (present_pattern p) (Some x.form))
unfolding written_pattern fit_pattern pattern_reaches pattern_leads
as_form {ts} {p} x c q = record {
  ready = λ h m i. fits_as m (P.as_name (spelled x.form) (here c (told_front ts (Word Key.As ∷ (Ident x ∷ [])) h)) q);
  place = refl;
  short = both c.short (token refl (token refl none));
}

pub as_claim : {ts : List Terminal} {p q : Pattern} (x : Spelled) → Claim OrPattern ts p → as_named p x.form ≡ Some q
    → Claim AsPattern (ts ++ (Word Key.As ∷ (Ident x ∷ []))) q
as_claim {ts} {p} {q} x c h = let n = named p x.form q h in subst (Claim AsPattern (ts ++ (Word Key.As ∷ (Ident x ∷ []))))
    n.tree (as_form x c n.again)

-- ---- Alternatives.

pub record AlternativesClaim (us : List Terminal) (ps : List Pattern) : Type 0 where
  pub list : Told us → P.Alternatives (separated (Op VBar) (each_pattern terminal ClosedPattern (patterns ps))) ps
  pub short : AtLeast (separated tt (each_pattern one ClosedPattern (patterns ps))) us
  pub some : (ps ≡ []) → ⊥

pub last_alternative_claim : {ts : List Terminal} {p : Pattern} → Claim ClosedPattern ts p → AlternativesClaim ts (p ∷ [])
unfolding each_pattern
last_alternative_claim c = record { list = λ h. P.last_alternative (here c h); short = c.short; some = λ q. absurd (cc) }

pub alternative_claim : {ts us : List Terminal} {p : Pattern} {ps : List Pattern} → Claim ClosedPattern ts p → AlternativesClaim us ps
    → AlternativesClaim (ts ++ (Op VBar ∷ us)) (p ∷ ps)
unfolding each_pattern
alternative_claim {ts} {us} {p} {ps} c a = more ps a
  where
    more : (ps : List Pattern) → AlternativesClaim us ps → AlternativesClaim (ts ++ (Op VBar ∷ us)) (p ∷ ps)
    more [] a = absurd (a.some refl)
    more (q ∷ qs) a = record {
      list = λ h. P.alternative (here c (told_front ts (Op VBar ∷ us) h)) (a.list (told_after ts us (Op VBar) h));
      short = both c.short (token refl a.short);
      some = λ e. absurd (cc);
    }

pub alternatives_claim : {ts us : List Terminal} {p : Pattern} {ps : List Pattern} → Claim ClosedPattern ts p → AlternativesClaim us ps
    → Claim OrPattern (ts ++ (Op VBar ∷ us)) (Trees.MatchOr (patterns (p ∷ ps)))
unfolding written_pattern each_pattern fit_pattern pattern_reaches pattern_leads
alternatives_claim {ts} {us} {p} {ps} c a = more ps a
  where
    more : (ps : List Pattern) → AlternativesClaim us ps → Claim OrPattern (ts ++ (Op VBar ∷ us)) (Trees.MatchOr (patterns (p ∷ ps)))
    more [] a = absurd (a.some refl)
    more (q ∷ qs) a = record {
      ready = λ h m i. fits_or m (P.alternatives (here c (told_front ts (Op VBar ∷ us) h)) (a.list (told_after ts us (Op VBar) h)));
      place = refl;
      short = both c.short (token refl a.short);
    }
