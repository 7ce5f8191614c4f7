-- Carries: the laws of written patterns. On: the lists of sequences, mappings and class patterns.
use Rattle.std.proofs.Common.{◌≡◌, refl, sym, ap, subst, arith, List, [], ◌∷◌, ◌++◌, append_assoc, length-append, map, Some, None, Bool}
use Rattle.std.proofs.Common.{true, false}
use Rattle.std.specs.Prelude.{if◌then◌else◌, not}
use Rattle.std.proofs.lemmas.Bool.{and_parts}
use Rattle.pylex_lexeme.specs.declared.kinds.Exact.TheVariants.{LPar, RPar, LSqb, RSqb, LBrace, RBrace, Colon, Comma, Equal, DoubleStar}
use Rattle.pygrammar.specs.declared.levels.Level.TheVariants.{Sum, Primary}
use Rattle.pygrammar.specs.declared.pattern_levels.PatternLevel.{PatternLevel}
use Rattle.pygrammar.specs.declared.pattern_levels.PatternLevel.TheVariants.{Patterns, StarPattern, AsPattern, OrPattern, ClosedPattern}
use Rattle.pytree_node.specs.Trees
use Rattle.pytree_node.specs.Trees.{Expr, Pattern, no_pattern, a_pattern}
use Rattle.pytoken.specs.Terminals.{Terminal, Spelled, Op, Ident, in_form}
use Rattle.pygrammar.specs.PatternOperators.{is_wildcard}
use Rattle.pygrammar.specs.PatternEntries as Entries
use Rattle.pygrammar.specs.PatternEntries.{PatternItem, Element, KeyPattern, ClassArgument, PatternEntry, Alone, Keyed, Rest, Named}
use Rattle.pygrammar.specs.PatternEntries.{elements}
use Rattle.pygrammar.specs.PatternEntries.{is_mapping, pattern_keys, rest_of, mapped, all_named, are_class_arguments, named_attributes}
use Rattle.pygrammar.specs.PatternEntries.{class_of}
use Rattle.pygrammar.specs.PatternGrammar as P
use Rattle.pyunparse_text.specs.Written.{Maker, separated, free, leading, trailing, tight, enclosed, listed, written}
use Rattle.pyunparse_text.specs.WrittenPatterns.{rest_name, sequence_of, written_pattern, each_pattern, key_patterns, named_patterns}
use Rattle.pyunparse_text.specs.Terminals.{terminal}
use Rattle.pyunparse_text.proofs.Fewest.Counted.{one as marks, AtLeast, none, token, both, fewer, in_brackets}
use Rattle.pyunparse_text.proofs.Fewest.Less.{length_separated}
use Rattle.pyunparse_text.proofs.Fewest.Claims.{given}
use Rattle.pyunparse_text.proofs.Patterns.Values.{Told, told_front, told_after, told_rest, class_again, class_short, key_again, key_short}
use Rattle.pyunparse_text.proofs.Patterns.Claims.{Claim, Ready, here, from_closed, closed, spelled}

-- an entry in its list
abbrev pub entry_in : {A : Type 0} → Maker A → PatternItem → PatternEntry → List A
entry_in make Element (Alone p) = written_pattern make StarPattern p
entry_in make KeyPattern (Keyed k p) = written make Sum k ++ (trailing make Colon ∷ written_pattern make AsPattern p)
entry_in make KeyPattern (Rest x) = leading make DoubleStar ∷ (free make (in_form x) ∷ [])
entry_in make ClassArgument (Alone p) = written_pattern make AsPattern p
entry_in make ClassArgument (Named x p) = free make (in_form x) ∷ (tight make Equal ∷ written_pattern make AsPattern p)
entry_in make _ _ = []

-- as it is read, and its marks
abbrev pub entry : PatternItem → PatternEntry → List Terminal
entry i e = entry_in terminal i e

abbrev pub entry_marks : PatternItem → PatternEntry → List (Unit {0})
entry_marks i e = entry_in marks i e

-- it is one of its list, and is given by its own terminals
abbrev pub Standing : PatternItem → PatternEntry → Type 0
Standing Element (Alone p) = P.DerivesPattern StarPattern (written_pattern terminal StarPattern p) p
Standing KeyPattern (Keyed k p) = P.KeyOf (written terminal Sum k) k × P.DerivesPattern AsPattern (written_pattern terminal AsPattern p) p
Standing KeyPattern (Rest x) = is_wildcard x ≡ false
Standing ClassArgument (Alone p) = P.DerivesPattern AsPattern (written_pattern terminal AsPattern p) p
Standing ClassArgument (Named x p) = P.DerivesPattern AsPattern (written_pattern terminal AsPattern p) p
Standing _ _ = ⊥

abbrev pub Standings : PatternItem → List PatternEntry → Type 0
Standings i [] = Unit {0}
Standings i (e ∷ es) = Standing i e × Standings i es

-- an element is a pattern alone
abbrev pub Shaped : PatternItem → PatternEntry → Type 0
Shaped Element (Alone p) = Unit {0}
Shaped Element _ = ⊥
Shaped _ _ = Unit {0}

abbrev pub AllShaped : PatternItem → List PatternEntry → Type 0
AllShaped i [] = Unit {0}
AllShaped i (e ∷ es) = Shaped i e × AllShaped i es

pub record PieceClaim (i : PatternItem) (ts : List Terminal) (e : PatternEntry) : Type 0 where
  pub standing : Told ts → Standing i e
  pub shaped : Shaped i e
  pub short : AtLeast (entry_marks i e) ts

pub record ListingClaim (i : PatternItem) (us : List Terminal) (es : List PatternEntry) : Type 0 where
  pub standing : Told us → Standings i es
  pub shaped : AllShaped i es
  pub short : AtLeast (separated tt (map (entry_marks i) es)) us

pub no_entry_claim : (i : PatternItem) → ListingClaim i [] []
no_entry_claim i = record { standing = λ h. tt; shaped = tt; short = none }

pub last_entry_claim : {i : PatternItem} {ts : List Terminal} {e : PatternEntry} → PieceClaim i ts e → ListingClaim i ts (e ∷ [])
last_entry_claim p = record { standing = λ h. (p.standing h, tt); shaped = (p.shaped, tt); short = p.short }

pub entry_claim : {i : PatternItem} {ts us : List Terminal} {e : PatternEntry} {es : List PatternEntry}
    → PieceClaim i ts e → ListingClaim i us es
    → ListingClaim i (ts ++ (Op Comma ∷ us)) (e ∷ es)
entry_claim {i} {ts} {us} {e} {es} p c = record {
  standing = λ h. (p.standing (told_front ts (Op Comma ∷ us) h), c.standing (told_after ts us (Op Comma) h));
  shaped = (p.shaped, c.shaped);
  short = fewer (omega (
    arith,
    length_separated tt (entry_marks i e ∷ map (entry_marks i) es),
    length_separated tt (map (entry_marks i) es),
    length-append (entry_marks i e) (tt ∷ separated tt (map (entry_marks i) es)),
  )) (both p.short (token refl c.short));
}

piece_of : (i : PatternItem) (e : PatternEntry) → Standing i e → P.PatternPiece i (entry i e) e
piece_of Element (Alone p) s = P.element s
piece_of KeyPattern (Keyed k p) s = P.key_pattern s.0 s.1
piece_of KeyPattern (Rest x) s = P.rest {x = spelled x} s
piece_of ClassArgument (Alone p) s = P.argument s
piece_of ClassArgument (Named x p) s = P.named_argument {x = spelled x} s
piece_of _ _ s = absurd s

listing_of : (i : PatternItem) (es : List PatternEntry) → Standings i es → P.PatternListing i (separated (Op Comma) (map (entry i) es)) es
listing_of i [] s = P.no_entry
listing_of i (e ∷ []) s = P.last_entry (piece_of i e s.0)
listing_of i (e ∷ (f ∷ fs)) s = P.entry (piece_of i e s.0) (listing_of i (f ∷ fs) s.1)

-- ---- Pieces.

pub element_claim : {ts : List Terminal} {p : Pattern} → Claim StarPattern ts p → PieceClaim Element ts (Alone p)
element_claim c = record { standing = λ h. here c h; shaped = tt; short = c.short }

pub key_claim : {ts us : List Terminal} {k : Expr} {p : Pattern} → P.KeyOf ts k → Claim AsPattern us p
    → PieceClaim KeyPattern (ts ++ (Op Colon ∷ us)) (Keyed k p)
key_claim {ts} {us} q c = record {
  standing = λ h. (key_again q (told_front ts (Op Colon ∷ us) h), here c (told_after ts us (Op Colon) h));
  shaped = tt;
  short = both (key_short q) (token refl c.short);
}

pub rest_claim : {x : Spelled} → is_wildcard x.form ≡ false → PieceClaim KeyPattern (Op DoubleStar ∷ (Ident x ∷ [])) (Rest x.form)
rest_claim q = record { standing = λ h. q; shaped = tt; short = token refl (token refl none) }

pub argument_claim : {ts : List Terminal} {p : Pattern} → Claim AsPattern ts p → PieceClaim ClassArgument ts (Alone p)
argument_claim c = record { standing = λ h. here c h; shaped = tt; short = c.short }

pub named_claim : {x : Spelled} {ts : List Terminal} {p : Pattern} → Claim AsPattern ts p
    → PieceClaim ClassArgument (Ident x ∷ (Op Equal ∷ ts)) (Named x.form p)
named_claim c = record { standing = λ h. here c (told_rest (told_rest h)); shaped = tt; short = token refl (token refl c.short) }

-- ---- Sequences.

elements_are : {A : Type 0} (make : Maker A) (es : List PatternEntry) → AllShaped Element es
    → each_pattern make StarPattern (elements es) ≡ map (entry_in make Element) es
unfolding each_pattern
elements_are make [] s = refl
elements_are make (Alone p ∷ es) s = ap (λ tss. written_pattern make StarPattern p ∷ tss) (elements_are make es s.1)
elements_are make (_ ∷ es) s = absurd s.0

abbrev between : List PatternEntry → List Terminal
between es = separated (Op Comma) (map (entry Element) es)

sequence_ready : (es : List PatternEntry) → AllShaped Element es → Standings Element es → Ready (Trees.MatchSequence (elements es))
unfolding written_pattern
sequence_ready es s k m i =
    subst (λ tss. P.DerivesPattern m (sequence_of terminal m tss) (Trees.MatchSequence (elements es))) (sym (elements_are terminal es s))
    (at m es s k)
  where
    square : (m : PatternLevel) (es : List PatternEntry) → Standings Element es
        → P.DerivesPattern m (Op LSqb ∷ (between es ++ (Op RSqb ∷ []))) (Trees.MatchSequence (elements es))
    square m es k = from_closed m (P.square_sequence (listing_of Element es k))

    at : (m : PatternLevel) (es : List PatternEntry) → AllShaped Element es → Standings Element es
        → P.DerivesPattern m (sequence_of terminal m (map (entry Element) es)) (Trees.MatchSequence (elements es))
    at Patterns [] s k = square Patterns [] k
    at Patterns (Alone p ∷ es) s k = P.open_sequence k.0 (listing_of Element es k.1)
    at Patterns (_ ∷ es) s k = absurd s.0
    at StarPattern es s k = square StarPattern es k
    at AsPattern es s k = square AsPattern es k
    at OrPattern es s k = square OrPattern es k
    at ClosedPattern es s k = square ClosedPattern es k

sequence_marks : (es : List PatternEntry) → AllShaped Element es
    → written_pattern marks ClosedPattern (Trees.MatchSequence (elements es)) ≡ tt ∷
    (separated tt (map (entry_marks Element) es) ++ (tt ∷ []))
unfolding written_pattern
sequence_marks es s = ap (sequence_of marks ClosedPattern) (elements_are marks es s)

pub square_claim : {ts : List Terminal} {es : List PatternEntry} → ListingClaim Element ts es
    → Claim ClosedPattern (Op LSqb ∷ (ts ++ (Op RSqb ∷ []))) (Trees.MatchSequence (elements es))
square_claim {ts} {es} c = record {
  ready = λ h. sequence_ready es c.shaped (c.standing (told_front ts (Op RSqb ∷ []) (told_rest h)));
  place = refl;
  short = subst (λ z. AtLeast z (Op LSqb ∷ (ts ++ (Op RSqb ∷ [])))) (sym (sequence_marks es c.shaped)) (in_brackets LSqb RSqb c.short);
}

pub empty_claim : Claim ClosedPattern (Op LPar ∷ (Op RPar ∷ [])) (Trees.MatchSequence no_pattern)
empty_claim =
    record {
      ready = λ h. sequence_ready [] tt tt;
      place = refl;
      short = subst (λ z. AtLeast z (Op LPar ∷ (Op RPar ∷ [])))
          (sym (sequence_marks [] tt)) (token refl (token refl none));
    }

-- the first of a list, and the others
first_claim : {ts us : List Terminal} {p : Pattern} {es : List PatternEntry} → Claim StarPattern ts p → ListingClaim Element us es
    → ListingClaim Element (ts ++ (Op Comma ∷ us)) (Alone p ∷ es)
first_claim c d = entry_claim (element_claim c) d

pub round_claim : {ts us : List Terminal} {p : Pattern} {es : List PatternEntry} → Claim StarPattern ts p → ListingClaim Element us es
    → Claim ClosedPattern (Op LPar ∷ (ts ++ (Op Comma ∷ (us ++ (Op RPar ∷ []))))) (Trees.MatchSequence (a_pattern p (elements es)))
round_claim {ts} {us} {p} {es} c d =
    let l : ListingClaim Element (ts ++ (Op Comma ∷ us)) (Alone p ∷ es) = first_claim c d in
    record {
      ready = λ h.
          let more : Told (us ++ (Op RPar ∷ [])) = told_after ts (us ++ (Op RPar ∷ [])) (Op Comma) (told_rest h) in
          sequence_ready (Alone p ∷ es) l.shaped (
            here c (told_front ts (Op Comma ∷ (us ++ (Op RPar ∷ [])))
                (told_rest h)),
            d.standing (told_front us (Op RPar ∷ []) more),
          );
      place = refl;
      short = subst (λ z. AtLeast z (Op LPar ∷ (ts ++ (Op Comma ∷ (us ++ (Op RPar ∷ [])))))) (sym (sequence_marks (Alone p ∷ es) l.shaped))
          (subst (λ z. AtLeast (tt ∷ (separated tt (map (entry_marks Element) (Alone p ∷ es)) ++ (tt ∷ []))) (Op LPar ∷ z))
          (append_assoc ts (Op Comma ∷ us) (Op RPar ∷ [])) (in_brackets LPar RPar l.short));
    }

pub open_claim : {ts us : List Terminal} {p : Pattern} {es : List PatternEntry} → Claim StarPattern ts p → ListingClaim Element us es
    → Claim Patterns (ts ++ (Op Comma ∷ us)) (Trees.MatchSequence (a_pattern p (elements es)))
unfolding written_pattern each_pattern
open_claim {ts} {us} {p} {es} c d = record {
  ready = λ h. sequence_ready (Alone p ∷ es) (tt, d.shaped) (
    here c (told_front ts (Op Comma ∷ us) h),
    d.standing (told_after ts us (Op Comma) h),
  );
  place = refl;
  short = subst (λ z. AtLeast (written_pattern marks StarPattern p ++ (tt ∷ separated tt z)) (ts ++ (Op Comma ∷ us)))
      (sym (elements_are marks es d.shaped)) (both c.short (token refl d.short));
}

-- ---- Mappings.

keys_are : {A : Type 0} (make : Maker A) (es : List PatternEntry) → is_mapping es ≡ true
    → key_patterns make (pattern_keys es) (Entries.key_patterns es) ++ rest_name make (rest_of es) ≡ map (entry_in make KeyPattern) es
unfolding key_patterns
keys_are make [] h = refl
keys_are make (Keyed k p ∷ es) h =
    ap (λ tss. (written make Sum k ++ (trailing make Colon ∷ written_pattern make AsPattern p)) ∷ tss) (keys_are make es h)
keys_are make (Rest x ∷ []) h = refl
keys_are make (Rest x ∷ (e ∷ es)) h = absurd (cc)
keys_are make (Alone p ∷ es) h = absurd (cc)
keys_are make (Named x p ∷ es) h = absurd (cc)

mapping_written : {A : Type 0} (make : Maker A) (es : List PatternEntry) → is_mapping es ≡ true → (m : PatternLevel)
    → written_pattern make m (Trees.MatchMapping (pattern_keys es) (Entries.key_patterns es) (rest_of es)) ≡ enclosed make
    (leading make LBrace) RBrace (listed make (map (entry_in make KeyPattern) es))
unfolding written_pattern
mapping_written make es h m = ap (λ tss. enclosed make (leading make LBrace) RBrace (listed make tss)) (keys_are make es h)

abbrev pub mapping_tree : List PatternEntry → Pattern
mapping_tree es = Trees.MatchMapping (pattern_keys es) (Entries.key_patterns es) (rest_of es)

mapping_form : {ts : List Terminal} {es : List PatternEntry} → ListingClaim KeyPattern ts es → is_mapping es ≡ true
    → Claim ClosedPattern (Op LBrace ∷ (ts ++ (Op RBrace ∷ []))) (mapping_tree es)
mapping_form {ts} {es} c q =
    let m : mapped es ≡ Some (mapping_tree es) = rw q refl in
    closed (mapping_tree es) _ _ (mapping_written terminal es q) refl
    (λ h. P.mapping (listing_of KeyPattern es (c.standing (told_front ts (Op RBrace ∷ []) (told_rest h)))) m)
    (subst (λ z. AtLeast z (Op LBrace ∷ (ts ++ (Op RBrace ∷ [])))) (sym (mapping_written marks es q ClosedPattern))
    (in_brackets LBrace RBrace c.short))

pub mapping_claim : {ts : List Terminal} {es : List PatternEntry} {p : Pattern} → ListingClaim KeyPattern ts es → mapped es ≡ Some p
    → Claim ClosedPattern (Op LBrace ∷ (ts ++ (Op RBrace ∷ []))) p
mapping_claim {ts} {es} {p} c h = by (is_mapping es) refl h
  where
    by : (b : Bool) → is_mapping es ≡ b → (if b then Some (mapping_tree es) else None) ≡ Some p
        → Claim ClosedPattern (Op LBrace ∷ (ts ++ (Op RBrace ∷ []))) p
    by true q h = given (Claim ClosedPattern (Op LBrace ∷ (ts ++ (Op RBrace ∷ [])))) h (mapping_form c q)
    by false q h = absurd (cc)

-- ---- Class patterns.

pub none_alone : (es : List PatternEntry) → all_named es ≡ true → elements es ≡ no_pattern
none_alone [] h = refl
none_alone (Named x p ∷ es) h = none_alone es h
none_alone (Alone p ∷ es) h = absurd (cc)
none_alone (Keyed k p ∷ es) h = absurd (cc)
none_alone (Rest x ∷ es) h = absurd (cc)

named_are : {A : Type 0} (make : Maker A) (es : List PatternEntry) → all_named es ≡ true
    → named_patterns make (named_attributes es) (Entries.named_patterns es) ≡ map (entry_in make ClassArgument) es
unfolding named_patterns
named_are make [] h = refl
named_are make (Named x p ∷ es) h =
    ap (λ tss. (free make (in_form x) ∷ (tight make Equal ∷ written_pattern make AsPattern p)) ∷ tss) (named_are make es h)
named_are make (Alone p ∷ es) h = absurd (cc)
named_are make (Keyed k p ∷ es) h = absurd (cc)
named_are make (Rest x ∷ es) h = absurd (cc)

abbrev arguments : {A : Type 0} → Maker A → List PatternEntry → List (List A)
arguments make es = each_pattern make AsPattern (elements es) ++ named_patterns make (named_attributes es) (Entries.named_patterns es)

only_named : {A : Type 0} (make : Maker A) (es : List PatternEntry) → all_named es ≡ true
    → arguments make es ≡ map (entry_in make ClassArgument) es
unfolding each_pattern
only_named make es h = rw (none_alone es h) (named_are make es h)

arguments_are : {A : Type 0} (make : Maker A) (b : Bool) (es : List PatternEntry) → are_class_arguments b es ≡ true
    → arguments make es ≡ map (entry_in make ClassArgument) es
unfolding each_pattern
arguments_are make b [] h = only_named make [] refl
arguments_are make b (Alone p ∷ es) h = ap (λ tss. written_pattern make AsPattern p ∷ tss) (arguments_are make true es h)
arguments_are make true (Named x p ∷ es) h = only_named make (Named x p ∷ es) (and_parts (not (is_wildcard x)) (all_named es) h).1
arguments_are make false (Named x p ∷ es) h = only_named make (Named x p ∷ es) h
arguments_are make b (Keyed k p ∷ es) h = absurd (cc)
arguments_are make b (Rest x ∷ es) h = absurd (cc)

abbrev pub class_tree : Expr → List PatternEntry → Pattern
class_tree e es = Trees.MatchClass e (elements es) (named_attributes es) (Entries.named_patterns es)

class_written : {A : Type 0} (make : Maker A) (e : Expr) (es : List PatternEntry) → are_class_arguments false es ≡ true → (m : PatternLevel)
    → written_pattern make m (class_tree e es) ≡ written make Primary e ++ enclosed make (tight make LPar) RPar
    (listed make (map (entry_in make ClassArgument) es))
unfolding written_pattern
class_written make e es h m =
    ap (λ tss. written make Primary e ++ enclosed make (tight make LPar) RPar (listed make tss)) (arguments_are make false es h)

class_form : {ts us : List Terminal} {e : Expr} {es : List PatternEntry} → P.ClassOf ts e → ListingClaim ClassArgument us es
    → are_class_arguments false es ≡ true → Claim ClosedPattern (ts ++ (Op LPar ∷ (us ++ (Op RPar ∷ [])))) (class_tree e es)
class_form {ts} {us} {e} {es} k c q =
    let m : class_of e es ≡ Some (class_tree e es) = rw q refl in
    closed (class_tree e es) _ _ (class_written terminal e es q) refl
    (λ h. P.class_pattern (class_again k) (listing_of ClassArgument es (c.standing (told_front us (Op RPar ∷ [])
    (told_after ts (us ++ (Op RPar ∷ [])) (Op LPar) h)))) m)
    (subst (λ z. AtLeast z (ts ++ (Op LPar ∷ (us ++ (Op RPar ∷ []))))) (sym (class_written marks e es q ClosedPattern))
    (both (class_short k) (in_brackets LPar RPar c.short)))

pub class_claim : {ts us : List Terminal} {e : Expr} {es : List PatternEntry} {p : Pattern} → P.ClassOf ts e
    → ListingClaim ClassArgument us es
    → class_of e es ≡ Some p → Claim ClosedPattern (ts ++ (Op LPar ∷ (us ++ (Op RPar ∷ [])))) p
class_claim {ts} {us} {e} {es} {p} k c h = by (are_class_arguments false es) refl h
  where
    by : (b : Bool) → are_class_arguments false es ≡ b → (if b then Some (class_tree e es) else None) ≡ Some p
        → Claim ClosedPattern (ts ++ (Op LPar ∷ (us ++ (Op RPar ∷ [])))) p
    by true q h = given (Claim ClosedPattern (ts ++ (Op LPar ∷ (us ++ (Op RPar ∷ []))))) h (class_form k c q)
    by false q h = absurd (cc)
