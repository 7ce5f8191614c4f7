-- Carries: the laws of written patterns. On: patterns whose names and constants can be written in an extent of the language, and whose
-- stars stand only
-- where they may; those of tokens are such.
use Rattle.std.proofs.Common.{◌≡◌, refl, subst, List, [], ◌∷◌, ◌++◌, Some, None, Bool, true, false}
use Rattle.std.specs.Prelude.{if◌then◌else◌}
use Rattle.pylex_lexeme.specs.declared.kinds.Exact.TheVariants.{LPar, RPar, RSqb, RBrace, Colon, Comma, Dot, VBar}
use Rattle.pytree_node.specs.declared.profiles.Extent.{Extent}
use Rattle.pytoken.specs.declared.keywords.Keyword.TheVariants as Key
use Rattle.pygrammar.specs.declared.pattern_levels.PatternLevel.{PatternLevel}
use Rattle.pytree_node.specs.Values
use Rattle.pytree_node.specs.Trees
use Rattle.pytree_node.specs.Trees.{Expr, Identifier, Pattern, Patterns, no_pattern, a_pattern, absent_pattern, present_pattern, patterns}
use Rattle.pytoken.specs.Terminals.{Terminal, Op, Word, Ident}
use Rattle.pytoken.specs.Laws.{IsProper}
use Rattle.pygrammar.specs.PatternOperators.{captured, is_wildcard, singleton_word}
use Rattle.pygrammar.specs.PatternEntries as Entries
use Rattle.pygrammar.specs.PatternEntries.{PatternItem, Element, KeyPattern, ClassArgument, PatternEntry, Alone, Keyed, Rest, Named}
use Rattle.pygrammar.specs.PatternEntries.{elements}
use Rattle.pygrammar.specs.PatternEntries.{pattern_keys, rest_of, named_attributes, is_mapping, are_class_arguments}
use Rattle.pygrammar.specs.PatternGrammar as P
use Rattle.pygrammar.proofs.Callers.PatternLaw.{patterns_are_lawful}
use Rattle.pyunparse_text.proofs.Fewest.Claims.{given}
use Rattle.pyunparse_text.proofs.PieceLaws.Fair.{IsConstant}
use Rattle.pyunparse_text.proofs.PieceLaws.Sound.{Writable}
use Rattle.pyunparse_text.proofs.PieceLaws.Places.{open_place}
use Rattle.pygrammar.proofs.Callers.OpenStrings.{pattern_closes, class_closes, key_closes, entry_closes}
use Rattle.pyunparse_text.proofs.PieceLaws.LineForms.{MaybeProper, AreProper}
use Rattle.pyunparse_text.proofs.PieceLaws.Derived.{Said, front, rest, first, following, sound}
use Rattle.pyunparse_text.proofs.Patterns.Claims.{takes_star, none_below, named}
use Rattle.pyunparse_text.proofs.Patterns.Entries.{mapping_tree, class_tree}

abbrev pub SomePattern : Patterns → Type 0
SomePattern no_pattern = ⊥
SomePattern (a_pattern p ps) = Unit {0}

-- whether a MatchStar may stand in a list
abbrev pub item_star : PatternItem → Bool
item_star Element = true
item_star _ = false

module _ (extent : Extent) where
  abbrev pub SoundKeys : List Expr → Type 0
  SoundKeys [] = Unit {0}
  SoundKeys (k ∷ ks) = Writable (open_place extent) false k × SoundKeys ks

  -- a pattern that may or may not be a MatchStar
  abbrev mutual
    pub SoundPattern : Bool → Pattern → Type 0
    SoundPattern s (Trees.MatchValue value) = Writable (open_place extent) false value
    SoundPattern s (Trees.MatchSingleton value) = IsConstant (open_place extent) value
    SoundPattern s (Trees.MatchSequence inner) = SoundPatterns true inner
    SoundPattern s (Trees.MatchMapping keys inner rest) = SoundKeys keys × SoundPatterns false inner × MaybeProper rest
    SoundPattern s (Trees.MatchClass cls inner names named) = Writable (open_place extent) false cls × SoundPatterns false inner × AreProper
        names × SoundPatterns false named
    SoundPattern s (Trees.MatchStar name) = (s ≡ true) × MaybeProper name
    SoundPattern s (Trees.MatchAs absent_pattern name) = MaybeProper name
    SoundPattern s (Trees.MatchAs (present_pattern p) name) = SoundPattern false p × MaybeProper name
    SoundPattern s (Trees.MatchOr inner) = SomePattern inner × SoundPatterns false inner

    pub SoundPatterns : Bool → Patterns → Type 0
    SoundPatterns s no_pattern = Unit {0}
    SoundPatterns s (a_pattern p ps) = SoundPattern s p × SoundPatterns s ps

  -- ---- Entries of lists.

  abbrev Fine : PatternItem → PatternEntry → Type 0
  Fine i (Alone p) = SoundPattern (item_star i) p
  Fine i (Keyed k p) = Writable (open_place extent) false k × SoundPattern false p
  Fine i (Rest x) = IsProper x
  Fine i (Named x p) = IsProper x × SoundPattern false p

  abbrev AllFine : PatternItem → List PatternEntry → Type 0
  AllFine i [] = Unit {0}
  AllFine i (e ∷ es) = Fine i e × AllFine i es

  elements_sound : (i : PatternItem) (es : List PatternEntry) → AllFine i es → SoundPatterns (item_star i) (elements es)
  elements_sound i [] h = tt
  elements_sound i (Alone p ∷ es) h = (h.0, elements_sound i es h.1)
  elements_sound i (Keyed k p ∷ es) h = elements_sound i es h.1
  elements_sound i (Rest x ∷ es) h = elements_sound i es h.1
  elements_sound i (Named x p ∷ es) h = elements_sound i es h.1

  keys_sound : (i : PatternItem) (es : List PatternEntry) → AllFine i es → SoundKeys (pattern_keys es)
  keys_sound i [] h = tt
  keys_sound i (Keyed k p ∷ es) h = (h.0.0, keys_sound i es h.1)
  keys_sound i (_ ∷ es) h = keys_sound i es h.1

  keyed_sound : (i : PatternItem) (es : List PatternEntry) → AllFine i es → SoundPatterns false (Entries.key_patterns es)
  keyed_sound i [] h = tt
  keyed_sound i (Keyed k p ∷ es) h = (h.0.1, keyed_sound i es h.1)
  keyed_sound i (_ ∷ es) h = keyed_sound i es h.1

  rest_sound : (i : PatternItem) (es : List PatternEntry) → AllFine i es → MaybeProper (rest_of es)
  rest_sound i [] h = tt
  rest_sound i (Rest x ∷ es) h = h.0
  rest_sound i (_ ∷ es) h = rest_sound i es h.1

  names_sound : (i : PatternItem) (es : List PatternEntry) → AllFine i es → AreProper (named_attributes es)
  names_sound i [] h = tt
  names_sound i (Named x p ∷ es) h = (h.0.0, names_sound i es h.1)
  names_sound i (_ ∷ es) h = names_sound i es h.1

  named_sound : (i : PatternItem) (es : List PatternEntry) → AllFine i es → SoundPatterns false (Entries.named_patterns es)
  named_sound i [] h = tt
  named_sound i (Named x p ∷ es) h = (h.0.1, named_sound i es h.1)
  named_sound i (_ ∷ es) h = named_sound i es h.1

  -- a list's pattern, where its order is right
  made_sound : (b : Bool) (tree p : Pattern) → (if b then Some tree else None) ≡ Some p → SoundPattern false tree → SoundPattern false p
  made_sound true tree p q h = given (SoundPattern false) q h
  made_sound false tree p q h = absurd (cc)

  -- ---- What is derived.

  wider : (b : Bool) (p : Pattern) → SoundPattern false p → SoundPattern b p
  wider b (Trees.MatchStar name) h = absurd (let z = h.0 in cc)
  wider b (Trees.MatchAs absent_pattern name) h = h
  wider b (Trees.MatchAs (present_pattern p) name) h = h
  wider b _ h = h

  captured_sound : (x : Identifier) → IsProper x → MaybeProper (captured x)
  captured_sound x h = by (is_wildcard x)
    where
      by : (b : Bool) → MaybeProper (if b then None else Some x)
      by true = tt
      by false = h

  word_sound : (t : Terminal) (v : Values.Value) → singleton_word t ≡ Some v → IsConstant (open_place extent) v
  word_sound (Word Key.None) v q = given (IsConstant (open_place extent)) q tt
  word_sound (Word Key.True) v q = given (IsConstant (open_place extent)) q tt
  word_sound (Word Key.False) v q = given (IsConstant (open_place extent)) q tt
  word_sound _ v q = absurd (cc)

  literal_sound : {ts : List Terminal} {e : Expr} → P.LiteralOf ts e → Said extent [] ts → Writable (open_place extent) false e
  literal_sound {ts} {e} q h = sound extent ((patterns_are_lawful.values ts e).literal q) h

  class_sound : {ts : List Terminal} {e : Expr} → P.ClassOf ts e → Said extent [] ts → Writable (open_place extent) false e
  class_sound {ts} {e} q h = sound extent ((patterns_are_lawful.values ts e).class q) h

  key_sound : {ts : List Terminal} {e : Expr} → P.KeyOf ts e → Said extent [] ts → Writable (open_place extent) false e
  key_sound {ts} {e} q h = sound extent ((patterns_are_lawful.values ts e).key q) h

  mutual
    pub pattern_sound : {l : PatternLevel} {ts : List Terminal} {p : Pattern} → P.DerivesPattern l ts p → Said extent [] ts
        → SoundPattern (takes_star l) p
    pattern_sound (P.next {l = l} {p = p} d) h = wider (takes_star l) p (subst (λ b. SoundPattern b p) (none_below l) (pattern_sound d h))
    pattern_sound (P.open_sequence {ts = ts} {us = us} {es = es} d c) h = (
      pattern_sound d (front ts (Op Comma ∷ us) h),
      elements_sound Element es (listing_fine c (following ts us (Op Comma) (pattern_closes d) h)),
    )
    pattern_sound (P.star {x = x}) h = (refl, captured_sound x.form (first (rest h)))
    pattern_sound (P.as_name {ts = ts} {p = p} {q = q} x d n) h =
        subst (SoundPattern false) (named p x.form q n).tree
        (pattern_sound d (front ts (Word Key.As ∷ (Ident x ∷ [])) h), first (following ts (Ident x ∷ []) (Word Key.As) (pattern_closes d) h))
    pattern_sound (P.alternatives {ts = ts} {us = us} d c) h =
        (tt, (pattern_sound d (front ts (Op VBar ∷ us) h), alternatives_sound c (following ts us (Op VBar) (pattern_closes d) h)))
    pattern_sound (P.literal q) h = literal_sound q h
    pattern_sound (P.singleton {t = t} {v = v} q) h = word_sound t v q
    pattern_sound (P.capture {x = x}) h = captured_sound x.form (first h)
    pattern_sound (P.value {ts = ts} x q) h =
        (class_sound q (front ts (Op Dot ∷ (Ident x ∷ [])) h), first (following ts (Ident x ∷ []) (Op Dot) (class_closes q) h))
    pattern_sound (P.group {ts = ts} d) h = pattern_sound d (front ts (Op RPar ∷ []) (rest h))
    pattern_sound P.empty_sequence h = tt
    pattern_sound (P.round_sequence {ts = ts} {us = us} {es = es} d c) h =
        let more = following ts (us ++ (Op RPar ∷ [])) (Op Comma) (pattern_closes d) (rest h) in (
          pattern_sound d (front ts (Op Comma ∷ (us ++ (Op RPar ∷ [])))
              (rest h)),
          elements_sound Element es (listing_fine c (front us (Op RPar ∷ []) more)),
        )
    pattern_sound (P.square_sequence {ts = ts} {es = es} c) h =
        elements_sound Element es (listing_fine c (front ts (Op RSqb ∷ []) (rest h)))
    pattern_sound (P.mapping {ts = ts} {es = es} {p = p} c n) h =
        let fine = listing_fine c (front ts (Op RBrace ∷ []) (rest h)) in
        made_sound (is_mapping es) (mapping_tree es) p n
        (keys_sound KeyPattern es fine, keyed_sound KeyPattern es fine, rest_sound KeyPattern es fine)
    pattern_sound (P.class_pattern {ts = ts} {us = us} {e = e} {es = es} {p = p} q c n) h =
        let fine = listing_fine c (front us (Op RPar ∷ []) (following ts (us ++ (Op RPar ∷ [])) (Op LPar) (class_closes q) h)) in
        made_sound (are_class_arguments false es) (class_tree e es) p n (
          class_sound q (front ts (Op LPar ∷ (us ++ (Op RPar ∷ []))) h),
          elements_sound ClassArgument es fine,
          names_sound ClassArgument es fine,
          named_sound ClassArgument es fine,
        )

    alternatives_sound : {ts : List Terminal} {ps : List Pattern} → P.Alternatives ts ps → Said extent [] ts
        → SoundPatterns false (patterns ps)
    alternatives_sound (P.last_alternative d) h = (pattern_sound d h, tt)
    alternatives_sound (P.alternative {ts = ts} {us = us} d c) h =
        (pattern_sound d (front ts (Op VBar ∷ us) h), alternatives_sound c (following ts us (Op VBar) (pattern_closes d) h))

    listing_fine : {i : PatternItem} {ts : List Terminal} {es : List PatternEntry} → P.PatternListing i ts es
        → Said extent [] ts → AllFine i es
    listing_fine P.no_entry h = tt
    listing_fine (P.last_entry p) h = (piece_fine p h, tt)
    listing_fine (P.entry {ts = ts} {us = us} p c) h =
        (piece_fine p (front ts (Op Comma ∷ us) h), listing_fine c (following ts us (Op Comma) (entry_closes p) h))

    piece_fine : {i : PatternItem} {ts : List Terminal} {e : PatternEntry} → P.PatternPiece i ts e → Said extent [] ts → Fine i e
    piece_fine (P.element d) h = pattern_sound d h
    piece_fine (P.key_pattern {ts = ts} {us = us} q d) h =
        (key_sound q (front ts (Op Colon ∷ us) h), pattern_sound d (following ts us (Op Colon) (key_closes q) h))
    piece_fine (P.rest q) h = first (rest h)
    piece_fine (P.argument d) h = pattern_sound d h
    piece_fine (P.named_argument d) h = (first h, pattern_sound d (rest (rest h)))
