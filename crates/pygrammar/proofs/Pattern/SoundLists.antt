-- What the reader of patterns answers is derived: lists with commas, and alternatives.
--
-- Carries: PatternAt, SoundBelow, entries_sound, alternatives_sound, for Sound. On: Says,
-- SoundLists of expressions, SoundValues.
use Rattle.std.proofs.Common.{◌≡◌, refl, sym, ap, subst, ◌∙◌, ℕ, zero, suc, List, [], ◌∷◌, ◌++◌, length, append_assoc}
use Rattle.std.proofs.lemmas.List.{append-nil}
use Rattle.pylex_lexeme.specs.declared.kinds.Exact.TheVariants.{Colon, Comma, Equal, DoubleStar, VBar}
use Rattle.pygrammar.specs.declared.pattern_levels.PatternLevel.{PatternLevel}
use Rattle.pygrammar.specs.declared.pattern_levels.PatternLevel.TheVariants.{StarPattern, AsPattern, ClosedPattern}
use Rattle.pytree_node.specs.Trees.{Pattern}
use Rattle.pytoken.specs.Terminals.{Terminal, Op, Ident}
use Rattle.pygrammar.specs.Reader.{Reads}
use Rattle.pygrammar.specs.PatternOperators.{is_wildcard}
use Rattle.pygrammar.specs.PatternEntries.{PatternItem, Element, KeyPattern, ClassArgument, PatternEntry}
use Rattle.pygrammar.specs.PatternGrammar as P
use Rattle.pygrammar.specs.PatternReader.{PatternReads, starts_entry, read_entry, entries_loop, entries_of, alternatives_loop}
use Rattle.pygrammar.proofs.Soundness.Says.{Says, SoundAt, found, no_form, says_then, says_op, says_name, says_cond, says_is}
use Rattle.pygrammar.proofs.Soundness.SoundLists.{says_name_with}
use Rattle.pygrammar.proofs.Pattern.SoundValues.{says_choice, key_sound}

abbrev pub PatternAt : PatternLevel → List Terminal → Pattern → List Terminal → Type 0
PatternAt l i p r = (ts : List Terminal) × (i ≡ ts ++ r) × P.DerivesPattern l ts p

-- what stands in a pattern is derived
abbrev pub SoundBelow : PatternReads → Type 0
SoundBelow inner = (l : PatternLevel) (i : List Terminal) → Says (PatternAt l i) (inner l i)

abbrev EntryAt : PatternItem → List Terminal → PatternEntry → List Terminal → Type 0
EntryAt j i e r = (ts : List Terminal) × (i ≡ ts ++ r) × P.PatternPiece j ts e

abbrev pub EntriesAt : PatternItem → List PatternEntry → List Terminal → List PatternEntry → List Terminal → Type 0
EntriesAt j acc i es r = (us : List Terminal) × (xs : List PatternEntry) × (es ≡ acc ++ xs) × (i ≡ us ++ r) × P.PatternListing j us xs

-- after a first alternative
abbrev OthersAt : List Pattern → List Terminal → List Pattern → List Terminal → Type 0
OthersAt acc i ps r = (vs : List Terminal) × (xs : List Pattern) × (ps ≡ acc ++ xs) × (i ≡ vs ++ r) × ((ts : List Terminal) (p : Pattern)
    → P.DerivesPattern ClosedPattern ts p → P.Alternatives (ts ++ vs) (p ∷ xs))

abbrev pub AlternativesAt : List Terminal → List Pattern → List Terminal → Type 0
AlternativesAt i ps r = (us : List Terminal) × (i ≡ us ++ r) × P.Alternatives us ps

module _ (d : ℕ) (self : Reads) (fields : SoundAt self) (inner : PatternReads) (all : SoundBelow inner) where
  key_pattern_sound : (i : List Terminal) → Says (EntryAt KeyPattern i) (read_entry d self inner KeyPattern i)
  key_pattern_sound i =
      says_op DoubleStar i _ _
      (λ a s q. says_name s _ _ (λ x u v. says_choice (is_wildcard x.form) _ _ (λ _. no_form)
      (λ h. found (Op DoubleStar ∷ (Ident x ∷ []), q ∙ ap (λ z. Op DoubleStar ∷ z) v, P.rest h))) no_form) (λ _.
      says_then _ _ (key_sound d self fields i)
      (λ k r p. says_op Colon r _ _
      (λ a s q. says_then _ _ (all AsPattern s) (λ e r1 y. found (
        p.0 ++ (Op Colon ∷ y.0),
        rw (p.1, q, y.1) (simp append_assoc refl),
        P.key_pattern p.2 y.2,
      ))) (λ _. no_form)))

  entry_sound : (j : PatternItem) (i : List Terminal) → Says (EntryAt j i) (read_entry d self inner j i)
  entry_sound Element i = says_then _ _ (all StarPattern i) (λ e r p. found (p.0, p.1, P.element p.2))
  entry_sound KeyPattern i = key_pattern_sound i
  entry_sound ClassArgument i =
      says_name_with Equal i _ _
      (λ x u q. says_then _ _ (all AsPattern u)
      (λ e r p. found (Ident x ∷ (Op Equal ∷ p.0), q ∙ ap (λ z. Ident x ∷ (Op Equal ∷ z)) p.1, P.named_argument p.2)))
      (λ _. says_then _ _ (all AsPattern i) (λ e r p. found (p.0, p.1, P.argument p.2)))

  entries_loop_sound : (j : PatternItem) (m : ℕ) (acc : List PatternEntry) (i : List Terminal)
      → Says (EntriesAt j acc i) (entries_loop d self inner j m acc i)
  entries_loop_sound j zero acc i = found ([], [], sym (append-nil acc), refl, P.no_entry)
  entries_loop_sound j (suc m) acc i =
      says_cond (starts_entry j i) _ _
      (says_then _ _ (entry_sound j i) (λ e r1 p. says_op Comma r1 _ _
      (λ a s q. says_is _ (entries_loop_sound j m (acc ++ (e ∷ [])) s) (λ es r2 y. (
        p.0 ++ (Op Comma ∷ y.0),
        e ∷ y.1,
        y.2
            ∙ append_assoc acc (e ∷ []) y.1,
        rw (p.1, q, y.3) (simp append_assoc refl),
        P.entry p.2 y.4,
      )))
      (λ _. found (p.0, e ∷ [], refl, p.1, P.last_entry p.2))))
      (found ([], [], sym (append-nil acc), refl, P.no_entry))

  pub entries_sound : (j : PatternItem) (i : List Terminal) → Says (EntriesAt j [] i) (entries_of d self inner j i)
  entries_sound j i = entries_loop_sound j (length i) [] i

  others_sound : (m : ℕ) (acc : List Pattern) (i : List Terminal) → Says (OthersAt acc i) (alternatives_loop d self inner m acc i)
  others_sound zero acc i =
      found (
        [],
        [],
        sym (append-nil acc),
        refl,
        λ ts p y. subst (λ z. P.Alternatives z (p ∷ [])) (sym (append-nil ts)) (P.last_alternative y),
      )
  others_sound (suc m) acc i = says_op VBar i _ _
      (λ a s q. says_then _ _ (all ClosedPattern s) (λ e r1 p. says_is _ (others_sound m (acc ++ (e ∷ [])) r1) (λ es r2 y. (
        Op VBar ∷ (p.0 ++ y.0),
        e ∷ y.1,
        y.2 ∙ append_assoc acc (e ∷ []) y.1,
        rw (q, p.1, y.3) (simp append_assoc refl),
        λ ts g h. P.alternative h (y.4 p.0 e p.2),
      ))))
      (λ _. found (
        [],
        [],
        sym (append-nil acc),
        refl,
        λ ts p y. subst (λ z. P.Alternatives z (p ∷ [])) (sym (append-nil ts))
            (P.last_alternative y),
      ))

  -- at a `|`
  pub alternatives_sound : (i s : List Terminal) → i ≡ Op VBar ∷ s
      → Says (AlternativesAt s) (alternatives_loop d self inner (length i) [] i)
  alternatives_sound i s q = subst (λ z. Says (AlternativesAt s) (alternatives_loop d self inner (length z) [] z)) (sym q)
      (says_then _ _ (all ClosedPattern s) (λ e r p. says_is _ (others_sound (length s) (e ∷ []) r)
      (λ ps r1 y. (p.0 ++ y.0, rw (p.1, y.3) (simp append_assoc refl), subst (P.Alternatives (p.0 ++ y.0)) (sym y.2) (y.4 p.0 e p.2)))))
