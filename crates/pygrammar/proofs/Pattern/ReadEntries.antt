-- The lists in patterns: entries between commas, and alternatives.
--
-- Carries: EntryFinds, ListingFinds, AlternativesFind, pattern_entries_height and 14 more, for
-- ReadBrackets, Complete. On: LookLemmas, Comps, Ends, ReadValues and 1 more.
use Rattle.std.proofs.Common.{◌≡◌, refl, sym, ap, ◌∙◌, ℕ, suc, zero, ◌+◌, ◌≤◌, ◌<◌, arith, List, [], ◌∷◌, ◌++◌, length, true, false}
use Rattle.std.proofs.Common.{append_assoc, length-append}
use Rattle.std.specs.Prelude.{max}
use Rattle.pylex_lexeme.specs.declared.kinds.Exact.TheVariants.{Colon, Comma, Equal, DoubleStar, VBar}
use Rattle.pygrammar.specs.declared.pattern_levels.PatternLevel.TheVariants.{StarPattern, AsPattern, OrPattern, ClosedPattern}
use Rattle.pytree_node.specs.Trees.{Expr, Pattern, MatchAs, absent_pattern, patterns}
use Rattle.pytoken.specs.Terminals.{Spelled, Terminal, Op, Ident}
use Rattle.pytree_height.specs.Heights.{height, list_height, pattern_height, pattern_heights}
use Rattle.pygrammar.specs.Reader.{Found, Reads}
use Rattle.pygrammar.specs.Capped.{capped}
use Rattle.pygrammar.specs.PatternOperators.{captured, is_wildcard}
use Rattle.pygrammar.specs.PatternEntries.{PatternItem, Element, KeyPattern, ClassArgument, PatternEntry, Alone, Keyed, Rest, Named}
use Rattle.pygrammar.specs.PatternEntries.{elements, pattern_keys, key_patterns, named_patterns}
use Rattle.pygrammar.specs.PatternGrammar as P
use Rattle.pygrammar.specs.PatternReader.{PatternReads, starts_entry, read_key, read_entry, entries_loop, alternatives_loop, capped_pattern}
use Rattle.pygrammar.proofs.Answers.{found_rest}
use Rattle.pygrammar.proofs.Completeness.LookLemmas.{miss_name_with}
use Rattle.pygrammar.proofs.Completeness.Comps.{append_no}
use Rattle.pygrammar.proofs.Pattern.Ends.{pattern_grip_of, miss_sign, pass_start, starts_front, key_starts, no_entry_starts}
use Rattle.pygrammar.proofs.Pattern.ReadValues.{key_reads}
use Rattle.pygrammar.proofs.Pattern.ReadLevels.{FindsPattern, pattern_some, next_finds, capture_finds}

-- ---- Heights of entries.

abbrev pub pattern_entry_height : PatternEntry → ℕ
pattern_entry_height (Alone p) = pattern_height p
pattern_entry_height (Keyed k p) = max (height k) (pattern_height p)
pattern_entry_height (Rest x) = 0
pattern_entry_height (Named x p) = pattern_height p

abbrev pub pattern_entries_height : List PatternEntry → ℕ
pattern_entries_height [] = 0
pattern_entries_height (e ∷ es) = max (pattern_entry_height e) (pattern_entries_height es)

-- the entries of a list are in the pattern that it gives
pub elements_hold : {ts : List Terminal} {es : List PatternEntry} → P.PatternListing Element ts es
    → pattern_entries_height es ≤ pattern_heights (elements es)
elements_hold P.no_entry = omega arith
elements_hold (P.last_entry (P.element p)) = omega arith
elements_hold (P.entry (P.element p) c) = omega (arith, elements_hold c)

pub mapping_holds : {ts : List Terminal} {es : List PatternEntry} → P.PatternListing KeyPattern ts es
    → pattern_entries_height es ≤ max (list_height (pattern_keys es)) (pattern_heights (key_patterns es))
mapping_holds P.no_entry = omega arith
mapping_holds (P.last_entry (P.key_pattern k p)) = omega arith
mapping_holds (P.last_entry (P.rest h)) = omega arith
mapping_holds (P.entry (P.key_pattern k p) c) = omega (arith, mapping_holds c)
mapping_holds (P.entry (P.rest h) c) = omega (arith, mapping_holds c)

pub arguments_hold : {ts : List Terminal} {es : List PatternEntry} → P.PatternListing ClassArgument ts es
    → pattern_entries_height es ≤ max (pattern_heights (elements es)) (pattern_heights (named_patterns es))
arguments_hold P.no_entry = omega arith
arguments_hold (P.last_entry (P.argument p)) = omega arith
arguments_hold (P.last_entry (P.named_argument p)) = omega arith
arguments_hold (P.entry (P.argument p) c) = omega (arith, arguments_hold c)
arguments_hold (P.entry (P.named_argument p) c) = omega (arith, arguments_hold c)

-- ---- One entry.

abbrev pub EntryFinds : PatternItem → List Terminal → PatternEntry → Type 0
EntryFinds i ts e = (g d : ℕ) (r : List Terminal) → length ts + length r < g → pattern_entry_height e ≤ d → pattern_grip_of r < 2
    → read_entry d (capped g d) (capped_pattern g d) i (ts ++ r) ≡ Found e r

module _ (d : ℕ) (self : Reads) (inner : PatternReads) where
  element_step : (i r : List Terminal) (p : Pattern) → inner StarPattern i ≡ Found p r
      → read_entry d self inner Element i ≡ Found (Alone p) r
  element_step i r p h = rw h refl

  key_pattern_step : (ts i r : List Terminal) (k : Expr) (p : Pattern) → starts_entry ClassArgument ts ≡ true
      → read_key d self (ts ++ (Op Colon ∷ i)) ≡ Found k (Op Colon ∷ i) → inner AsPattern i ≡ Found p r
      → read_entry d self inner KeyPattern (ts ++ (Op Colon ∷ i)) ≡ Found (Keyed k p) r
  key_pattern_step ts i r k p s h q = pass_start ClassArgument DoubleStar ts (Op Colon ∷ i) _ _ refl s ∙ rw h (rw q refl)

  rest_step : (x : Spelled) (r : List Terminal) → is_wildcard x.form ≡ false
      → read_entry d self inner KeyPattern (Op DoubleStar ∷ (Ident x ∷ r)) ≡ Found (Rest x.form) r
  rest_step x r h = rw h refl

  argument_step : (i r : List Terminal) (p : Pattern) → ((x : Spelled) (us : List Terminal) → i ≡ Ident x ∷ (Op Equal ∷ us) → ⊥)
      → inner AsPattern i ≡ Found p r → read_entry d self inner ClassArgument i ≡ Found (Alone p) r
  argument_step i r p f h = miss_name_with Equal i _ _ f ∙ rw h refl

  named_step : (x : Spelled) (i r : List Terminal) (p : Pattern) → inner AsPattern i ≡ Found p r
      → read_entry d self inner ClassArgument (Ident x ∷ (Op Equal ∷ i)) ≡ Found (Named x.form p) r
  named_step x i r p h = rw h refl

pub element_finds : (ts : List Terminal) (p : Pattern) → FindsPattern StarPattern ts p → EntryFinds Element ts (Alone p)
element_finds ts p f g d r w h e = element_step d (capped g d) (capped_pattern g d) (ts ++ r) r p (f g d r w h e)

pub key_pattern_finds : (ts us : List Terminal) (k : Expr) (p : Pattern) → P.KeyOf ts k → FindsPattern AsPattern us p
    → EntryFinds KeyPattern (ts ++ (Op Colon ∷ us)) (Keyed k p)
key_pattern_finds ts us k p q f g d r w h e =
    ap (read_entry d (capped g d) (capped_pattern g d) KeyPattern) (append_assoc ts (Op Colon ∷ us) r) ∙
    key_pattern_step d (capped g d) (capped_pattern g d) ts (us ++ r) r k p (key_starts q)
    (key_reads q g d (Op Colon ∷ (us ++ r)) (omega (arith, w, length-append ts (Op Colon ∷ us), length-append us r)) (omega (arith, h))
    (omega arith)) (f g d r (omega (arith, w, length-append ts (Op Colon ∷ us))) (omega (arith, h)) (omega (arith, e)))

pub rest_finds : (x : Spelled) → is_wildcard x.form ≡ false → EntryFinds KeyPattern (Op DoubleStar ∷ (Ident x ∷ [])) (Rest x.form)
rest_finds x q g d r w h e = rest_step d (capped g d) (capped_pattern g d) x r q

-- a NAME before a `=` is a pattern, which ends there: so no other pattern begins with these two
unnamed_argument : (g d : ℕ) (i r : List Terminal) (p : Pattern) → length i < g → 0 < d → capped_pattern g d AsPattern i ≡ Found p r
    → pattern_grip_of r < 2 → (x : Spelled) (us : List Terminal) → i ≡ Ident x ∷ (Op Equal ∷ us) → ⊥
unnamed_argument g d i r p w h k e x us q =
    let f : FindsPattern AsPattern (Ident x ∷ []) (MatchAs absent_pattern (captured x.form)) =
    next_finds AsPattern (Ident x ∷ []) (MatchAs absent_pattern (captured x.form)) refl
    (next_finds OrPattern (Ident x ∷ []) (MatchAs absent_pattern (captured x.form)) refl (capture_finds x)) in
    let s = found_rest p (MatchAs absent_pattern (captured x.form)) r (Op Equal ∷ us) (sym k
    ∙ (ap (capped_pattern g d AsPattern) q ∙ f g d (Op Equal ∷ us) (omega (arith, w, ap length q)) h (omega arith))) in
    omega (arith, e, ap pattern_grip_of s)

pub argument_finds : (ts : List Terminal) (p : Pattern) → starts_entry ClassArgument ts ≡ true → FindsPattern AsPattern ts p
    → EntryFinds ClassArgument ts (Alone p)
argument_finds ts p s f g d r w h e =
    let k = f g d r w h (omega (arith, e)) in
    argument_step d (capped g d) (capped_pattern g d) (ts ++ r) r p
    (unnamed_argument g d (ts ++ r) r p (omega (arith, w, length-append ts r)) (omega (arith, h, pattern_some p)) k e) k

pub named_finds : (x : Spelled) (ts : List Terminal) (p : Pattern) → FindsPattern AsPattern ts p
    → EntryFinds ClassArgument (Ident x ∷ (Op Equal ∷ ts)) (Named x.form p)
named_finds x ts p f g d r w h e = named_step d (capped g d) (capped_pattern g d) x (ts ++ r) r p
    (f g d r (omega (arith, w)) h (omega (arith, e)))

-- ---- Entries between commas.

abbrev pub ListingFinds : PatternItem → List Terminal → List PatternEntry → Type 0
ListingFinds i us es = (g d : ℕ) (r : List Terminal) → length us + length r < g → pattern_entries_height es ≤ d → pattern_grip_of r < 1
    → (m : ℕ) → length us ≤ m → (acc : List PatternEntry) → entries_loop d (capped g d) (capped_pattern g d) i m acc
    (us ++ r) ≡ Found (acc ++ es) r

module _ (d : ℕ) (self : Reads) (inner : PatternReads) (i : PatternItem) where
  entries_end : (m : ℕ) (acc : List PatternEntry) (r : List Terminal) → starts_entry i r ≡ false
      → entries_loop d self inner i m acc r ≡ Found acc r
  entries_end zero acc r h = refl
  entries_end (suc m) acc r h = rw h refl

  entries_last : (m : ℕ) (acc : List PatternEntry) (s r : List Terminal) (e : PatternEntry) → starts_entry i s ≡ true
      → read_entry d self inner i s ≡ Found e r → pattern_grip_of r < 1
      → entries_loop d self inner i (suc m) acc s ≡ Found (acc ++ (e ∷ [])) r
  entries_last m acc s r e h k w = rw h (rw k (miss_sign Comma r _ _ (λ q. omega (arith, w, q))))

  entries_more : (m : ℕ) (acc : List PatternEntry) (s r : List Terminal) (e : PatternEntry) → starts_entry i s ≡ true
      → read_entry d self inner i s ≡ Found e (Op Comma ∷ r) → entries_loop d self inner i (suc m) acc s ≡ entries_loop d self
      inner i m (acc ++ (e ∷ [])) r
  entries_more m acc s r e h k = rw h (rw k refl)

pub no_entry_finds : (i : PatternItem) → ListingFinds i [] []
no_entry_finds i g d r w h e m le acc = entries_end d (capped g d) (capped_pattern g d) i m acc r (no_entry_starts i r e)
    ∙ ap (λ z. Found z r) (sym (append_no acc))

no_start : (i : PatternItem) (ts : List Terminal) → length ts ≤ 0 → starts_entry i ts ≡ true → ⊥
no_start i [] h q = absurd (cc)
no_start i (t ∷ r) h q = omega (arith, h)

pub last_entry_finds : (i : PatternItem) (ts : List Terminal) (a : PatternEntry) → starts_entry i ts ≡ true → EntryFinds i ts a
    → ListingFinds i ts (a ∷ [])
last_entry_finds i ts a s f g d r w h e zero le acc = absurd (no_start i ts le s)
last_entry_finds i ts a s f g d r w h e (suc m) le acc = entries_last d (capped g d) (capped_pattern g d) i m acc (ts ++ r) r a
    (starts_front i ts r s) (f g d r w (omega (arith, h)) (omega (arith, e))) e

pub entry_finds : (i : PatternItem) (ts us : List Terminal) (a : PatternEntry) (es : List PatternEntry) → starts_entry i ts ≡ true
    → EntryFinds i ts a → ListingFinds i us es → ListingFinds i (ts ++ (Op Comma ∷ us)) (a ∷ es)
entry_finds i ts us a es s f k g d r w h e zero le acc = absurd (omega (arith, le, length-append ts (Op Comma ∷ us)))
entry_finds i ts us a es s f k g d r w h e (suc m) le acc =
    let n = length-append ts (Op Comma ∷ us) in
    let rest = Op Comma ∷ (us ++ r) in
    ap (entries_loop d (capped g d) (capped_pattern g d) i (suc m) acc) (append_assoc ts (Op Comma ∷ us) r) ∙
    (entries_more d (capped g d) (capped_pattern g d) i m acc (ts ++ rest) (us ++ r) a (starts_front i ts rest s)
    (f g d rest (omega (arith, w, n, length-append us r)) (omega (arith, h)) (omega arith)) ∙
    (k g d r (omega (arith, w, n)) (omega (arith, h)) e m (omega (arith, le, n)) (acc ++ (a ∷ []))
    ∙ ap (λ z. Found z r) (append_assoc acc (a ∷ []) es)))

-- ---- Alternatives.

abbrev pub AlternativesFind : List Terminal → List Pattern → Type 0
AlternativesFind us ps = (g d : ℕ) (r : List Terminal) → length us + length r < g → pattern_heights (patterns ps) ≤ d
    → pattern_grip_of r < 4 → (m : ℕ) → length us < m → (acc : List Pattern) → alternatives_loop d (capped g d) (capped_pattern g d) m acc
    (Op VBar ∷ (us ++ r)) ≡ Found (acc ++ ps) r

module _ (d : ℕ) (self : Reads) (inner : PatternReads) where
  alternatives_end : (m : ℕ) (acc : List Pattern) (r : List Terminal) → pattern_grip_of r < 4
      → alternatives_loop d self inner m acc r ≡ Found acc r
  alternatives_end zero acc r h = refl
  alternatives_end (suc m) acc r h = miss_sign VBar r _ _ (λ q. omega (arith, h, q))

  alternatives_more : (m : ℕ) (acc : List Pattern) (s r : List Terminal) (p : Pattern) → inner ClosedPattern s ≡ Found p r
      → alternatives_loop d self inner (suc m) acc (Op VBar ∷ s) ≡ alternatives_loop d self inner m (acc ++ (p ∷ [])) r
  alternatives_more m acc s r p h = rw h refl

pub last_alternative_finds : (ts : List Terminal) (p : Pattern) → FindsPattern ClosedPattern ts p → AlternativesFind ts (p ∷ [])
last_alternative_finds ts p f g d r w h e zero le acc = absurd (omega (arith, le))
last_alternative_finds ts p f g d r w h e (suc m) le acc = alternatives_more d (capped g d) (capped_pattern g d) m acc (ts ++ r) r p
    (f g d r w (omega (arith, h)) (omega (arith, e))) ∙ alternatives_end d (capped g d) (capped_pattern g d) m (acc ++ (p ∷ [])) r e

pub alternative_finds : (ts us : List Terminal) (p : Pattern) (ps : List Pattern) → FindsPattern ClosedPattern ts p → AlternativesFind us ps
    → AlternativesFind (ts ++ (Op VBar ∷ us)) (p ∷ ps)
alternative_finds ts us p ps f k g d r w h e zero le acc = absurd (omega (arith, le))
alternative_finds ts us p ps f k g d r w h e (suc m) le acc =
    let n = length-append ts (Op VBar ∷ us) in
    let rest = Op VBar ∷ (us ++ r) in
    ap (λ z. alternatives_loop d (capped g d) (capped_pattern g d) (suc m) acc (Op VBar ∷ z)) (append_assoc ts (Op VBar ∷ us) r) ∙
    (alternatives_more d (capped g d) (capped_pattern g d) m acc (ts ++ rest) rest p (f g d rest (omega (arith, w, n, length-append us r))
    (omega (arith, h)) (omega arith)) ∙
    (k g d r (omega (arith, w, n)) (omega (arith, h)) e m (omega (arith, le, n)) (acc ++ (p ∷ []))
    ∙ ap (λ z. Found z r) (append_assoc acc (p ∷ []) ps)))
