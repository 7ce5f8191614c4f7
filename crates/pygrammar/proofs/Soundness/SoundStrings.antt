-- What the reader answers of literals and f-strings is derived.
--
-- Carries: constant_is, literals_sound, joined_sound, for Sound, SoundValues. On: Says, LevelLemmas.
use Rattle.std.proofs.Common.{map, ◌≡◌, refl, sym, ap, subst, ◌∙◌, ℕ, zero, suc, arith, List, [], ◌∷◌, ◌++◌, length, Option, Some, None}
use Rattle.std.proofs.Common.{Bool, true, false, append_assoc, option_map}
use Rattle.std.proofs.lemmas.List.{append-nil}
use Rattle.std.proofs.lemmas.Option.{same_Some}
use Rattle.pylex_lexeme.specs.declared.kinds.Exact.TheVariants.{LPar}
use Rattle.pyfstring.specs.declared.parts.Conversion.{Conversion}
use Rattle.pygrammar.specs.declared.levels.Level.TheVariants.{Atom}
use Rattle.pytree_node.specs.Trees
use Rattle.pytree_node.specs.Trees.{Expr, OptionalExpr, present}
use Rattle.pytree_node.specs.Values
use Rattle.pytoken.specs.Terminals.{Terminal, Op, Literal, FormattedBegin, FormattedEnd, FormattedText, FieldBegin, SpecBegin, FieldEnd}
use Rattle.pygrammar.specs.Looks.{literal_in, text_in, conversion_in, is_formatted_begin, is_formatted_end, is_spec_begin, is_field_end}
use Rattle.pygrammar.specs.Constants.{joined}
use Rattle.pygrammar.specs.FormattedStrings.{StringPart, Text, Field, merged, values_of, spec_values_of, kind_of, text_of, texts_of}
use Rattle.pygrammar.specs.FormattedStrings.{begins_unicode, has_formatted}
use Rattle.pygrammar.specs.Reader.{Answer, on_first, constant_of, string_run, spec_with, field_with, parts_loop, formatted_step}
use Rattle.pygrammar.specs.Reader.{literals_loop, joined_step, literals, Reads}
use Rattle.pygrammar.specs.Grammar as G
use Rattle.pygrammar.proofs.Completeness.LevelLemmas.{led}
use Rattle.pygrammar.proofs.Completeness.LookLemmas.{heads}
use Rattle.pygrammar.proofs.Soundness.Says.{Says, found, no_form, says_then, says_first, says_op, says_some, says_made, says_is, SoundAt}

-- ---- Tests with what they tell.

says_mark : {B : Type 0} {Q : B → List Terminal → Type 0} (f : Terminal → Option ℕ) (u : Terminal)
    → ((t : Terminal) (a : ℕ) → f t ≡ Some a → t ≡ u) → (i : List Terminal) (k : ℕ → List Terminal → Answer B) (x : Answer B)
    → ((a : ℕ) (s : List Terminal) → i ≡ u ∷ s → Says Q (k a s)) → Says Q x → Says Q (on_first f i k x)
says_mark f u is i k x h g = says_first f i k x (λ t a s e q. h a s (q ∙ ap (λ z. z ∷ s) (is t a e))) (λ _. g)

begin_is : (t : Terminal) (a : ℕ) → is_formatted_begin t ≡ Some a → t ≡ FormattedBegin
begin_is FormattedBegin a h = refl
begin_is _ a h = absurd (cc)

end_is : (t : Terminal) (a : ℕ) → is_formatted_end t ≡ Some a → t ≡ FormattedEnd
end_is FormattedEnd a h = refl
end_is _ a h = absurd (cc)

spec_is : (t : Terminal) (a : ℕ) → is_spec_begin t ≡ Some a → t ≡ SpecBegin
spec_is SpecBegin a h = refl
spec_is _ a h = absurd (cc)

field_end_is : (t : Terminal) (a : ℕ) → is_field_end t ≡ Some a → t ≡ FieldEnd
field_end_is FieldEnd a h = refl
field_end_is _ a h = absurd (cc)

pub text_is : (t : Terminal) (x : List ℕ) → text_in t ≡ Some x → t ≡ FormattedText x
text_is (FormattedText y) x h = ap FormattedText (same_Some y x h)
text_is _ x h = absurd (cc)

pub field_is : (t : Terminal) (c : Conversion) → conversion_in t ≡ Some c → t ≡ FieldBegin c
field_is (FieldBegin b) c h = ap FieldBegin (same_Some b c h)
field_is _ c h = absurd (cc)

pub literal_is : (t : Terminal) (v : Values.Value) → literal_in t ≡ Some v → t ≡ Literal v
literal_is (Literal w) v h = ap Literal (same_Some w v h)
literal_is _ v h = absurd (cc)

pub value_is : (v : Values.Value) (x : List ℕ) → text_of v ≡ Some x → (k : Bool) × (v ≡ Values.Str x k)
value_is (Values.Str y k) x h = (k, ap (λ z. Values.Str z k) (same_Some y x h))
value_is _ x h = absurd (cc)

pub constant_is : (o : Option Values.Value) (e : Expr) → constant_of o ≡ Some e → (w : Values.Value) × (o ≡ Some w) × (Trees.Constant w ≡ e)
constant_is None e h = absurd (cc)
constant_is (Some w) e h = (w, refl, same_Some (Trees.Constant w) e h)

string_sound : (acc : List Values.Value) (r : List Terminal)
    → Says (λ ws r1. (vs : List Values.Value) × (ws ≡ acc ++ vs) × (r ≡ map Literal vs ++ r1)) (string_run acc r)
string_sound acc [] = found ([], sym (append-nil acc), refl)
string_sound acc (Literal v ∷ r) = says_is _ (string_sound (acc ++ (v ∷ [])) r) (λ ws r1 p. (
  v ∷ p.0,
  p.1 ∙ append_assoc acc (v ∷ []) p.0,
  ap (λ z. Literal v ∷ z) p.2,
))
string_sound acc (_ ∷ r) = found ([], sym (append-nil acc), refl)

-- ---- The parts of an f-string.

abbrev PartsAt : Bool → List StringPart → List Terminal → List StringPart → List Terminal → Type 0
PartsAt u acc r ps r1 = (ts : List Terminal) × (qs : List StringPart) × (r ≡ ts ++ r1) × (ps ≡ acc ++ qs) × G.Formatted u ts qs

abbrev SpecAt : Bool → List Terminal → OptionalExpr → List Terminal → Type 0
SpecAt u r s r1 = (ts : List Terminal) × (r ≡ ts ++ r1) × G.Spec u ts s

-- a field, with what follows it
abbrev FieldAt : Bool → Conversion → List Terminal → Expr → List Terminal → Type 0
FieldAt u c r e r1 = (ts : List Terminal) × (r ≡ ts ++ r1) × ((vs : List Terminal) (ps : List StringPart) → G.Formatted u vs ps
    → G.Formatted u (FieldBegin c ∷ (ts ++ vs)) (Field e ∷ ps))

-- the rest of a run after the beginning of its first f-string, after some texts
abbrev JoinedAfter : Bool → List StringPart → List Terminal → Expr → List Terminal → Type 0
JoinedAfter u acc r e r1 = (ts : List Terminal) × (qs : List StringPart) × (r ≡ ts ++ r1) ×
    (e ≡ Trees.JoinedStr (values_of u (merged (acc ++ qs)))) × G.Literals u (FormattedBegin ∷ ts) qs

-- an Atom in front of a list that begins with a bracket begins with it
bracketed : (ts r s : List Terminal) (e : Expr) → G.Derives Atom ts e → ts ++ r ≡ Op LPar ∷ s → (ks : List Terminal) × (ts ≡ Op LPar ∷ ks)
bracketed [] r s e d q = absurd (omega (arith, led d))
bracketed (t ∷ ks) r s e d q = (ks, ap (λ z. z ∷ ks) (heads q))

field_shape : (ks us vs : List Terminal) → (Op LPar ∷ (ks ++ (us ++ (FieldEnd ∷ [])))) ++ vs ≡ Op LPar ∷ (ks ++ (us ++ (FieldEnd ∷ vs)))
field_shape ks us vs = simp append_assoc refl

spec_sound : (u : Bool) (parts : List Terminal → Answer (List StringPart)) → ((r : List Terminal) → Says (PartsAt u [] r) (parts r))
    → (r : List Terminal) → Says (SpecAt u r) (spec_with parts u r)
spec_sound u parts h r = says_mark is_spec_begin SpecBegin spec_is r _ _
    (λ a s q. says_then _ _ (h s) (λ ps r1 p. found (
      SpecBegin ∷ p.0,
      q ∙ ap (λ z. SpecBegin ∷ z) p.2,
      subst (λ z. G.Spec u (SpecBegin ∷ p.0) (present (Trees.JoinedStr (spec_values_of u (merged z))))) (sym p.3) (G.spec p.4),
    )))
    (found ([], refl, G.no_spec))

module _ (self : Reads) (all : SoundAt self) where
  field_sound : (u : Bool) (c : Conversion) (parts : List Terminal → Answer (List StringPart))
      → ((r : List Terminal) → Says (PartsAt u [] r) (parts r)) → (r : List Terminal) → Says (FieldAt u c r) (field_with self parts u c r)
  field_sound u c parts h r = says_op LPar r _ _ (λ a s q.
      says_then _ _ (all Atom r) (λ e r1 p. says_then _ _ (spec_sound u parts h r1)
      (λ o r2 y. says_mark is_field_end FieldEnd field_end_is r2 _ _ (λ b r3 v.
      let w = bracketed p.0 r1 s e p.2 (sym p.1 ∙ q) in
      found (
        Op LPar ∷ (w.0 ++ (y.0 ++ (FieldEnd ∷ []))),
        p.1 ∙ (ap (λ z. z ++ r1) w.1 ∙ (ap (λ z. Op LPar ∷ (w.0 ++ z)) (y.1 ∙ ap (λ z. y.0 ++ z) v) ∙ sym (field_shape w.0 y.0 r3))),
        λ vs ps f. subst (λ z. G.Formatted u (FieldBegin c ∷ z) (Field (Trees.FormattedValue e c o) ∷ ps)) (sym (field_shape w.0 y.0 vs))
            (G.field_part (subst (λ z. G.Derives Atom z e) w.1 p.2) y.2 f),
      ))
      no_form)))
      (λ _. no_form)

  parts_sound : (u : Bool) (m : ℕ) (acc : List StringPart) (r : List Terminal) → Says (PartsAt u acc r) (parts_loop self u m acc r)
  parts_sound u zero acc r = found ([], [], refl, sym (append-nil acc), G.no_part)
  parts_sound u (suc m) acc r =
      says_first text_in r _ _ (λ t x s e q. says_is _ (parts_sound u m (acc ++ (Text x ∷ [])) s)
      (λ ps r1 p. (
        FormattedText x ∷ p.0,
        Text x ∷ p.1,
        q ∙ (ap (λ z. z ∷ s) (text_is t x e) ∙ ap (λ z. FormattedText x ∷ z) p.2),
        p.3
            ∙ append_assoc acc (Text x ∷ []) p.1,
        G.text_part p.4,
      ))) (λ _.
      says_first conversion_in r _ _
      (λ t c s e q. says_then _ _ (field_sound u c (λ z. parts_loop self u m [] z) (λ z. parts_sound u m [] z) s)
      (λ f r1 y. says_is _ (parts_sound u m (acc ++ (Field f ∷ [])) r1) (λ ps r2 p. (
        FieldBegin c ∷ (y.0 ++ p.0),
        Field f ∷ p.1,
        q
            ∙ (ap (λ z. z ∷ s) (field_is t c e)
            ∙ ap (λ z. FieldBegin c ∷ z) (y.1 ∙ (ap (λ z. y.0 ++ z) p.2 ∙ sym (append_assoc y.0 p.0 r2)))),
        p.3
            ∙ append_assoc acc (Field f ∷ []) p.1,
        y.2 p.0 p.1 p.4,
      )))) (λ _.
      found ([], [], refl, sym (append-nil acc), G.no_part)))

  -- ---- Literals and f-strings.

  formatted_sound : (u : Bool) (acc : List StringPart) (r : List Terminal)
      → Says (λ ps r1. (ts : List Terminal) × (qs : List StringPart) × (r ≡ ts ++ (FormattedEnd ∷ r1)) × (ps ≡ acc ++ qs) × G.Formatted u ts
      qs) (formatted_step self u acc r)
  formatted_sound u acc r = says_then _ _ (parts_sound u (length r) acc r) (λ ps r1 p. says_mark is_formatted_end FormattedEnd end_is r1 _ _
      (λ a s q. found (p.0, p.1, p.2 ∙ ap (λ z. p.0 ++ z) q, p.3, p.4)) no_form)

  loop_sound : (u : Bool) (m : ℕ) (acc : List StringPart) (r : List Terminal)
      → Says (λ ps r1. (ts : List Terminal) × (qs : List StringPart) × (r ≡ ts ++ r1) × (ps ≡ acc ++ qs) × G.Literals u ts qs)
      (literals_loop self u m acc r)
  loop_sound u zero acc r = found ([], [], refl, sym (append-nil acc), G.no_literal)
  loop_sound u (suc m) acc r =
      says_first literal_in r _ _
      (λ t v s e q. says_some (text_of v) _ _ (λ x h. says_is _ (loop_sound u m (acc ++ (Text x ∷ [])) s) (λ ps r1 p.
      let w = value_is v x h in (
        Literal (Values.Str x w.0) ∷ p.0,
        Text x ∷ p.1,
        q ∙ (ap (λ z. z ∷ s) (literal_is t v e ∙ ap Literal w.1)
            ∙ ap (λ z. Literal (Values.Str x w.0) ∷ z) p.2),
        p.3 ∙ append_assoc acc (Text x ∷ []) p.1,
        G.text_literal p.4,
      ))) no_form) (λ _.
      says_mark is_formatted_begin FormattedBegin begin_is r _ _
      (λ a s q. says_then _ _ (formatted_sound u acc s) (λ ps r1 p. says_is _ (loop_sound u m ps r1) (λ qs r2 y. (
        FormattedBegin ∷ (p.0 ++ (FormattedEnd ∷ y.0)),
        p.1 ++ y.1,
        rw (q, p.2, y.2) (simp append_assoc refl),
        rw (y.3, p.3) (append_assoc acc p.1 y.1),
        G.formatted_literal p.4 y.4,
      ))))
      (found ([], [], refl, sym (append-nil acc), G.no_literal)))

  following_sound : (u : Bool) (acc : List StringPart) (r : List Terminal) → Says (JoinedAfter u acc r) (joined_step self u acc r)
  following_sound u acc r =
      says_then _ _ (formatted_sound u acc r) (λ ps r1 p. says_then _ _ (loop_sound u (length r1) ps r1) (λ qs r2 y. found (
        p.0 ++ (FormattedEnd ∷ y.0),
        p.1 ++ y.1,
        rw (p.2, y.2) (simp append_assoc refl),
        ap (λ z. Trees.JoinedStr (values_of u (merged z))) (y.3 ∙ (ap (λ z. z ++ y.1) p.3 ∙ append_assoc acc p.1 y.1)),
        G.formatted_literal p.4 y.4,
      )))

-- the texts in front of the first f-string
prefixed : (u : Bool) (vs : List Values.Value) (ps : List StringPart) → texts_of vs ≡ Some ps → (ts : List Terminal) (qs : List StringPart)
    → G.Literals u ts qs → G.Literals u (map Literal vs ++ ts) (ps ++ qs)
prefixed u [] ps h ts qs l = subst (λ z. G.Literals u ts (z ++ qs)) (same_Some [] ps h) l
prefixed u (Values.Str t k ∷ vs) ps h ts qs l = go (texts_of vs) refl h (λ xs e. prefixed u vs xs e ts qs l)
  where
    go : (o : Option (List StringPart)) → texts_of vs ≡ o → option_map (λ z. Text t ∷ z) o ≡ Some ps
        → ((xs : List StringPart) → texts_of vs ≡ Some xs → G.Literals u (map Literal vs ++ ts) (xs ++ qs))
        → G.Literals u (Literal (Values.Str t k) ∷ (map Literal vs ++ ts)) (ps ++ qs)
    go None e q f = absurd (cc)
    go (Some xs) e q f = subst (λ z. G.Literals u (Literal (Values.Str t k) ∷ (map Literal vs ++ ts)) (z ++ qs))
        (same_Some (Text t ∷ xs) ps q) (G.text_literal (f xs e))
prefixed u (_ ∷ vs) ps h ts qs l = absurd (cc)

formatted_after : (vs : List Values.Value) (ts : List Terminal) → has_formatted (map Literal vs ++ (FormattedBegin ∷ ts)) ≡ true
formatted_after [] ts = refl
formatted_after (v ∷ vs) ts = formatted_after vs ts

-- ---- The two kinds of runs.

-- a run with an f-string
abbrev pub JoinedFits : (List Terminal → Expr → Type 0) → Type 0
JoinedFits P = (u : Bool) (ts : List Terminal) (ps : List StringPart) → G.Literals u ts ps → begins_unicode ts ≡ u → has_formatted ts ≡ true
    → P ts (Trees.JoinedStr (values_of u (merged ps)))

-- and one without
abbrev pub StringsFit : (List Terminal → Expr → Type 0) → Type 0
StringsFit P = (v w : Values.Value) (vs : List Values.Value) → joined v vs ≡ Some w → P (Literal v ∷ map Literal vs) (Trees.Constant w)

-- what they are in front of a list
abbrev pub FitsAt : (List Terminal → Expr → Type 0) → List Terminal → Expr → List Terminal → Type 0
FitsAt P i e r = (ts : List Terminal) × (i ≡ ts ++ r) × P ts e

module _ (self : Reads) (all : SoundAt self) (P : List Terminal → Expr → Type 0) (formatted : JoinedFits P) where
  pub joined_sound : (r : List Terminal) → Says (FitsAt P (FormattedBegin ∷ r)) (joined_step self false [] r)
  joined_sound r = says_is _ (following_sound self all false [] r) (λ e r1 p. (
    FormattedBegin ∷ p.0,
    ap (λ z. FormattedBegin ∷ z) p.2,
    subst (λ z. P (FormattedBegin ∷ p.0) z) (sym p.3) (formatted false (FormattedBegin ∷ p.0) p.1 p.4 refl refl),
  ))

  pub literals_sound : StringsFit P → (v : Values.Value) (r : List Terminal) → Says (FitsAt P (Literal v ∷ r)) (literals self v r)
  literals_sound plain v r = says_then _ _ (string_sound [] r) (λ ws r1 p.
      says_mark is_formatted_begin FormattedBegin begin_is r1 _ _
      (λ a s q. says_some (texts_of (v ∷ ws)) _ _ (λ ps h. says_is _ (following_sound self all (kind_of v) ps s) (λ e r2 y. (
        Literal v ∷ (map Literal ws ++ (FormattedBegin ∷ y.0)),
        shape ws p.0 r1 s r2 y.0 p.1 p.2 q y.2,
        subst (λ z. P (Literal v ∷ (map Literal ws ++ (FormattedBegin ∷ y.0))) z) (sym y.3)
            (formatted (kind_of v) (Literal v ∷ (map Literal ws ++ (FormattedBegin ∷ y.0))) (ps ++ y.1)
            (prefixed (kind_of v) (v ∷ ws) ps h (FormattedBegin ∷ y.0) y.1 y.4) refl (formatted_after ws y.0)),
      ))) no_form)
      (says_made _ r1 (λ e h.
      let z = constant_is (joined v ws) e h in (
        Literal v ∷ map Literal p.0,
        ap (λ z. Literal v ∷ z) p.2,
        subst (λ k. P (Literal v ∷ map Literal p.0) k) z.2
            (plain v z.0 p.0 (ap (joined v) (sym p.1) ∙ z.1)),
      ))))
    where
      shape : (ws vs : List Values.Value) (r1 s r2 ts : List Terminal) → ws ≡ vs → r ≡ map Literal vs ++ r1 → r1 ≡ FormattedBegin ∷ s
          → s ≡ ts ++ r2 → Literal v ∷ r ≡ (Literal v ∷ (map Literal ws ++ (FormattedBegin ∷ ts))) ++ r2
      shape ws vs r1 s r2 ts e q h k =
          ap (λ z. Literal v ∷ z) (q
          ∙ (ap (λ z. map Literal z ++ r1) (sym e) ∙ (ap (λ z. map Literal ws ++ z) (h ∙ ap (λ z. FormattedBegin ∷ z) k)
          ∙ sym (append_assoc (map Literal ws) (FormattedBegin ∷ ts) r2))))
