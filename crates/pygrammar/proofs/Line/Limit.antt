-- Carries: `line_limit_meets`. What each answer of the reader of a line within a height says.
use Rattle.std.proofs.Common.{◌≡◌, ◌↔◌, inl, inr, sym, ap, subst, ◌∙◌, refl, ℕ, suc, ◌≤◌, ◌<◌, arith, List, [], ◌∷◌, length, Bool, true}
use Rattle.std.proofs.Common.{false, cond, leb}
use Rattle.std.proofs.lemmas.Bool.{leb-true, leb-false, le-leb}
use Rattle.pytree_node.specs.declared.profiles.Profile.{Profile}
use Rattle.pytoken.specs.Terminals.{Terminal}
use Rattle.pygrammar.specs.Lengths.{weight}
use Rattle.pygrammar.proofs.Answers.{found_one, rest_found, none_found, deep_found, deep_none}
use Rattle.pygrammar.proofs.Depths.Weights.{weight_most}
use Rattle.pygrammar.specs.Reader.{Answer, Found, NoForm, TooDeep, read}
use Rattle.pygrammar.specs.Capped.{capped}
use Rattle.pygrammar.specs.Lines.{Form}
use Rattle.pygrammar.specs.Forms.{FormAt}
use Rattle.pygrammar.specs.FormHeights.{form_height}
use Rattle.pygrammar.specs.PatternReader.{capped_pattern}
use Rattle.pygrammar.specs.LineReader.{line_at, plain, plain_pattern, read_line}
use Rattle.pygrammar.specs.LimitedLines.{cap_form, limit_line}
use Rattle.pygrammar.specs.Meets.{Formless, HighLine, LineMeets}
use Rattle.pygrammar.proofs.Depths.Enough.{Good, good_read}
use Rattle.pygrammar.proofs.Depths.Keeps.{light_read}
use Rattle.pygrammar.proofs.Depths.Whole.{final}
use Rattle.pygrammar.proofs.Heights.Over.{Over, over, Caps}
use Rattle.pygrammar.proofs.Heights.Caps.{caps_read}
use Rattle.pygrammar.proofs.Heights.Room.{good_capped}
use Rattle.pygrammar.proofs.Line.Answered.{g_place, read_or_not}
use Rattle.pygrammar.proofs.Line.Depth.{k_place}
use Rattle.pygrammar.proofs.Line.Law.{read_goes}
use Rattle.pygrammar.proofs.Line.SoundLines.{read_gives}
use Rattle.pygrammar.proofs.Line.CapsLines.{c_place}
use Rattle.pygrammar.proofs.Line.CapsBrackets.{brackets}
use Rattle.pygrammar.proofs.Line.Patterns.{final_pattern, pattern_light, pattern_good, pattern_over}

over_is : (n : ℕ) (f : Form) (r : List Terminal) → Over form_height n (Found f r) → n ≤ form_height f
over_is n f r (over p) = p

module _ (profile : Profile) (inside : Bool) (d : ℕ) (ts : List Terminal) where
  -- more than there are terminals
  abbrev most : ℕ
  most = suc (length ts)

  -- before the form is checked
  abbrev roomy : Answer Form
  roomy = line_at profile (capped most (suc d)) (capped_pattern most (suc d)) inside ts

  -- beside the plain reader
  abbrev at_most : Answer Form
  at_most = line_at profile (read most) plain_pattern inside ts

  plain_one : at_most ≡ read_line profile inside ts
  plain_one = elim (k_place (read most) plain (λ l i. final most l i) (light_read most) plain_pattern plain_pattern (λ l i. inr refl)
      (λ l i. pattern_light (suc (length i)) (suc (suc (length i))) l i) profile inside ts) [
        | inl q ↦ absurd (subst (Good most) q (g_place (read most) most (good_read most) plain_pattern profile inside ts
            (omega (arith, weight_most ts)) (λ l j v. pattern_good (suc (length j)) (suc (suc (length j))) most l j
            (omega (arith, weight_most j)) (omega (arith, weight_most j)) (omega (arith, v, weight_most ts)))))
        | inr q ↦ q
      ]

  beside : Caps form_height (suc d) roomy (read_line profile inside ts)
  beside = subst (λ z. Caps form_height (suc d) roomy z) plain_one
      (c_place (suc d) (capped most (suc d)) (read most) (caps_read most (suc d)) (light_read most) (brackets most d)
      (capped_pattern most (suc d))
      plain_pattern (λ l i. final_pattern most (suc d) l i) (λ l i. pattern_light (suc (length i)) (suc (suc (length i))) l i)
      profile inside ts (λ l j r p v h k e. pattern_over most (suc d) l j r p (omega (arith, v)) h k e))

  roomy_found : (f : Form) (r : List Terminal) → roomy ≡ Found f r → read_line profile inside ts ≡ Found f r
  roomy_found f r h = elim beside [ inl q ↦ sym q ∙ h | inr q ↦ absurd (deep_found f r (sym q.0 ∙ h)) ]

  roomy_no_form : roomy ≡ NoForm → Formless profile inside ts
  roomy_no_form h f p = elim beside [ inl q ↦ none_found f [] (sym h ∙ (q ∙ read_goes profile p)) | inr q ↦ deep_none (sym q.0 ∙ h) ]

  roomy_deep : roomy ≡ TooDeep → (f : Form) → FormAt profile inside ts f → suc d < form_height f
  roomy_deep h f p = elim beside [
    | inl q ↦ absurd (deep_found f [] (sym h ∙ (q ∙ read_goes profile p)))
    | inr q ↦ over_is (suc (suc d)) f [] (subst (λ z. Over form_height (suc (suc d)) z) (read_goes profile p) q.1)
  ]

  -- it goes too deep in no line that counts at most d
  roomy_enough : roomy ≡ TooDeep → d < weight ts
  roomy_enough h = least d (weight ts)
      (λ w. subst (Good (suc (weight ts))) h
      (g_place (capped most (suc d)) (suc (weight ts)) (good_capped most (suc d) (suc (weight ts)) (omega (arith, weight_most ts))
      (omega (arith, w))) (capped_pattern most (suc d)) profile inside ts (omega arith)
      (λ l j v. pattern_good most (suc d) (suc (weight ts)) l j (omega (arith, v, weight_most ts))
      (omega (arith, w, v)) (omega (arith, v)))))
    where
      least : (d n : ℕ) → (n ≤ d → ⊥) → d < n
      least d n f = omega (arith, f)

  -- no terminal is left
  nothing_left : (f : Form) (t : Terminal) (r : List Terminal) → roomy ≡ Found f (t ∷ r) → ⊥
  nothing_left f t r h = elim (read_or_not profile inside ts) [
    | inl q ↦ rest_found f q.0 t r (sym (roomy_found f (t ∷ r) h) ∙ q.1)
    | inr q ↦ none_found f (t ∷ r) (sym q.0 ∙ roomy_found f (t ∷ r) h)
  ]

  too_high : (f : Form) → roomy ≡ Found f [] → d < form_height f → HighLine profile inside d ts
  too_high f h w = (
    λ g p. subst (λ z. d < form_height z) (found_one f g [] [] (sym (roomy_found f [] h) ∙ read_goes profile p)) w,
    λ no. absurd (no f (read_gives profile inside ts f (roomy_found f [] h))),
  )

  -- the law: what each answer says
  pub line_limit_meets : LineMeets profile inside d ts (limit_line profile inside d ts)
  line_limit_meets = go roomy refl
    where
      go : (x : Answer Form) → roomy ≡ x → LineMeets profile inside d ts (cap_form d x)
      go NoForm q = roomy_no_form q
      go TooDeep q = (λ f p. omega (arith, roomy_deep q f p), λ no. roomy_enough q)
      go (Found f (t ∷ r)) q = absurd (nothing_left f t r q)
      go (Found f []) q = check (leb (form_height f) d) refl
        where
          check : (b : Bool) → leb (form_height f) d ≡ b → LineMeets profile inside d ts (cond b (Found f []) TooDeep)
          check true v = (read_gives profile inside ts f (roomy_found f [] q), leb-true (form_height f) d v)
          check false v = too_high f q (leb-false (form_height f) d v)

-- and each form that is at most d high is found
pub line_limit_exactly : (profile : Profile) (inside : Bool) (d : ℕ) (ts : List Terminal) (f : Form)
    → (FormAt profile inside ts f × (form_height f ≤ d)) ↔ (limit_line profile inside d ts ≡ Found f [])
line_limit_exactly profile inside d ts f =
    (λ p. found p.0 p.1, λ h. subst (LineMeets profile inside d ts) h (line_limit_meets profile inside d ts))
  where
    found : FormAt profile inside ts f → form_height f ≤ d → limit_line profile inside d ts ≡ Found f []
    found p w = ap (cap_form d) (elim (beside profile inside d ts) [
      | inl q ↦ q ∙ read_goes profile p
      | inr q ↦ absurd (omega (
        arith,
        w,
        over_is (suc (suc d)) f [] (subst (λ z. Over form_height (suc (suc d)) z) (read_goes profile p) q.1),
      ))
    ])
        ∙ ap (λ b. cond b (Found f []) TooDeep) (le-leb (form_height f) d w)
