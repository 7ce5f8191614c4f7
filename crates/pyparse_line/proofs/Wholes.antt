-- What the answer for a line says of its form.
--
-- Carries: read_line. On: the laws of pygrammar.
use Rattle.std.proofs.Common.{◌≡◌, refl, ap, subst, ◌∙◌, arith, ℕ, suc, ◌+◌, ◌≤◌, ◌<◌, List, [], ◌∷◌, length, map, Bool, true, false, cond}
use Rattle.std.proofs.lemmas.Bool.{le-leb, lt-leb}
use Rattle.std.proofs.lemmas.List.{length-map}
use Rattle.pytree_node.specs.declared.profiles.Profile.{Profile}
use Rattle.pytoken.specs.Terminals.{Terminal}
use Rattle.pytoken.specs.declared.values.terminals.Terminal as given
use Rattle.pytoken.specs.TerminalOf.{terminal}
use Rattle.pygrammar.specs.Capped.{capped}
use Rattle.pygrammar.specs.PatternReader.{PatternReads, capped_pattern}
use Rattle.pygrammar.specs.FormHeights.{form_height}
use Rattle.pygrammar.specs.Forms.{FormAt, is_case_line}
use Rattle.pygrammar.specs.LimitedLines.{cap_form, limit_line}
use Rattle.pygrammar.specs.LineReader.{case_front, line_at, line_front, on_none}
use Rattle.pygrammar.specs.Lines.{Form}
use Rattle.pygrammar.specs.Meets.{Formless, HighLine, LineMeets}
use Rattle.pygrammar.specs.Reader.{Answer, Found, NoForm, TooDeep, Reads, and_then}
use Rattle.pygrammar.proofs.Callers.Lines.{line_limit_meets}
use Rattle.pyparse_nodes.specs.declared.stop.Stop.{Stop}
use Rattle.pyparse_nodes.specs.declared.stop.Stop.TheVariants as stop
use Rattle.pyparse_nodes.specs.Answers.{Failed}
use Rattle.pyparse_nodes.specs.Views.{seen}
use Rattle.pyparse_reads.proofs.Callers.Looks.{seen_length}
use Rattle.pyparse_line.specs.Inner.Fronts.{front}
use Rattle.pyparse_line.specs.Lines.{Refused}

-- a form with nothing left over, no higher than 500
abbrev whole : Answer Form → Answer Form
whole x = cap_form 500 (and_then x (λ f r. on_none r (Found f []) NoForm))

-- either reader, and nothing left over after it
either : (b : Bool) (x y : Answer Form) (k : Form → List Terminal → Answer Form)
    → cond b (and_then x k) (and_then y k) ≡ and_then (cond b x y) k
either true x y k = refl
either false x y k = refl

module _ (profile : Profile) (inside : Bool) (ts : List given.Terminal) (s r : ℕ) (p : s ≡ length ts + 1) (q : r ≡ 501) where
  -- the form at the front, at the depth that the program begins with
  abbrev begun : Answer Form
  begun = front profile (capped s r) (capped_pattern s r) inside (seen ts 0)

  limit_is : limit_line profile inside 500 (map terminal ts) ≡ whole begun
  limit_is = rw (p, q) (ap (λ n. cap_form 500 (line_at profile (capped n 501) (capped_pattern n 501) inside (map terminal ts)))
      (go (length (map terminal ts)) (length-map ts terminal))
      ∙ ap (cap_form 500) (placed (capped (length ts + 1) 501) (capped_pattern (length ts + 1) 501)))
    where
      go : (n : ℕ) → n ≡ length ts → suc n ≡ length ts + 1
      go n e = omega (arith, e)

      placed : (self : Reads) (patterns : PatternReads) → line_at profile self patterns inside (map terminal ts) ≡ and_then
          (front profile self patterns inside (map terminal ts)) (λ f r. on_none r (Found f []) NoForm)
      placed self patterns = either (is_case_line profile inside (map terminal ts)) (case_front profile self patterns (map terminal ts))
          (line_front profile self (map terminal ts)) (λ f r. on_none r (Found f []) NoForm)

  meets : (x : Answer Form) → begun ≡ x → LineMeets profile inside 500 (map terminal ts) (whole x)
  meets x h = subst (λ y. LineMeets profile inside 500 (map terminal ts) y) (limit_is ∙ ap whole h)
      (line_limit_meets profile inside 500 (map terminal ts))

  pub line_failed : (e : Stop) → Failed e begun → Refused e profile inside (map terminal ts)
  line_failed stop.NoForm h = meets NoForm h
  line_failed stop.TooDeep h = meets TooDeep h
  line_failed stop.Memory h = tt

  module _ (f : Form) (n : ℕ) (h : begun ≡ Found f (seen ts n)) where
    left : (i : List Terminal) → 0 < length i → LineMeets profile inside 500 (map terminal ts) (whole (Found f i))
        → Formless profile inside (map terminal ts)
    left [] w m = absurd (omega (arith, w))
    left (t ∷ i) w m = m

    pub line_more : n < length ts → Formless profile inside (map terminal ts)
    line_more w = left (seen ts n) (omega (arith, seen_length ts n, w)) (meets (Found f (seen ts n)) h)

    none : (i : List Terminal) → length i ≡ 0 → LineMeets profile inside 500 (map terminal ts) (whole (Found f i))
        → LineMeets profile inside 500 (map terminal ts) (cap_form 500 (Found f []))
    none [] w m = m
    none (t ∷ i) w m = absurd (omega (arith, w))

    all : n ≡ length ts → LineMeets profile inside 500 (map terminal ts) (cap_form 500 (Found f []))
    all w = none (seen ts n) (omega (arith, seen_length ts n, w)) (meets (Found f (seen ts n)) h)

    pub line_high : n ≡ length ts → 500 < form_height f → HighLine profile inside 500 (map terminal ts)
    line_high w l = subst (λ b. LineMeets profile inside 500 (map terminal ts) (cond b (Found f []) TooDeep))
        (lt-leb (form_height f) 500 l) (all w)

    pub line_found : n ≡ length ts → form_height f ≤ 500 → FormAt profile inside (map terminal ts) f × (form_height f ≤ 500)
    line_found w l = subst (λ b. LineMeets profile inside 500 (map terminal ts) (cond b (Found f []) TooDeep))
        (le-leb (form_height f) 500 l) (all w)
