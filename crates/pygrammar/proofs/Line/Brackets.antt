-- Where items in brackets aren't read within a height, none stand in front of a colon.
--
-- Carries: brackets_are_read, for Callers/Lines. On: Caps, Depth, Headers.
use Rattle.std.proofs.Common.{◌≡◌, inl, inr, refl, sym, ap, ◌∙◌, ℕ, zero, suc, arith, List, ◌∷◌, ◌++◌}
use Rattle.pylex_lexeme.specs.declared.kinds.Exact.TheVariants as Sign
use Rattle.pytree_node.specs.Trees.{Item}
use Rattle.pytoken.specs.Terminals.{Terminal, Op}
use Rattle.pygrammar.specs.Capped.{capped}
use Rattle.pygrammar.specs.Forms as F
use Rattle.pygrammar.specs.Lengths.{weight}
use Rattle.pygrammar.specs.LineReader.{bracketed, plain}
use Rattle.pygrammar.specs.Reader.{Answer, Found, NoForm, TooDeep, read}
use Rattle.pygrammar.proofs.Depths.Keeps.{all_kept, keeps_kept, light_read}
use Rattle.pygrammar.proofs.Depths.Whole.{final}
use Rattle.pygrammar.proofs.Heights.Caps.{caps_in, caps_kept, caps_read}
use Rattle.pygrammar.proofs.Line.Headers.{bracketed_goes}
use Rattle.pygrammar.proofs.Related.Lines.{r_bracketed}

deep_no_form : (x : Answer (List Item)) → x ≡ TooDeep → x ≡ NoForm → ⊥
deep_no_form x p q = absurd (cc)

found_no_form : (is : List Item) (r : List Terminal) (x : Answer (List Item)) → x ≡ Found is r → x ≡ NoForm → ⊥
found_no_form is r x p q = absurd (cc)

-- to a depth, and of any depth
plain_none : (g : ℕ) (i : List Terminal) → bracketed (read g) i ≡ NoForm → bracketed plain i ≡ NoForm
plain_none g i q =
    elim (r_bracketed keeps_kept (read g) plain (suc (weight i)) (all_kept (read g) plain (λ l j. final g l j) (light_read g)
    (suc (weight i))) i (omega arith)) [
      | inl p ↦ absurd (deep_no_form (bracketed (read g) i) p q)
      | inr p ↦ sym p.0 ∙ q
    ]

-- within a height, and of any height
capped_none : (g d : ℕ) (i : List Terminal) → bracketed (capped g (suc d)) i ≡ NoForm → bracketed (read g) i ≡ NoForm
capped_none g d i q =
    elim ((r_bracketed (caps_kept (suc (suc d))) (capped g (suc d)) (read g) (suc (weight i)) (caps_in (suc d) (capped g (suc d)) (read g)
    (caps_read g (suc d)) (light_read g) (suc (weight i))) i (omega arith)).2 refl) [
      | inl p ↦ sym p ∙ q
      | inr p ↦ absurd (deep_no_form (bracketed (capped g (suc d)) i) p.0 q)
    ]

-- with no room nothing is read
no_room : (g : ℕ) {us : List Terminal} {is : List Item} → F.Bracketed us is → (r : List Terminal)
    → bracketed (capped g zero) (us ++ r) ≡ TooDeep
no_room zero (F.bracketed c) r = refl
no_room (suc g) (F.bracketed c) r = refl

pub brackets_are_read : (g d : ℕ) (i us z : List Terminal) (is : List Item) → bracketed (capped g d) i ≡ NoForm
    → i ≡ us ++ (Op Sign.Colon ∷ z) → F.Bracketed us is → ⊥
brackets_are_read g zero i us z is q h b = deep_no_form (bracketed (capped g zero) i)
    (ap (bracketed (capped g zero)) h ∙ no_room g b (Op Sign.Colon ∷ z)) q
brackets_are_read g (suc d) i us z is q h b = found_no_form is (Op Sign.Colon ∷ z) (bracketed plain i)
    (ap (bracketed plain) h ∙ bracketed_goes b z) (plain_none g i (capped_none g d i q))
