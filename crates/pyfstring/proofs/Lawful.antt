-- The laws of cuts.
-- Carries: pieces. On: Cutting.
use Rattle.std.proofs.Common.{◌≡◌, ℕ, List, sym, ◌∙◌, Some, None, Option, refl, ap, subst, inl, inr, ◌⊎◌}
use Rattle.std.specs.Prelude.{Result, Ok, Err, IfErr, IsErrAnd, option_map}
use Rattle.pyfstring.specs.declared.parts.CutError.{CutError}
use Rattle.pyfstring.specs.declared.parts.CutError.TheVariants.{Malformed, Memory}
use Rattle.pyfstring.specs.declared.parts.Manner.{Manner}
use Rattle.pyfstring.specs.Parts.{BodyPart}
use Rattle.pyfstring.specs.Pieces.{IsCut}
use Rattle.pyfstring.specs.Laws.{IsMalformed, Tells, CutsAreLawful}
use Rattle.pyfstring.specs.Cutting.{cut_of}
use Rattle.pyfstring.specs.Inner.Passing.{IfMalformed}
use Rattle.pyfstring.proofs.Cutting.{cut_of_sound, cut_of_complete}
use Rattle.pyfstring.proofs.ReturnCuts.{cut_of_same}
use Rattle.pyfstring.specs.Returns.{without_returns, plain_parts}

pub malformed : (m : Manner) (body : List ℕ) → cut_of m body ≡ None → IsMalformed m body
malformed m body e parts c = let f : Some parts ≡ None = sym (cut_of_complete m body parts c) ∙ e in cc

pub cuts_are_lawful : CutsAreLawful
cuts_are_lawful = record {
  unique = λ m body parts others c d. let e : Some parts ≡ Some others = sym (cut_of_complete m body parts c)
      ∙ cut_of_complete m body others d in cc;
  decided = λ m body. decided m body (cut_of m body) refl;
  plain = λ m body parts i c. cut_of_sound m (without_returns body) (plain_parts parts) (cut_of_same m body i
      ∙ ap (option_map plain_parts) (cut_of_complete m body parts c));
  malformed = λ m body i none. malformed m (without_returns body) (cut_of_same m body i
      ∙ ap (option_map plain_parts) (no_cut m body none (cut_of m body) refl));
}
  where
    no_cut : (m : Manner) (body : List ℕ) → IsMalformed m body → (o : Option (List BodyPart)) → cut_of m body ≡ o → cut_of m body ≡ None
    no_cut m body none (Some parts) e = absurd (none parts (cut_of_sound m body parts e))
    no_cut m body none None e = e

    decided : (m : Manner) (body : List ℕ) (o : Option (List BodyPart)) → cut_of m body ≡ o
        → ((parts : List BodyPart) × IsCut m body parts) ⊎ IsMalformed m body
    decided m body (Some parts) e = inl (parts, cut_of_sound m body parts e)
    decided m body None e = inr (malformed m body e)

tells : {P : Type 0} (m : Manner) (body : List ℕ) (e : CutError) → (P → IsMalformed m body) → IfMalformed e P → Tells m body e
tells m body Malformed f p = f p
tells m body Memory f p = tt

pub tells_on : {X P : Type 0} (m : Manner) (body : List ℕ) (r : Result X CutError) (e : CutError) → IsErrAnd r (λ d. d ≡ e)
    → (P → IsMalformed m body) → IfMalformed e P → IfErr r (λ d. Tells m body d)
tells_on m body (Ok x) e h f p = absurd h
tells_on {P = P} m body (Err d) e h f p = tells m body d f (let I : CutError → Type 0 = λ x. IfMalformed x P in subst I (sym h) p)
