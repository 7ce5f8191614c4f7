-- The layout before the first significant token of a logical line, and what follows it.
--
-- Carries: stop_within, remaining_lexeme, after_steps-append and 3 more, for
-- Finding, Ending, Passing, Carried and 3 more. On: Steps, Run, Full.
use Rattle.std.proofs.Common.{◌≡◌, ℕ, ◌<◌, true, false, ◌==◌, List, [], ◌∷◌, ◌++◌, length, take, drop, refl, ap, ◌∙◌, sym, subst, arith}
use Rattle.std.proofs.Common.{Option, Some, None}
use Rattle.std.proofs.lemmas.Bool.Decides.{nat_tests}
use Rattle.std.proofs.lemmas.List.{take-append-drop}
use Rattle.pylex_listing.specs.declared.entries.ListingFault.{ListingFault}
use Rattle.pylex_listing.specs.declared.entries.Step.{Step}
use Rattle.pylex_listing.specs.declared.entries.Step.TheVariants as steps
use Rattle.pylex_lexeme.specs.declared.lexeme.Class.{Class}
use Rattle.pylex_lexeme.specs.declared.lexeme.Class.TheVariants.{Name, Number, String, Operator, Comment, Blanks, LineEnd, Join}
use Rattle.pylex_lexeme.specs.Lexemes.{Lexeme, lexeme_at, lexeme_len}
use Rattle.pylex_listing.specs.Lines.{is_significant}
use Rattle.pylex_lexeme.specs.Chars.{bytes_in}
use Rattle.pylex_listing.specs.Listing.{stop_fault, up_to_end}
use Rattle.pylex_listing.specs.Machine.{State, after, gives, entry_by, layout_of, stop_of, remaining, after_steps}
use Rattle.pylex.specs.LineState.{measured}
use Rattle.pylex_listing.proofs.Callers.{up_to_end-append, lexeme_full, lexeme_front}
use Rattle.pylex.proofs.MachineLaws.Steps.{remaining_step, remaining_stop}

-- the state after a significant token is the same, measured before or with it
pub after_measured : (s : State) (k : Class) (t : List ℕ) → s.margin ≡ true → is_significant (record { «class» = k; text = t }) ≡ true
    → after (measured s) (record { «class» = k; text = t }) ≡ after s (record { «class» = k; text = t })
unfolding after
after_measured s Name t m e = rw m refl
after_measured s Number t m e = rw m refl
after_measured s String t m e = rw m refl
after_measured s (Operator o) t m e = rw m refl
after_measured s Join t m e = rw m refl
after_measured s Blanks t m e = cc
after_measured s Comment t m e = cc
after_measured s LineEnd t m e = cc

-- and what it gives comes after the layout
pub gives_measured : (s : State) (k : Class) (t : List ℕ) → s.margin ≡ true → is_significant (record { «class» = k; text = t }) ≡ true
    → gives s (record { «class» = k; text = t }) ≡ layout_of s ++ gives (measured s) (record { «class» = k; text = t })
unfolding gives entry_by layout_of
gives_measured s Name t m e = refl
gives_measured s Number t m e = refl
gives_measured s String t m e = refl
gives_measured s (Operator o) t m e = refl
gives_measured s Join t m e = refl
gives_measured s Blanks t m e = cc
gives_measured s Comment t m e = cc
gives_measured s LineEnd t m e = cc

pub after_steps-append : (a b c : List Step) → after_steps (a ++ b) c ≡ after_steps a (after_steps b c)
after_steps-append [] b c = refl
after_steps-append (steps.Entry e ∷ a) b c = ap (λ ss. steps.Entry e ∷ ss) (after_steps-append a b c)
after_steps-append (steps.End ∷ a) b c = refl
after_steps-append (steps.Fault f ∷ a) b c = refl

full_length : (t : List ℕ) → 0 < bytes_in t → 0 < length t
full_length [] h = absurd (omega (arith, no_bytes))
  where
    no_bytes : bytes_in [] ≡ 0
    no_bytes = refl
full_length (c ∷ t) h = omega arith

-- one lexeme off the front of what is left to list
pub remaining_lexeme : (fault : Option ListingFault) (s : State) (cs : List ℕ) (x : Lexeme) → lexeme_at cs ≡ Some x
    → remaining fault s cs ≡ after_steps (gives s x) (remaining fault (after s x) (drop (lexeme_len cs) cs))
remaining_lexeme fault s cs x e =
    let front = take (lexeme_len cs) cs in
    let back = drop (lexeme_len cs) cs in
    let whole : front ++ back ≡ cs = take-append-drop (lexeme_len cs) cs in
    let text : x.text ≡ front = lexeme_front cs x e in
    let some : 0 < length front = full_length front (subst (λ (t : List ℕ). 0 < bytes_in t) text (lexeme_full cs x e)) in
    let at : lexeme_at (front ++ back) ≡ Some x = ap lexeme_at whole ∙ e in
    ap (remaining fault s) (sym whole) ∙ remaining_step fault s front back x at text some

-- a lexeme, its class and text apart
measured_at : (fault : Option ListingFault) (s : State) (cs : List ℕ) (k : Class) (t : List ℕ) → s.margin ≡ true
    → lexeme_at cs ≡ Some (record { «class» = k; text = t }) → is_significant (record { «class» = k; text = t }) ≡ true
    → remaining fault s cs ≡ after_steps (layout_of s) (remaining fault (measured s) cs)
measured_at fault s cs k t m e h =
    let x : Lexeme = record { «class» = k; text = t } in
    let back = drop (lexeme_len cs) cs in
    remaining_lexeme fault s cs x e
    ∙ ap (λ ss. after_steps ss (remaining fault (after s x) back)) (gives_measured s k t m h)
    ∙ after_steps-append (layout_of s) (gives (measured s) x) (remaining fault (after s x) back)
    ∙ ap (λ r. after_steps (layout_of s) (after_steps (gives (measured s) x) (remaining fault r back))) (sym (after_measured s k t m h))
    ∙ ap (after_steps (layout_of s)) (sym (remaining_lexeme fault (measured s) cs x e))

-- before a significant token that is a lexeme
pub measured_lexeme : (fault : Option ListingFault) (s : State) (cs : List ℕ) (x : Lexeme) → s.margin ≡ true → lexeme_at cs ≡ Some x
    → is_significant x ≡ true → remaining fault s cs ≡ after_steps (layout_of s) (remaining fault (measured s) cs)
measured_lexeme fault s cs x m e h = measured_at fault s cs x.«class» x.text m e h

-- where the cut stops within the text
pub stop_within : (fault : Option ListingFault) (s : State) (c : ℕ) (cs : List ℕ) → stop_of fault s (c ∷ cs) ≡ layout_of s ++ stop_fault
    fault s.now.place (c ∷ cs) ∷ []
unfolding stop_of
stop_within fault s c cs =
    let more : (length (c ∷ cs) == 0) ≡ false = grind (arith, nat_tests) in
    rw more refl

-- the layout of a line that is measured already
pub layout_measured : (s : State) → layout_of (measured s) ≡ []
unfolding layout_of
layout_measured s = refl

-- before a stop within the text
pub measured_stop : (fault : Option ListingFault) (s : State) (c : ℕ) (cs : List ℕ) → lexeme_at (c ∷ cs) ≡ None
    → remaining fault s (c ∷ cs) ≡ after_steps (layout_of s) (remaining fault (measured s) (c ∷ cs))
measured_stop fault s c cs e =
    let last = stop_fault fault s.now.place (c ∷ cs) ∷ [] in
    remaining_stop fault s (c ∷ cs) e
    ∙ ap up_to_end (stop_within fault s c cs)
    ∙ up_to_end-append (layout_of s) last
    ∙ ap (λ ss. after_steps (layout_of s) (up_to_end ss))
    (sym (stop_within fault (measured s) c cs ∙ ap (λ ss. ss ++ last) (layout_measured s) ∙ nil_append last))
    ∙ ap (after_steps (layout_of s)) (sym (remaining_stop fault (measured s) (c ∷ cs) e))
  where
    nil_append : (ss : List Step) → [] ++ ss ≡ ss
    nil_append ss = refl
