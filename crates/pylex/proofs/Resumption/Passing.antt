-- What a lister passes before its next step: lexemes that give nothing, and
-- DEDENTs that are given already.
--
-- Carries: passes_steps, passes_reach, Reached, plain_stood and 3 more, for Cursoring. On: Points,
-- Law, Finding, Measured and 2 more.
use Rattle.std.proofs.Common.{◌≡◌, ℕ, ◌+◌, zero, suc, Bool, true, false, ◌&&◌, ◌==◌, cond, List, [], ◌∷◌, ◌++◌, drop, replicate, refl, ap}
use Rattle.std.proofs.Common.{◌∙◌, sym, subst, arith, Option, Some, None}
use Rattle.std.specs.List.{count_by}
use Rattle.std.specs.Prelude.{nat_lt}
use Rattle.pylex_lexeme.specs.declared.lexeme.Class.{Class}
use Rattle.pylex_lexeme.specs.declared.lexeme.Class.TheVariants.{Name, Number, String, Operator, Comment, Blanks, LineEnd, Join}
use Rattle.pylex_listing.specs.declared.entries.Entry.{Entry}
use Rattle.pylex_listing.specs.declared.entries.ListingFault.{ListingFault}
use Rattle.pylex_listing.specs.declared.entries.Step.{Step}
use Rattle.pylex_listing.specs.declared.entries.Step.TheVariants as steps
use Rattle.pylex_lexeme.specs.Operators.{is_closer}
use Rattle.pylex_lexeme.specs.Cuts.{begins_significant}
use Rattle.pylex_lexeme.specs.Lexemes.{Lexeme, lexeme_at, lexeme_len}
use Rattle.pylex_listing.specs.Lines.{closes, is_significant, depth}
use Rattle.pylex_listing.specs.Listing.{Source}
use Rattle.pylex_listing.specs.Machine.{State, after, layout_of, entry_by, gives, remaining, after_steps}
use Rattle.pylex.specs.LineState.{measured}
use Rattle.pylex.specs.Listers.{Passes, here, lexeme, layout}
use Rattle.pylex_listing.proofs.Callers.{state_of, state_push, IsBalanced, balanced_push, significant_is}
use Rattle.pylex.proofs.Listers.Measured.{remaining_lexeme, after_measured}
use Rattle.pylex.proofs.Listers.Finding.{measured_significant, following_first}
use Rattle.pylex.proofs.Resumption.Ahead.{Placed, placed_next}
use Rattle.pylex.proofs.Resumption.Resuming.{state_at_margin, state_depth}
use Rattle.pylex.proofs.Resumption.Points.{GoesAs, after_alike, measured_alike, StoodAt, plain, laid}

drop_marks : (m n : ℕ) (e : Entry) (r : List Step) → drop (m + n) (after_steps (replicate m (steps.Entry e)) r) ≡ drop n r
drop_marks zero n e r = let o : 0 + n ≡ n = omega arith in rw o refl
drop_marks (suc m) n e r = let o : suc m + n ≡ suc (m + n) = omega arith in rw o (drop_marks m n e r)

-- past n DEDENTs and what gives nothing, the steps there are left
pub passes_steps : (f : Option ListingFault) (t : State) (ds : List ℕ) (n : ℕ) (s : State) (cs : List ℕ) → Passes t ds n s cs
    → drop n (remaining f s cs) ≡ remaining f t ds
passes_steps f t ds n s cs here = refl
passes_steps f t ds n s cs (lexeme m r bs x e g p) =
    ap (drop n) (remaining_lexeme f s cs x e ∙ ap (λ ss. after_steps ss (remaining f (after s x) (drop (lexeme_len cs) cs))) g)
    ∙ passes_steps f t ds n (after s x) (drop (lexeme_len cs) cs) p
passes_steps f t ds n s cs (layout m r bs a b l p) =
    ap (drop (count_by (nat_lt s.width) s.levels + m)) (measured_significant f s cs a b
    ∙ ap (λ ss. after_steps ss (remaining f (measured s) cs)) l)
    ∙ drop_marks (count_by (nat_lt s.width) s.levels) m _ (remaining f (measured s) cs)
    ∙ passes_steps f t ds m (measured s) cs p

-- What gives nothing closes no bracket.
pub silent_closes : (s : State) (x : Lexeme) → entry_by s x ≡ [] → (closes x && (s.depth == 0)) ≡ false
unfolding entry_by
silent_closes s x e = by_class x.«class» x.text e
  where
    by_operator : (c d : Bool) (f g : Step) → cond (c && d) (f ∷ []) (g ∷ []) ≡ [] → (c && d) ≡ false
    by_operator true true f g e = absurd cc
    by_operator true false f g e = refl
    by_operator false d f g e = refl

    by_class : (k : Class) (t : List ℕ) → entry_by s (record { «class» = k; text = t }) ≡ []
        → (closes (record { «class» = k; text = t }) && (s.depth == 0)) ≡ false
    by_class Name t e = refl
    by_class Number t e = refl
    by_class String t e = refl
    by_class (Operator o) t e = by_operator (is_closer o) (s.depth == 0) _ _ e
    by_class Comment t e = refl
    by_class Blanks t e = refl
    by_class LineEnd t e = refl
    by_class Join t e = refl

no_first : (a b : List Step) → a ++ b ≡ [] → b ≡ []
no_first [] b e = e
no_first (x ∷ a) b e = absurd cc

silent_entry : (s : State) (x : Lexeme) → gives s x ≡ [] → entry_by s x ≡ []
unfolding gives
silent_entry s x e = no_first (cond (is_significant x) (layout_of s) []) (entry_by s x) e

-- the state there, with what is before it and after it
pub record Reached (a : Source) (t : State) (ds : List ℕ) : Type 0 where
  pub before : List Lexeme
  pub later : List Lexeme
  pub left : List ℕ
  pub placed : Placed a before later ds left
  pub balanced : IsBalanced before
  pub stood : StoodAt t before ds

-- a significant token comes next where the layout is given
pub next_alike : (s : State) (h : List Lexeme) (cs : List ℕ) (x : Lexeme) → lexeme_at cs ≡ Some x → IsBalanced h
    → (closes x && (depth h == 0)) ≡ false → StoodAt s h cs → GoesAs (after s x) (state_of (x ∷ h))
next_alike s h cs x e b n (plain g) = subst (GoesAs (after s x)) (sym (state_push h x b n)) (after_alike s (state_of h) x g)
next_alike s h cs x e b n (laid m t g) =
    let same : after (measured (state_of h)) x ≡ state_of (x ∷ h) = after_measured (state_of h) x.«class» x.text (state_at_margin h ∙ m)
    (significant_is cs x e ∙ t) ∙ sym (state_push h x b n) in
    subst (GoesAs (after s x)) same (after_alike s (measured (state_of h)) x g)

-- the depth of a state that goes on as another
pub stood_depth : (s : State) (h : List Lexeme) (cs : List ℕ) → StoodAt s h cs → s.depth ≡ depth h
stood_depth s h cs (plain g) = g.depth ∙ state_depth h
stood_depth s h cs (laid m t g) = g.depth ∙ state_depth h

-- where a layout is due, none is given
pub plain_stood : (s : State) (h : List Lexeme) (cs : List ℕ) → s.margin ≡ true → StoodAt s h cs → GoesAs s (state_of h)
plain_stood s h cs m (plain g) = g
plain_stood s h cs m (laid n t g) = absurd (never (sym g.margin ∙ m))
  where
    never : false ≡ true → ⊥
    never e = cc

-- one lexeme off the front of a place
pub record Next (a : Source) (h : List Lexeme) (cs left : List ℕ) (x : Lexeme) : Type 0 where
  pub later : List Lexeme
  pub placed : Placed a (x ∷ h) later (drop (lexeme_len cs) cs) left

pub next_of : (a : Source) (h xs : List Lexeme) (cs left : List ℕ) (x : Lexeme) → lexeme_at cs ≡ Some x
    → Placed a h xs cs left → Next a h cs left x
next_of a h [] cs left x e p = let n : None ≡ Some x = sym p.lexemes.1 ∙ e in absurd (nothing n)
  where
    nothing : None ≡ Some x → ⊥
    nothing e = cc
next_of a h (y ∷ xs) cs left x e p =
    let n : Some y ≡ Some x = sym p.lexemes.1 ∙ e in
    let s : y ≡ x = same_lexeme n in
    let d : p.lexemes.0 ≡ drop (lexeme_len cs) cs = sym (following_first cs p.lexemes.0 y p.lexemes.1 p.lexemes.2) in
    record {
      later = xs;
      placed = subst (λ (z : Lexeme). Placed a (z ∷ h) xs (drop (lexeme_len cs) cs) left) s
          (subst (λ (t : List ℕ). Placed a (y ∷ h) xs t left) d (placed_next a h xs y cs left p));
    }
  where
    same_lexeme : Some y ≡ Some x → y ≡ x
    same_lexeme e = cc

-- one lexeme on, whatever it gives
pub reached_next : (a : Source) (s : State) (cs : List ℕ) (x : Lexeme) → lexeme_at cs ≡ Some x → (closes x && (s.depth == 0)) ≡ false
    → (r : Reached a s cs) → Reached a (after s x) (drop (lexeme_len cs) cs)
reached_next a s cs x e n r =
    let q = next_of a r.before r.later cs r.left x e r.placed in
    let c : (closes x && (depth r.before == 0)) ≡ false = ap (λ d. closes x && (d == 0)) (sym (stood_depth s r.before cs r.stood)) ∙ n in
    record {
      before = x ∷ r.before;
      later = q.later;
      left = r.left;
      placed = q.placed;
      balanced = balanced_push r.before x r.balanced c;
      stood = plain (next_alike s r.before cs x e r.balanced c r.stood);
    }

-- the layout of a line given
reached_measured : (a : Source) (s : State) (cs : List ℕ) → s.margin ≡ true → begins_significant cs ≡ true → Reached a s cs
    → Reached a (measured s) cs
reached_measured a s cs m t r =
    let g = plain_stood s r.before cs m r.stood in
    record {
      before = r.before;
      later = r.later;
      left = r.left;
      placed = r.placed;
      balanced = r.balanced;
      stood = laid (sym (state_at_margin r.before) ∙ sym g.margin ∙ m) t (measured_alike s (state_of r.before) g);
    }

pub passes_reach : (a : Source) (t : State) (ds : List ℕ) (n : ℕ) (s : State) (cs : List ℕ) → Passes t ds n s cs
    → Reached a s cs → Reached a t ds
passes_reach a t ds n s cs here r = r
passes_reach a t ds n s cs (lexeme m u bs x e g p) r = passes_reach a t ds n (after s x) (drop (lexeme_len cs) cs) p
    (reached_next a s cs x e (silent_closes s x (silent_entry s x g)) r)
passes_reach a t ds n s cs (layout m u bs b c l p) r = passes_reach a t ds m (measured s) cs p (reached_measured a s cs b c r)
