-- The steps of all lexemes are the machine's run.
--
-- Carries: listing_is, for Callers. On: Law, LeadingChar.
use Rattle.std.proofs.Common.{◌≡◌, ℕ, ◌+◌, Bool, true, false, ◌&&◌, ◌==◌, List, [], ◌∷◌, ◌++◌, refl, ap, ◌∙◌, sym, arith, cond, Option}
use Rattle.std.proofs.Common.{Some, None, append_assoc, ⊎_elim}
use Rattle.std.proofs.lemmas.List.{append-nil}
use Rattle.std.proofs.lemmas.Bool.{cases_Bool}
use Rattle.pysource.specs.Places.{place_after}
use Rattle.pylex_lexeme.specs.declared.lexeme.Class.{Class}
use Rattle.pylex_lexeme.specs.declared.lexeme.Class.TheVariants.{Name, Number, String, Operator, Comment, Blanks, LineEnd, Join}
use Rattle.pylex_listing.specs.declared.entries.ListingFault.{ListingFault}
use Rattle.pylex_listing.specs.declared.entries.ListingError.TheVariants as errors
use Rattle.pylex_listing.specs.declared.entries.Step.{Step}
use Rattle.pylex_listing.specs.declared.entries.Step.TheVariants as steps
use Rattle.pylex_lexeme.specs.Lexemes.{Lexeme, cut, left_by_cut}
use Rattle.pylex_listing.specs.Lines.{text_before, depth, closes, line_so_far, before_line, is_of_line_end, is_at_margin, is_logical}
use Rattle.pylex_listing.specs.Steps.{mark}
use Rattle.pylex_lexeme.specs.Chars.{bytes_in}
use Rattle.pylex_listing.specs.Indentation.{width_from, width_at, widths, open_levels, layout_by, layout}
use Rattle.pylex_listing.specs.Listing.{Source, entry_of, steps_of, line_end_of_last, end_place, tail, stop, steps_from, up_to_end, listing}
use Rattle.pylex_listing.specs.Listing.{origin}
use Rattle.pylex_listing.specs.declared.kind.Kind.TheVariants as kinds
use Rattle.pylex_listing.specs.Machine.{State, layout_of, entry_by, gives, last_line_end, tail_of, stop_of, run, remaining, after}
use Rattle.pylex_listing.specs.Machine.{after_steps, first_state, still}
use Rattle.pylex_listing.proofs.Law.{state_of, state_push, IsBalanced, balanced_push, place_after-append, bytes_in-append}
use Rattle.pylex_listing.proofs.Leads.{hash_is}

-- The text of a line so far is after the text of the lines before it.
pub line_split : (before : List Lexeme) → text_before (before_line before) ++ text_before (line_so_far before) ≡ text_before before
unfolding line_so_far
line_split [] = refl
line_split (x ∷ before) = ⊎_elim
    (λ (e : (is_of_line_end x && (depth before == 0)) ≡ true). rw e (append-nil (text_before before ++ x.text)))
    (λ (e : (is_of_line_end x && (depth before == 0)) ≡ false). let h = line_split before in
    rw e (sym (append_assoc (text_before (before_line before)) (text_before (line_so_far before)) x.text) ∙ ap (λ t. t ++ x.text) h))
    (cases_Bool (is_of_line_end x && (depth before == 0)))

layout_is : (before : List Lexeme) → layout before ≡ layout_of (state_of before)
unfolding layout layout_by layout_of state_of
layout_is before = by_margin (is_at_margin before)
  where
    sizes : bytes_in (text_before (before_line before)) + bytes_in (text_before (line_so_far before)) ≡ bytes_in (text_before before)
    sizes = sym (bytes_in-append (text_before (before_line before)) (text_before (line_so_far before))) ∙ ap bytes_in (line_split before)

    by_margin : (m : Bool) → cond m (layout_by (width_at before) (open_levels (widths before)) before) [] ≡ layout_of
        (record (state_of before) { margin = m; width = still m (width_at before) })
    by_margin true = rw sizes refl
    by_margin false = refl

entry_is : (before : List Lexeme) (x : Lexeme) → entry_of before x ≡ entry_by (state_of before) x
unfolding entry_of entry_by state_of
entry_is before x = by_class x.«class» x.text
  where
    by_class : (k : Class) (t : List ℕ) → entry_of before (record { «class» = k; text = t }) ≡ entry_by (state_of before)
        (record { «class» = k; text = t })
    by_class Name t = rw (place_after-append (text_before before) t) refl
    by_class Number t = rw (place_after-append (text_before before) t) refl
    by_class String t = rw (place_after-append (text_before before) t) refl
    by_class (Operator o) t = rw (place_after-append (text_before before) t) refl
    by_class Comment t = rw (place_after-append (text_before before) t) refl
    by_class Blanks t = refl
    by_class LineEnd t = refl
    by_class Join t = refl

steps_are : (before : List Lexeme) (x : Lexeme) → steps_of before x ≡ gives (state_of before) x
unfolding steps_of gives
steps_are before x =
    let l = layout_is before in
    let e = entry_is before x in
    rw (l, e) refl

tail_is : (before : List Lexeme) → tail before (place_after (text_before before)) ≡ tail_of (state_of before)
unfolding tail tail_of state_of line_end_of_last last_line_end end_place
tail_is before = let h = hash_is (text_before before) in rw h refl

stop_is : (fault : Option ListingFault) (before : List Lexeme) (left : List ℕ)
    → stop fault before left ≡ stop_of fault (state_of before) left
unfolding stop stop_of state_of place_after
stop_is None before left = let l = layout_is before in let t = tail_is before in rw (l, t) refl
stop_is (Some f) before left = let l = layout_is before in rw l refl

pub up_to_end-append : (a b : List Step) → up_to_end (a ++ b) ≡ after_steps a (up_to_end b)
up_to_end-append [] b = refl
up_to_end-append (steps.Entry e ∷ a) b = ap (λ ss. steps.Entry e ∷ ss) (up_to_end-append a b)
up_to_end-append (steps.End ∷ a) b = refl
up_to_end-append (steps.Fault f ∷ a) b = refl

-- After a fault nothing counts.
after_fault : (a : List Step) (f : ListingFault) (b c : List Step) → after_steps (a ++ steps.Fault f ∷ []) b ≡ after_steps
    (a ++ steps.Fault f ∷ []) c
after_fault [] f b c = refl
after_fault (steps.Entry e ∷ a) f b c = ap (λ ss. steps.Entry e ∷ ss) (after_fault a f b c)
after_fault (steps.End ∷ a) f b c = refl
after_fault (steps.Fault g ∷ a) f b c = refl

unmatched : (s : State) (x : Lexeme) (b c : List Step) → (closes x && (s.depth == 0)) ≡ true
    → after_steps (gives s x) b ≡ after_steps (gives s x) c
unfolding gives entry_by
unmatched s x b c e = by_class x.«class» x.text e
  where
    by_class : (k : Class) (t : List ℕ) → (closes (record { «class» = k; text = t }) && (s.depth == 0)) ≡ true
        → after_steps (gives s (record { «class» = k; text = t })) b ≡ after_steps (gives s (record { «class» = k; text = t })) c
    by_class (Operator o) t e = rw e (after_fault (layout_of s) (record { code = errors.UnmatchedCloser; place = s.now.place }) b c)
    by_class Name t e = cc
    by_class Number t e = cc
    by_class String t e = cc
    by_class Comment t e = cc
    by_class Blanks t e = cc
    by_class LineEnd t e = cc
    by_class Join t e = cc

matched_depth : (before : List Lexeme) (x : Lexeme) (b : Bool) → (closes x && (depth before == 0)) ≡ b
    → (closes x && ((state_of before).depth == 0)) ≡ b
unfolding state_of
matched_depth before x b e = e

-- The law: the steps by all that stands before them are the steps by the state.
pub law : (fault : Option ListingFault) (left : List ℕ) (before xs : List Lexeme) → IsBalanced before
    → up_to_end (steps_from fault left before xs) ≡ up_to_end (run fault left (state_of before) xs)
law fault left before [] b = ap up_to_end (stop_is fault before left)
law fault left before (x ∷ xs) b =
    up_to_end-append (steps_of before x) (steps_from fault left (x ∷ before) xs)
    ∙ ap (λ ss. after_steps ss (up_to_end (steps_from fault left (x ∷ before) xs))) (steps_are before x)
    ∙ ⊎_elim
    (λ (e : (closes x && (depth before == 0)) ≡ true). unmatched (state_of before) x _ _ (matched_depth before x true e))
    (λ (e : (closes x && (depth before == 0)) ≡ false).
    ap (after_steps (gives (state_of before) x))
    (law fault left (x ∷ before) xs (balanced_push before x b e)
    ∙ ap (λ s. up_to_end (run fault left s xs)) (state_push before x b e)))
    (cases_Bool (closes x && (depth before == 0)))
    ∙ sym (up_to_end-append (gives (state_of before) x) (run fault left (after (state_of before) x) xs))

pub listing_is : (s : Source) → listing s ≡ mark kinds.Encoding [] origin origin ∷ remaining s.fault first_state s.text
unfolding listing remaining state_of place_after depth open_levels widths is_at_margin width_at line_so_far is_logical width_from
listing_is s = ap (λ ss. mark kinds.Encoding [] origin origin ∷ ss) (law s.fault (left_by_cut s.text) [] (cut s.text)
    (record { closed = omega arith }))
