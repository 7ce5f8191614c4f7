-- Each source is accepted or refused.
--
-- Carries: answered, for SourceLaw. On: Deep, Answered, Law, Starts.
use Rattle.std.proofs.Common.{◌≡◌, ◌⊎◌, inl, inr, ℕ, suc, ◌-◌, ◌<◌, ◌≤◌, List, [], ◌∷◌, length, Option, Some, None, Bool, true, false, refl}
use Rattle.std.proofs.Common.{arith}
use Rattle.std.specs.Prelude.{nat_lt}
use borrow.Author.Tests.{ltb-true, ltb-false}
use Rattle.pylex_listing.specs.Listing.{Source}
use Rattle.pytree_node.specs.declared.profiles.Profile.{Profile}
use Rattle.pytree_node.specs.Trees.{Module}
use Rattle.pytree_height.specs.Heights.{statement_height}
use Rattle.pytoken.specs.declared.refusals.Refusal.{Refusal}
use Rattle.pytoken.specs.Refusals.{refusal}
use Rattle.pytoken.specs.Tokens.{lines}
use Rattle.pytoken.specs.Tokens as Tokens
use Rattle.pygrammar.specs.Lines.{Line, line, Form}
use Rattle.pygrammar.specs.FormHeights.{form_height}
use Rattle.pygrammar.specs.Forms.{FormAt}
use Rattle.pygrammar.specs.Blocks.{stands_in_match, Block, Fault, FirstFault, fault_at_end, fault_at, fault_after}
use Rattle.pygrammar.specs.Refusals.{Code, Syntax, MatchStatement, Indentation, TooDeep, Reason, in_tokens, at, terminals, HasForm, HasNone}
use Rattle.pygrammar.specs.Refusals.{is_left_out, Formed, formed_end, formed_line, Unread, too_high, no_match, no_form, FirstUnread, unread}
use Rattle.pygrammar.specs.Refusals.{unread_after, Accepted, Refused, by_tokens, by_line, by_block, by_height}
use Rattle.pygrammar.proofs.Line.Answered.{read_or_not}
use Rattle.pygrammar.proofs.Block.Law.{fault_or_tree}
use Rattle.pygrammar.proofs.Block.Deep.{formed_flat, formed_proper, deep_is_high, deep_within}
use Rattle.pygrammar.proofs.Block.Starts.{starts}

-- ---- Lines.

low_or_high : (profile : Profile) (inside : Bool) (x : Tokens.Line) (f : Form) → FormAt profile inside (terminals x) f
    → HasForm profile inside x f ⊎ Unread profile inside x TooDeep
low_or_high profile inside x f p = by_height_of (nat_lt 500 (form_height f)) refl
  where
    by_height_of : (b : Bool) → nat_lt 500 (form_height f) ≡ b → HasForm profile inside x f ⊎ Unread profile inside x TooDeep
    by_height_of true e = inr (too_high p (ltb-true 500 (form_height f) e))
    by_height_of false e = inl (record { is = p; low = ltb-false 500 (form_height f) e })

none_unread : (profile : Profile) (inside : Bool) (x : Tokens.Line) → HasNone profile inside x → (c : Code) × Unread profile inside x c
none_unread profile inside x p = by_first (is_left_out profile x) refl
  where
    by_first : (b : Bool) → is_left_out profile x ≡ b → (c : Code) × Unread profile inside x c
    by_first true e = (MatchStatement, no_match p e)
    by_first false e = (Syntax, no_form p e)

line_or_not : (profile : Profile) (inside : Bool) (x : Tokens.Line)
    → ((f : Form) × HasForm profile inside x f) ⊎ ((c : Code) × Unread profile inside x c)
line_or_not profile inside x = elim (read_or_not profile inside (terminals x)) [
  | inl r ↦ elim (low_or_high profile inside x r.0 r.2) [ inl h ↦ inl (r.0, h) | inr h ↦ inr (TooDeep, h) ]
  | inr r ↦ inr (none_unread profile inside x r.1)
]

-- each line has a form, or there is a first that has none
lines_or_not : (profile : Profile) (earlier : List Line) (xs : List Tokens.Line) →
    ((ys : List Line) × Formed profile earlier xs ys × (length ys ≡ length xs)) ⊎ ((n : ℕ) × (c : Code) × FirstUnread profile earlier
    xs n c × (n < length xs))
lines_or_not profile earlier [] = inl ([], formed_end, refl)
lines_or_not profile earlier (x ∷ xs) = elim (line_or_not profile (stands_in_match x.level earlier) x) [
  | inl h ↦ elim (lines_or_not profile (line x.level h.0 ∷ earlier) xs) [
    | inl r ↦ inl (line x.level h.0 ∷ r.0, formed_line h.1 r.1, omega (arith, r.2))
    | inr r ↦ inr (suc r.0, r.1, unread_after h.1 r.2, omega (arith, r.3))
  ]
  | inr h ↦ inr (0, h.0, unread h.1, omega arith)
]

-- ---- Blocks and heights.

fault_within : {earlier xs rest : List Line} {f : Fault} → FirstFault earlier xs rest f → length rest ≤ length xs
fault_within (fault_at_end p) = omega arith
fault_within (fault_at p) = omega arith
fault_within (fault_after c p) = let h = fault_within p in omega arith

abbrev IsAnswered : Profile → Source → Type 0
IsAnswered profile s = ((m : Module) × Accepted profile s m) ⊎ ((r : Reason) × Refused profile s r)

module _ (profile : Profile) (s : Source) (clear : refusal profile.extent s ≡ None) where
  of_tree : (forms : List Line) (m : Module) → Formed profile [] (lines s) forms → length forms ≡ length (lines s)
      → Block 0 forms m.body → IsAnswered profile s
  of_tree forms m p l b = by_depth (nat_lt 500 (statement_height m)) refl
    where
      by_depth : (c : Bool) → nat_lt 500 (statement_height m) ≡ c → IsAnswered profile s
      by_depth true e =
          let h = ltb-true 500 (statement_height m) e in
          let d = (deep_is_high {m = m} b (formed_flat p)).1 h in
          let w = deep_within d.1 in
          let place = starts profile.extent s d.0 clear (omega (arith, w, l)) in
          inr (at place.0 TooDeep, by_height clear p b h d.1 place.1)
      by_depth false e = inl (m, record { clear = clear; forms = forms; formed = p; block = b; low = ltb-false 500 (statement_height m) e })

  of_fault : (forms rest : List Line) (f : Fault) → Formed profile [] (lines s) forms → length forms ≡ length (lines s)
      → FirstFault [] forms rest f → IsAnswered profile s
  of_fault forms rest f p l h =
      let w = fault_within h in
      let n : ℕ = length forms - length rest in
      let place = starts profile.extent s n clear (omega (arith, l)) in
      inr (at place.0 (Indentation f), by_block clear p h (omega (arith, w)) place.1)

  of_lines : IsAnswered profile s
  of_lines = elim (lines_or_not profile [] (lines s)) [
    | inl r ↦ elim (fault_or_tree r.0 (formed_proper r.1)) [
      | inl t ↦ of_tree r.0 (record { body = t.0 }) r.1 r.2 t.1
      | inr f ↦ of_fault r.0 f.0 f.1 r.1 r.2 f.2
    ]
    | inr r ↦ let place = starts profile.extent s r.0 clear (omega (arith, r.3)) in inr (at place.0 r.1, by_line clear r.2 place.1)
  ]

pub answered : (profile : Profile) (s : Source) → IsAnswered profile s
answered profile s = by_refusal (refusal profile.extent s) refl
  where
    by_refusal : (o : Option Refusal) → refusal profile.extent s ≡ o → IsAnswered profile s
    by_refusal (Some r) e = inr (in_tokens r, by_tokens e)
    by_refusal None e = of_lines profile s e
