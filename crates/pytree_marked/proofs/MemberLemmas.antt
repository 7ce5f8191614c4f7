-- The text of a place's members.
--
-- Carries: push_on_line, push_on_lines, push_place, end_node.
use Rattle.std.proofs.Common.{◌≡◌, ℕ, ◌++◌, List, [], ◌∷◌, true, Option, Some, None, codes, refl, sym, ap, ◌∙◌}
use Rattle.std.specs.Option.{option_map}
use Rattle.std.proofs.lemmas.List.{append-nil, append_assoc}
use Rattle.pytree_dump_text.specs.declared.lines.Told.{Told}
use Rattle.pytree_dump_text.specs.declared.styles.Style.{Style}
use Rattle.pytree_dump_text.specs.Shows.{no_field}
use Rattle.pytree_dump_text.specs.Slots.{coming}
use Rattle.pytree_marked.specs.declared.shown.Shown as given
use Rattle.pytree_marked.specs.MarkedNodes.{Attributes, members}
use Rattle.pytree_marked.specs.Appends.{coming_with}
use Rattle.pytree_marked.specs.Taking.{attributes, first_left}

member_parts : (o b0 n0 d0 b1 n1 d1 b2 n2 d2 b3 n3 d3 : List ℕ) →
    (((o ++ (b0 ++ (n0 ++ d0))) ++ (b1 ++ (n1 ++ d1))) ++ (b2 ++ (n2 ++ d2))) ++ (b3 ++ (n3 ++ d3))
    ≡ o ++ (b0 ++ n0 ++ d0 ++ (b1 ++ n1 ++ d1 ++ (b2 ++ n2 ++ d2 ++ (b3 ++ n3 ++ d3 ++ []))))
member_parts o b0 n0 d0 b1 n1 d1 b2 n2 d2 b3 n3 d3 = simp (append_assoc, append-nil) refl

-- four members, one after the other
pub members_text : (o o1 o2 o3 o4 b0 n0 d0 b1 n1 d1 b2 n2 d2 b3 n3 d3 : List ℕ) →
    o1 ≡ o ++ (b0 ++ (n0 ++ d0)) → o2 ≡ o1 ++ (b1 ++ (n1 ++ d1)) → o3 ≡ o2 ++ (b2 ++ (n2 ++ d2)) → o4 ≡ o3 ++ (b3 ++ (n3 ++ d3)) →
    o4 ≡ o ++ (b0 ++ n0 ++ d0 ++ (b1 ++ n1 ++ d1 ++ (b2 ++ n2 ++ d2 ++ (b3 ++ n3 ++ d3 ++ []))))
members_text o o1 o2 o3 o4 b0 n0 d0 b1 n1 d1 b2 n2 d2 b3 n3 d3 e1 e2 e3 e4 =
    e4 ∙ (λ i. (e3 ∙ (λ j. (e2 ∙ (λ k. e1 k ++ (b1 ++ (n1 ++ d1)))) j ++ (b2 ++ (n2 ++ d2)))) i ++ (b3 ++ (n3 ++ d3)))
    ∙ member_parts o b0 n0 d0 b1 n1 d1 b2 n2 d2 b3 n3 d3

-- after a marked node's fields
bare_ended : (ps : List Attributes) (s : Style) (f o : List ℕ) (told : Told) → None ≡ first_left ps
    → o ≡ o ++ coming_with true s f ps told no_field
bare_ended [] s f o told e = sym (append-nil o)
bare_ended (p ∷ ps) s f o told e = absurd cc

abbrev or_else : Attributes → Option Attributes → Attributes
or_else p None = p
or_else p (Some q) = q

members_ended : (ps : List Attributes) (p : Attributes) (s : Style) (f o o1 : List ℕ) (told : Told) → Some p ≡ first_left ps →
    o1 ≡ o ++ coming s f told (members p) → o1 ≡ o ++ coming_with true s f ps told no_field
members_ended [] p s f o o1 told e grown = absurd cc
members_ended (q ∷ ps) p s f o o1 told e grown = grown ∙ ap (λ r. o ++ coming s f told (members (or_else p r))) e

pub place_ended : (ps : List Attributes) (r : Option given.Shown) (s : Style) (f o : List ℕ) (told : Told) →
    option_map attributes r ≡ first_left ps → r ≡ None → o ≡ o ++ coming_with true s f ps told no_field
place_ended ps r s f o told taken none = bare_ended ps s f o told (sym (ap (option_map attributes) none) ∙ taken)

pub place_shown : (ps : List Attributes) (r : Option given.Shown) (p : given.Shown) (s : Style) (f o o1 : List ℕ) (told : Told) →
    option_map attributes r ≡ first_left ps → r ≡ Some p → o1 ≡ o ++ coming s f told (members (attributes p))
    → o1 ≡ o ++ coming_with true s f ps told no_field
place_shown ps r p s f o o1 told taken some grown =
    members_ended ps (attributes p) s f o o1 told (sym (ap (option_map attributes) some) ∙ taken) grown

-- the bracket after them
pub ended : (o o1 o2 x : List ℕ) → o1 ≡ o ++ x → o2 ≡ o1 ++ codes ")" → o2 ≡ o ++ (x ++ codes ")")
ended o o1 o2 x e1 e2 = e2 ∙ ap (λ z. z ++ codes ")") e1 ∙ append_assoc o x (codes ")")
