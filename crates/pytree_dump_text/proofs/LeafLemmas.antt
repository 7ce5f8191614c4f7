-- The text of names and constants, which stand on one line in each style.
--
-- Carries: show_plain_name, show_name, show_constant, push_name_and_context.
use Rattle.std.proofs.Common.{◌≡◌, ◌∙◌, ap, sym, refl, ◌++◌, ◌∷◌, ◌||◌, ℕ, List, [], Bool, true, false, codes}
use Rattle.std.proofs.lemmas.List.{append-nil, append_assoc}
use Rattle.std.specs.List.{list_all}
use Rattle.std.specs.Str.{chars}
use Rattle.pytree_node.specs.declared.operators.Context.{Context}
use Rattle.pytree_node.specs.Trees
use Rattle.pytree_node.specs.Values as value
use Rattle.pytree_node.specs.Values.{Value}
use Rattle.pysource.specs.Reprs.{is_plain, repr_text}
use Rattle.pysource.proofs.Callers.Printing.{plain_repr}
use Rattle.pytree_dump_text.specs.declared.styles.Style.{Style}
use Rattle.pytree_dump_text.specs.Shows.{Fields, Scalar, a_field, no_field, context_name, kind_field, shown, shown_name, value_text, word}
use Rattle.pytree_dump_text.specs.Layout.{deeper, fields, is_flat, is_short, label, text}
use Rattle.pytree_dump_text.specs.Slots.{kind_shown}

or_true : (b : Bool) → (b || true) ≡ true
or_true true = refl
or_true false = refl

-- a node whose fields are told on one line, or not
abbrev node : Style → List ℕ → Bool → List ℕ → Fields → List ℕ
node s f one_line class fs = class ++ codes "(" ++ fields s (deeper s.indent f) one_line s.names true fs ++ codes ")"

-- of two fields, the second a word
two_parts : (o p q l r c m w a b : List ℕ) →
    o ++ (p ++ q ++ (l ++ r ++ (c ++ m ++ (w ++ a ++ [] ++ b) ++ [])) ++ b) ≡ o ++ (p ++ q ++ l) ++ r ++ (c ++ m ++ w ++ (a ++ b ++ b))
two_parts o p q l r c m w a b = simp (append_assoc, append-nil) refl

-- of one field
one_part : (o p q l v b : List ℕ) → o ++ (p ++ q ++ (l ++ v ++ []) ++ b) ≡ o ++ (p ++ q ++ l) ++ v ++ b
one_part o p q l v b = simp (append_assoc, append-nil) refl

-- of two fields, the second as it is
kind_parts : (o p q l v c m u b : List ℕ) → o ++ (p ++ q ++ (l ++ v ++ (c ++ m ++ u ++ [])) ++ b) ≡ o ++ (p ++ q ++ l)
    ++ v ++ (c ++ m ++ u ++ b)
kind_parts o p q l v c m u b = simp (append_assoc, append-nil) refl

abbrev name_fields : List ℕ → Context → Fields
name_fields x c = a_field (codes "id") (shown_name x) (a_field (codes "ctx") (word (context_name c)) no_field)

name_parts : (s : Style) (f x : List ℕ) (c : Context) (o : List ℕ) → o ++ node s f true (codes "Name") (name_fields x c)
    ≡ ((o ++ (codes "Name(" ++ label s.names (codes "id"))) ++ repr_text x) ++
    (codes ", " ++ label s.names (codes "ctx") ++ context_name c ++ codes "())")
name_parts s f x c o = two_parts o (codes "Name") (codes "(") (label s.names (codes "id")) (repr_text x) (codes ", ")
    (label s.names (codes "ctx")) (context_name c) (codes "(") (codes ")")

pub name_text : (s : Style) (f x : List ℕ) (c : Context) (o0 o1 o2 o3 start end : List ℕ) →
    start ≡ codes "Name(" ++ label s.names (codes "id") → end ≡ codes ", " ++ label s.names (codes "ctx") ++ context_name c ++ codes "())" →
    o1 ≡ o0 ++ start → o2 ≡ o1 ++ repr_text x → o3 ≡ o2 ++ end → o3 ≡ o0 ++ text s f (shown (Trees.Name x c))
name_text s f x c o0 o1 o2 o3 start end es ee e1 e2 e3 =
    e3 ∙ (λ i. (e2 ∙ (λ j. (e1 ∙ (λ k. o0 ++ es k)) j ++ repr_text x)) i ++ ee i)
    ∙ sym (name_parts s f x c o0) ∙ sym (ap (λ b. o0 ++ node s f b (codes "Name") (name_fields x c)) (or_true (is_flat s.indent)))

-- its text between the quotes
quoted_parts : (o p b e : List ℕ) → ((o ++ (p ++ 39 ∷ [])) ++ b) ++ (39 ∷ e) ≡ o ++ (p ++ (39 ∷ b ++ 39 ∷ []) ++ e)
quoted_parts o p b e = simp append_assoc refl

-- a name whose text is plain
pub plain_name : (bs : List ℕ) (c : Context) (o0 o1 o2 o3 : List ℕ) → list_all is_plain bs ≡ true →
    o1 ≡ o0 ++ codes "Name(id='" → o2 ≡ o1 ++ bs → o3 ≡ o2 ++ (codes "', ctx=" ++ context_name c ++ codes "())") →
    o3 ≡ o0 ++ (codes "Name(id=" ++ repr_text (chars bs) ++ (codes ", ctx=" ++ context_name c ++ codes "())"))
plain_name bs c o0 o1 o2 o3 plain e1 e2 e3 =
    let end = codes ", ctx=" ++ context_name c ++ codes "())" in
    e3 ∙ ap (λ z. z ++ (39 ∷ end)) (e2 ∙ ap (λ z. z ++ bs) e1)
    ∙ quoted_parts o0 (codes "Name(id=") bs end
    ∙ ap (λ z. o0 ++ (codes "Name(id=" ++ z ++ end)) (sym (plain_repr bs plain))

-- an attribute whose name is plain, and one whose name is shown by its repr
pub plain_attribute : (bs : List ℕ) (c : Context) (o0 o1 o2 o3 : List ℕ) → list_all is_plain bs ≡ true →
    o1 ≡ o0 ++ codes ", attr='" → o2 ≡ o1 ++ bs → o3 ≡ o2 ++ (codes "', ctx=" ++ context_name c ++ codes "())") →
    o3 ≡ o0 ++ (codes ", attr=" ++ repr_text (chars bs) ++ (codes ", ctx=" ++ context_name c ++ codes "())"))
plain_attribute bs c o0 o1 o2 o3 plain e1 e2 e3 =
    let end = codes ", ctx=" ++ context_name c ++ codes "())" in
    e3 ∙ ap (λ z. z ++ (39 ∷ end)) (e2 ∙ ap (λ z. z ++ bs) e1)
    ∙ quoted_parts o0 (codes ", attr=") bs end
    ∙ ap (λ z. o0 ++ (codes ", attr=" ++ z ++ end)) (sym (plain_repr bs plain))

pub told_attribute : (x o0 o1 o2 o3 start end : List ℕ) → o1 ≡ o0 ++ start → o2 ≡ o1 ++ repr_text x → o3 ≡ o2 ++ end →
    o3 ≡ o0 ++ (start ++ repr_text x ++ end)
told_attribute x o0 o1 o2 o3 start end e1 e2 e3 =
    e3 ∙ ap (λ z. z ++ end) (e2 ∙ ap (λ z. z ++ repr_text x) e1) ∙ simp append_assoc refl

abbrev constant_fields : Value → Fields
constant_fields v = a_field (codes "value") (Scalar (value_text v)) (kind_field v no_field)

short : (v : Value) → is_short (constant_fields v) ≡ true
short value.None = refl
short value.Ellipsis = refl
short (value.Bool b) = refl
short (value.Int n) = refl
short (value.Float x) = refl
short (value.Imaginary x) = refl
short (value.Str points true) = refl
short (value.Str points false) = refl
short (value.Bytes bytes) = refl

constant_parts : (s : Style) (f o : List ℕ) (v : Value) → o ++ node s f true (codes "Constant") (constant_fields v)
    ≡ ((o ++ (codes "Constant(" ++ label s.names (codes "value"))) ++ value_text v) ++ (kind_shown s.names v ++ codes ")")
constant_parts s f o value.None = one_part o (codes "Constant") (codes "(") (label s.names (codes "value"))
    (value_text value.None) (codes ")")
constant_parts s f o value.Ellipsis = one_part o (codes "Constant") (codes "(") (label s.names (codes "value"))
    (value_text value.Ellipsis) (codes ")")
constant_parts s f o (value.Bool b) = one_part o (codes "Constant") (codes "(") (label s.names (codes "value"))
    (value_text (value.Bool b)) (codes ")")
constant_parts s f o (value.Int n) = one_part o (codes "Constant") (codes "(") (label s.names (codes "value"))
    (value_text (value.Int n)) (codes ")")
constant_parts s f o (value.Float x) = one_part o (codes "Constant") (codes "(") (label s.names (codes "value"))
    (value_text (value.Float x)) (codes ")")
constant_parts s f o (value.Imaginary x) = one_part o (codes "Constant") (codes "(") (label s.names (codes "value"))
    (value_text (value.Imaginary x)) (codes ")")
constant_parts s f o (value.Str points false) = one_part o (codes "Constant") (codes "(") (label s.names (codes "value"))
    (value_text (value.Str points false)) (codes ")")
constant_parts s f o (value.Str points true) = kind_parts o (codes "Constant") (codes "(") (label s.names (codes "value"))
    (value_text (value.Str points true)) (codes ", ") (label s.names (codes "kind")) (codes "'u'") (codes ")")
constant_parts s f o (value.Bytes bytes) = one_part o (codes "Constant") (codes "(") (label s.names (codes "value"))
    (value_text (value.Bytes bytes)) (codes ")")

pub constant_text : (s : Style) (f : List ℕ) (v : Value) (o0 o1 o2 o3 start end : List ℕ) →
    start ≡ codes "Constant(" ++ label s.names (codes "value") → end ≡ kind_shown s.names v ++ codes ")" →
    o1 ≡ o0 ++ start → o2 ≡ o1 ++ value_text v → o3 ≡ o2 ++ end → o3 ≡ o0 ++ text s f (shown (Trees.Constant v))
constant_text s f v o0 o1 o2 o3 start end es ee e1 e2 e3 =
    e3 ∙ (λ i. (e2 ∙ (λ j. (e1 ∙ (λ k. o0 ++ es k)) j ++ value_text v)) i ++ ee i)
    ∙ sym (constant_parts s f o0 v)
    ∙ sym (ap (λ b. o0 ++ node s f b (codes "Constant") (constant_fields v)) (ap (λ b. is_flat s.indent || b) (short v)
    ∙ or_true (is_flat s.indent)))
