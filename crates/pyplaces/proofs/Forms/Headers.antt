-- Headers.
--
-- Carries: the functions of headers/. On: Fronts, Parts.
use Rattle.std.proofs.Common.{◌≡◌, refl, ap, ◌∙◌, ℕ, ◌+◌, arith, List, [], ◌∷◌, ◌++◌, Option, Some, None, Bool, true, false}
use Rattle.pylex_lexeme.specs.declared.kinds.Exact.TheVariants as Sign
use Rattle.pytoken.specs.declared.keywords.Keyword.TheVariants as Key
use Rattle.pytree_node.specs.declared.profiles.Profile.{Profile}
use Rattle.pygrammar.specs.declared.levels.Level.TheVariants.{Stars, Named, Expression}
use Rattle.pygrammar.specs.declared.pattern_levels.PatternLevel.TheVariants.{Patterns}
use Rattle.pytree_node.specs.Trees.{Expr, no_keyword, Arguments, Keywords, Identifier, Pattern, Item, TypeParam}
use Rattle.pytoken.specs.Terminals.{Terminal, Spelled, Op, Word, Ident}
use Rattle.pygrammar.specs.Entries.{Argument, Parameter, Entry}
use Rattle.pygrammar.specs.Arguments.{in_order, positional, keywords}
use Rattle.pygrammar.specs.Parameters.{arranged}
use Rattle.pygrammar.specs.Forms as F
use Rattle.pygrammar.specs.Forms.{case_word, item, listed}
use Rattle.pygrammar.specs.Lines.{if_header, elif_header, else_header, loop_header}
use Rattle.pygrammar.specs.Lines.{with_header, try_header, except_header, finally_header, def_header, case_header, while_head}
use Rattle.pygrammar.specs.Lines.{for_head, function_head, class_head}
use Rattle.pyplaces.specs.Stretches.{Stretch}
use Rattle.pyplaces.specs.EntryPlaces as E
use Rattle.pyplaces.specs.FormPlaces.{form_places, plain_header, item_places}
use Rattle.pyplaces.specs.Placed.{Placed, PlacedListing, PlacedTarget, PlacedItemTarget}
use Rattle.pyplaces.specs.PlacedPatterns.{PlacedPattern}
use Rattle.pyplaces.specs.PlacedForms.{Bare, PlacedAfter, PlacedCommas, PlacedEnded, PlacedTypeParams}
use Rattle.pyplaces.specs.PlacedForms.{PlacedItem, PlacedItems, PlacedBases, PlacedHeader, PlacedCase}
use Rattle.pyplaces.proofs.Fronts.{nothing, sign, both, front_of, from, built, ◌⊕◌}

-- ---- The items of a `with`.
pub placed_bare_item : {i r : List Terminal} {at following : ℕ} {e : Expr} {ps : List Stretch} → Placed Expression i at e r following ps
    → PlacedItem i at (item e None) r following ps
placed_bare_item p = built (front_of p) (F.bare_item p.derived) p.places_are

pub placed_item_as : {i r s u : List Terminal} {at m following : ℕ} {e a : Expr} {ps qs : List Stretch} → Placed Expression i at e r m ps
    → r ≡ Word Key.As ∷ s → PlacedItemTarget s (m + 1) a u following qs → PlacedItem i at (item e (Some a)) u following (ps ++ qs)
placed_item_as p h q = built (both (front_of p) (sign h (front_of q))) (F.item_as p.derived q.derived)
    (p.places_are ⊕ from q (omega (arith, p.ends)))

pub placed_in_brackets : {i r s u : List Terminal} {at m : ℕ} {ps : List Stretch} {its : List Item} → i ≡ Op Sign.LPar ∷ r
    → PlacedEnded Item F.ItemOf (λ ts a. item_places) r (at + 1) its s m ps → s ≡ Op Sign.RPar ∷ u → PlacedItems i at its u (m + 1) ps
placed_in_brackets h c k = built (sign h (both (front_of c) (sign k nothing)))
    (F.in_brackets (F.bracketed c.derived)) (from c (omega arith))

pub placed_without : {i r : List Terminal} {at following : ℕ} {ps : List Stretch} {its : List Item}
    → (c : PlacedCommas Item F.ItemOf (λ ts a. item_places) i at its r following ps) → ((others : List Item) → F.Bracketed c.front others → ⊥)
    → PlacedItems i at its r following ps
placed_without c h = built (front_of c) (F.without c.derived h) c.places_are

-- ---- The bases of a class: arguments without a name come before those with one.
pub placed_no_bases : {r : List Terminal} {at : ℕ} → PlacedBases r at [] no_keyword r at []
placed_no_bases = built nothing F.no_bases refl

pub placed_bases : {i r s u : List Terminal} {at m : ℕ} {es : List Entry} {fs : List E.EntryPlaces} → i ≡ Op Sign.LPar ∷ r
    → PlacedListing Argument r (at + 1) es s m fs → in_order false false es ≡ true → s ≡ Op Sign.RPar ∷ u
    → PlacedBases i at (listed (positional es)) (keywords es) u (m + 1) (E.positional fs ++ E.keywords fs)
placed_bases h c q k = built (sign h (both (front_of c) (sign k nothing))) (F.bases c.derived q)
    (ap E.positional (from c (omega arith)) ⊕ ap E.keywords (from c (omega arith)))

-- ---- Headers.
pub placed_if_line : {prof : Profile} {i r s : List Terminal} {at following : ℕ} {e : Expr} {ps : List Stretch} → i ≡ Word Key.If ∷ r
    → Placed Named r (at + 1) e s following ps → PlacedHeader prof i at (if_header e) s following (plain_header ps)
placed_if_line h p = built (sign h (front_of p)) (F.if_line p.derived) (ap plain_header (from p (omega arith)))

pub placed_elif_line : {prof : Profile} {i r s : List Terminal} {at following : ℕ} {e : Expr} {ps : List Stretch} → i ≡ Word Key.Elif ∷ r
    → Placed Named r (at + 1) e s following ps → PlacedHeader prof i at (elif_header e) s following (plain_header ps)
placed_elif_line h p = built (sign h (front_of p)) (F.elif_line p.derived) (ap plain_header (from p (omega arith)))

pub placed_while_line : {prof : Profile} {i r s : List Terminal} {at following : ℕ} {e : Expr} {ps : List Stretch} → i ≡ Word Key.While ∷ r
    → Placed Named r (at + 1) e s following ps → PlacedHeader prof i at (loop_header (while_head e)) s following (plain_header ps)
placed_while_line h p = built (sign h (front_of p)) (F.while_line p.derived) (ap plain_header (from p (omega arith)))

pub placed_else_line : {prof : Profile} {i r : List Terminal} {at : ℕ} → i ≡ Word Key.Else ∷ r
    → PlacedHeader prof i at else_header r (at + 1) (plain_header [])
placed_else_line h = built (sign h nothing) F.else_line refl

pub placed_try_line : {prof : Profile} {i r : List Terminal} {at : ℕ} → i ≡ Word Key.Try ∷ r
    → PlacedHeader prof i at try_header r (at + 1) (plain_header [])
placed_try_line h = built (sign h nothing) F.try_line refl

pub placed_finally_line : {prof : Profile} {i r : List Terminal} {at : ℕ} → i ≡ Word Key.Finally ∷ r
    → PlacedHeader prof i at finally_header r (at + 1) (plain_header [])
placed_finally_line h = built (sign h nothing) F.finally_line refl

pub placed_except_all : {prof : Profile} {i r : List Terminal} {at : ℕ} → i ≡ Word Key.Except ∷ r
    → PlacedHeader prof i at (except_header false None None) r (at + 1) (plain_header [])
placed_except_all h = built (sign h nothing) F.except_all refl

pub placed_for_line : {prof : Profile} {bb : Bool} {i r s u v w : List Terminal} {at m n following : ℕ} {a e : Expr} {ps qs : List Stretch}
    → Bare (λ ts. F.Async ts bb) i at r m → r ≡ Word Key.For ∷ s → PlacedTarget s (m + 1) a u n ps → u ≡ Word Key.In ∷ v
    → Placed Stars v (n + 1) e w following qs → PlacedHeader prof i at (loop_header (for_head bb a e)) w following (plain_header (ps ++ qs))
placed_for_line d h t k p = built (both (front_of d) (sign h (both (front_of t) (sign k (front_of p)))))
    (F.for_line d.derived t.derived p.derived)
    (ap plain_header (from t (omega (arith, d.ends)) ⊕ from p (omega (arith, d.ends, t.ends))))

pub placed_with_line : {prof : Profile} {bb : Bool} {i r s u : List Terminal} {at m following : ℕ} {ps : List Stretch} {its : List Item}
    → Bare (λ ts. F.Async ts bb) i at r m → r ≡ Word Key.With ∷ s → PlacedItems s (m + 1) its u following ps
    → PlacedHeader prof i at (with_header bb its) u following (plain_header ps)
placed_with_line d h c = built (both (front_of d) (sign h (front_of c))) (F.with_line d.derived c.derived)
    (ap plain_header (from c (omega (arith, d.ends))))

pub placed_except_line : {prof : Profile} {i r s u : List Terminal} {at m following : ℕ} {e : Expr} {ps : List Stretch}
    {xo : Option Identifier}
    → i ≡ Word Key.Except ∷ r → Placed Expression r (at + 1) e s m ps → Bare (λ ts. F.As ts xo) s m u following
    → PlacedHeader prof i at (except_header false (Some e) xo) u following (plain_header ps)
placed_except_line h p q = built (sign h (both (front_of p) (front_of q))) (F.except_line p.derived q.derived)
    (ap plain_header (from p (omega arith)))

pub placed_except_star : {prof : Profile} {i r s u v : List Terminal} {at m following : ℕ} {e : Expr} {ps : List Stretch}
    {xo : Option Identifier}
    → i ≡ Word Key.Except ∷ r → r ≡ Op Sign.Star ∷ s → Placed Expression s (at + 1 + 1) e u m ps → Bare (λ ts. F.As ts xo) u m v following
    → PlacedHeader prof i at (except_header true (Some e) xo) v following (plain_header ps)
placed_except_star h k p q = built (sign h (sign k (both (front_of p) (front_of q)))) (F.except_star p.derived q.derived)
    (ap plain_header (from p (omega arith)))

forms : {ps qs vs ws : List Stretch} → ps ≡ qs → vs ≡ ws → form_places ps vs [] ≡ form_places qs ws []
forms {qs = qs} {vs = vs} h k = ap (λ z. form_places z vs []) h ∙ ap (λ z. form_places qs z []) k

-- arguments; after the body returns, and parameters of types
pub placed_def_line : {prof : Profile} {bb : Bool} {x : Spelled} {i r s u v w x1 x2 z1 : List Terminal} {at m n k following : ℕ}
    {es : List Entry} {ag : Arguments} {ps qs : List Stretch} {eo : Option Expr} {tys : List TypeParam} {fs : List E.EntryPlaces}
    → Bare (λ ts. F.Async ts bb) i at r m → r ≡ Word Key.Def ∷ s → s ≡ Ident x ∷ u → PlacedTypeParams prof u (m + 1 + 1) tys v n ps
    → v ≡ Op Sign.LPar ∷ w → PlacedListing (Parameter true) w (n + 1) es x1 k fs → arranged es ≡ Some ag → x1 ≡ Op Sign.RPar ∷ x2
    → PlacedAfter (Op Sign.RArrow) Expression x2 (k + 1) eo z1 following qs
    → PlacedHeader prof i at (def_header (function_head bb x.form tys ag eo)) z1 following (form_places (E.arranged fs) (qs ++ ps) [])
placed_def_line {x = x} d h g c y l q z b =
    built (both (front_of d) (sign h (sign g (both (front_of c) (sign y (both (front_of l) (sign z (front_of b))))))))
    (F.def_line x d.derived c.derived l.derived q b.derived)
    (forms (ap E.arranged (from l (omega (arith, d.ends, c.ends))))
    (from b (omega (arith, d.ends, c.ends, l.ends)) ⊕ from c (omega (arith, d.ends))))

pub placed_class_line : {prof : Profile} {x : Spelled} {i r s u v : List Terminal} {at m following : ℕ} {xs : List Expr} {ps qs : List Stretch}
    {tys : List TypeParam} {ks : Keywords}
    → i ≡ Word Key.Class ∷ r → r ≡ Ident x ∷ s → PlacedTypeParams prof s (at + 1 + 1) tys u m ps → PlacedBases u m xs ks v following qs
    → PlacedHeader prof i at (def_header (class_head x.form tys xs ks)) v following (form_places qs ps [])
placed_class_line h g c b = built (sign h (sign g (both (front_of c) (front_of b)))) (F.class_line c.derived b.derived)
    (forms (from b (omega (arith, c.ends))) (from c (omega arith)))

pub placed_case_line : {i r s u : List Terminal} {at m following : ℕ} {ps qs : List Stretch} {y : Identifier} {pt : Pattern} {eo : Option Expr}
    → i ≡ case_word y ∷ r → PlacedPattern Patterns r (at + 1) pt s m ps → PlacedAfter (Word Key.If) Named s m eo u following qs
    → PlacedCase i at (case_header pt eo) u following (plain_header (ps ++ qs))
placed_case_line {y = y} h p q = built (sign h (both (front_of p) (front_of q))) (F.case_line y p.derived q.derived)
    (ap plain_header (from p (omega arith) ⊕ from q (omega (arith, p.ends))))
