-- Carries: the loops. One item more is written, or there is none left.
use Rattle.std.proofs.Common.{◌≡◌, ◌∙◌, ℕ, zero, suc, ◌+◌, ◌-◌, ◌<◌, ◌≤◌, max, min, Bool, true, false, ◌&&◌, if◌then◌else◌, List, [], ◌∷◌}
use Rattle.std.proofs.Common.{◌++◌, map, length, length-drop, drop, take, get_or, refl, ap, sym, arith, append-nil, append_assoc}
use Rattle.std.proofs.lemmas.List.{drop_all}
use Rattle.pytree_node.specs.declared.expressions.Expr as given
use Rattle.pytree_node.specs.declared.operators.Comparison.{Comparison}
use Rattle.pygrammar.specs.declared.levels.Level.{Level}
use Rattle.pytree_node.specs.Trees.{exprs}
use Rattle.pytree_node.specs.TreeOf.{tree_of}
use Rattle.pytoken.proofs.Callers.Bodies.{dropped}
use Rattle.pyunparse_text.specs.Levels.{comparison_signs}
use Rattle.pyunparse_text.specs.Pieces.{Sited, piece, pieces}
use Rattle.pyunparse_text.specs.Written.{compared, each, free, separated, written}
use Rattle.pyunparse_text.specs.Folds.{puts, sited_in_utf8}
use Rattle.pyunparse.specs.Inner.Members.{each_after, members}
use Rattle.pyunparse.proofs.Sequences.FoldLemmas.{puts_append}

abbrev pub is_nil : {A : Type 0} → List A → Bool
is_nil [] = true
is_nil (x ∷ xs) = false

-- a member and those after it
pub separated_on : {A : Type 0} (t : A) (ts : List A) (tss : List (List A)) → separated t (ts ∷ tss) ≡ ts ++ each_after t tss
separated_on t ts [] = sym (append-nil ts)
separated_on t ts (us ∷ uss) = ap (λ z. ts ++ (t ∷ z)) (separated_on t us uss)

pub members_on : {S : Type 0} (after : S → Sited → S) (s : S) (f : Bool) (t : Sited) (ts : List Sited) (tss : List (List Sited)) →
    puts after s (members f t (ts ∷ tss)) ≡ puts after (puts after (puts after s (if f then [] else t ∷ [])) ts) (members false t tss)
members_on after s true t ts tss = ap (puts after s) (separated_on t ts tss) ∙ puts_append after s ts (each_after t tss)
members_on after s false t ts tss = puts_append after (after s (sited_in_utf8 t)) ts (each_after t tss)

-- members of two lists
each_after_both : {A : Type 0} (t : A) (xss yss : List (List A)) → each_after t (xss ++ yss) ≡ each_after t xss ++ each_after t yss
each_after_both t [] yss = refl
each_after_both t (ts ∷ xss) yss = ap (λ z. t ∷ (ts ++ z)) (each_after_both t xss yss)
    ∙ ap (λ z. t ∷ z) (sym (append_assoc ts (each_after t xss) (each_after t yss)))

pub members_both : {A : Type 0} (f : Bool) (t : A) (xss yss : List (List A))
    → members f t (xss ++ yss) ≡ members f t xss ++ members (f && is_nil xss) t yss
members_both true t [] yss = refl
members_both false t [] yss = refl
members_both true t (ts ∷ xss) yss =
    separated_on t ts (xss ++ yss) ∙ ap (λ z. ts ++ z) (each_after_both t xss yss)
    ∙ sym (append_assoc ts (each_after t xss) (each_after t yss))
    ∙ ap (λ z. z ++ each_after t yss) (sym (separated_on t ts xss))
members_both false t (ts ∷ xss) yss = each_after_both t (ts ∷ xss) yss

pub members_none : {A : Type 0} (f : Bool) (t : A) → members f t [] ≡ []
members_none true t = refl
members_none false t = refl

-- one of two lists is at its end
pub ended : {X Y Z : Type 0} (F : List X → List Y → List Z) → ((ys : List Y) → F [] ys ≡ []) → ((xs : List X) → F xs [] ≡ []) →
    (xs : List X) (ys : List Y) (i : ℕ) → min (length xs) (length ys) ≤ i → F (drop i xs) (drop i ys) ≡ []
ended F no_x no_y [] ys zero h = no_x ys
ended F no_x no_y (x ∷ xs) [] zero h = no_y (x ∷ xs)
ended F no_x no_y (x ∷ xs) (y ∷ ys) zero h = absurd (omega (arith, h))
ended F no_x no_y [] ys (suc i) h = no_x (drop (suc i) ys)
ended F no_x no_y (x ∷ xs) [] (suc i) h = no_y (drop i xs)
ended F no_x no_y (x ∷ xs) (y ∷ ys) (suc i) h = ended F no_x no_y xs ys i (omega (arith, h))

-- an item is no higher than the highest of its list
pub no_higher : {A : Type 0} (H : List A → ℕ) (h : A → ℕ) → ((x : A) (xs : List A) → H (x ∷ xs) ≡ max (h x) (H xs)) →
    (xs : List A) (i : ℕ) (x : A) → i < length xs → x ≡ get_or xs i x → h x ≤ H xs
no_higher H h e [] i x lt read = absurd (omega (arith, lt))
no_higher H h e (y ∷ ys) zero x lt read = let k : h x ≡ h y = ap h read in let m = e y ys in omega (arith, k, m)
no_higher H h e (y ∷ ys) (suc i) x lt read =
    let l : i < length ys = omega (arith, lt) in
    let k : h x ≤ H ys = no_higher H h e ys i x l read in let m = e y ys in omega (arith, k, m)

module _ {S X : Type 0} (after : S → Sited → S) (base o : S) where
  -- a list whose items are members, with a token between each two
  module _ (f : Bool) (t : Sited) (F : List X → List (List Sited)) where
    pub item_on : (g : X → List Sited) → ((x : X) (xs : List X) → F (x ∷ xs) ≡ g x ∷ F xs) → (xs : List X) (i : ℕ) (x : X) (o1 o2 : S) →
        i < length xs → x ≡ get_or xs i x → puts after o (members f t (F (drop i xs))) ≡ base →
        o1 ≡ puts after o (if f then [] else t ∷ []) → o2 ≡ puts after o1 (g x) →
        puts after o2 (members false t (F (drop (i + 1) xs))) ≡ base
    item_on g cons xs i x o1 o2 lt read so_far e1 e2 =
        let rest : List (List Sited) = F (drop (i + 1) xs) in
        ap (λ z. puts after z (members false t rest)) (e2 ∙ ap (λ z. puts after z (g x)) e1)
        ∙ sym (members_on after o f t (g x) rest)
        ∙ ap (λ z. puts after o (members f t z)) (sym (ap F (dropped xs i x lt read) ∙ cons x (drop (i + 1) xs)))
        ∙ so_far

    pub all_items : F [] ≡ [] → (xs : List X) (i : ℕ) → length xs ≤ i → puts after o (members f t (F (drop i xs))) ≡ base → o ≡ base
    all_items nil xs i h so_far =
        sym (ap (λ z. puts after o (members f t z)) (ap F (drop_all i xs h) ∙ nil) ∙ ap (puts after o) (members_none f t)) ∙ so_far

  -- a list whose items stand one after another
  module _ (F : List X → List Sited) where
    pub part_on : (g : X → List Sited) → ((x : X) (xs : List X) → F (x ∷ xs) ≡ g x ++ F xs) → (xs : List X) (i : ℕ) (x : X) (o1 : S) →
        i < length xs → x ≡ get_or xs i x → puts after o (F (drop i xs)) ≡ base → o1 ≡ puts after o (g x) →
        puts after o1 (F (drop (i + 1) xs)) ≡ base
    part_on g cons xs i x o1 lt read so_far e1 =
        let rest : List Sited = F (drop (i + 1) xs) in
        ap (λ z. puts after z rest) e1
        ∙ sym (puts_append after o (g x) rest)
        ∙ ap (puts after o) (sym (ap F (dropped xs i x lt read) ∙ cons x (drop (i + 1) xs)))
        ∙ so_far

    pub all_parts : F [] ≡ [] → (xs : List X) (i : ℕ) → length xs ≤ i → puts after o (F (drop i xs)) ≡ base → o ≡ base
    all_parts nil xs i h so_far = sym (ap (puts after o) (ap F (drop_all i xs h) ∙ nil)) ∙ so_far

-- the same of two lists at once
module _ {S X Y : Type 0} (after : S → Sited → S) (base o : S) where
  module _ (f : Bool) (t : Sited) (F : List X → List Y → List (List Sited)) where
    pub both_on : (g : X → Y → List Sited) → ((x : X) (y : Y) (xs : List X) (ys : List Y) → F (x ∷ xs) (y ∷ ys) ≡ g x y ∷ F xs ys) →
        (xs : List X) (ys : List Y) (i : ℕ) (x : X) (y : Y) (o1 o2 : S) →
        i < length xs → x ≡ get_or xs i x → i < length ys → y ≡ get_or ys i y
        → puts after o (members f t (F (drop i xs) (drop i ys))) ≡ base →
        o1 ≡ puts after o (if f then [] else t ∷ []) → o2 ≡ puts after o1 (g x y) →
        puts after o2 (members false t (F (drop (i + 1) xs) (drop (i + 1) ys))) ≡ base
    both_on g cons xs ys i x y o1 o2 lx rx ly ry so_far e1 e2 =
        let rest : List (List Sited) = F (drop (i + 1) xs) (drop (i + 1) ys) in
        ap (λ z. puts after z (members false t rest)) (e2 ∙ ap (λ z. puts after z (g x y)) e1)
        ∙ sym (members_on after o f t (g x y) rest)
        ∙ ap (λ z. puts after o (members f t z)) (sym ((λ k. F (dropped xs i x lx rx k) (dropped ys i y ly ry k))
        ∙ cons x y (drop (i + 1) xs) (drop (i + 1) ys)))
        ∙ so_far

    pub both_done : ((ys : List Y) → F [] ys ≡ []) → ((xs : List X) → F xs [] ≡ []) → (xs : List X) (ys : List Y) (i : ℕ)
        → min (length xs) (length ys) ≤ i →
        puts after o (members f t (F (drop i xs) (drop i ys))) ≡ base → o ≡ base
    both_done no_x no_y xs ys i h so_far = sym (ap (λ z. puts after o (members f t z)) (ended F no_x no_y xs ys i h)
        ∙ ap (puts after o) (members_none f t)) ∙ so_far

-- one comparison more
pub compared_on : {S : Type 0} (after : S → Sited → S) (base o : S) (l : Level) (os : List Comparison) (es : List given.Expr) (i : ℕ)
    (c : Comparison) (e : given.Expr) (o1 o2 : S) →
    i < length os → c ≡ get_or os i c → i < length es → e ≡ get_or es i e →
    puts after o (compared piece (drop i os) (each piece l (exprs (map tree_of (drop i es))))) ≡ base →
    o1 ≡ puts after o (map (free piece) (comparison_signs c)) → o2 ≡ puts after o1 (pieces l (tree_of e)) →
    puts after o2 (compared piece (drop (i + 1) os) (each piece l (exprs (map tree_of (drop (i + 1) es))))) ≡ base
unfolding written
compared_on after base o l os es i c e o1 o2 lo ro le re so_far e1 e2 =
    let rest : List Sited = compared piece (drop (i + 1) os) (each piece l (exprs (map tree_of (drop (i + 1) es)))) in
    ap (λ z. puts after z rest) (e2 ∙ ap (λ z. puts after z (pieces l (tree_of e))) e1)
    ∙ sym (puts_append after (puts after o (map (free piece) (comparison_signs c))) (pieces l (tree_of e)) rest)
    ∙ sym (puts_append after o (map (free piece) (comparison_signs c)) (pieces l (tree_of e) ++ rest))
    ∙ (λ k. puts after o
    (compared piece (sym (dropped os i c lo ro) k) (each piece l (exprs (map tree_of (sym (dropped es i e le re) k))))))
    ∙ so_far

no_more : (os : List Comparison) → compared piece os [] ≡ []
no_more [] = refl
no_more (o ∷ os) = refl

pub compared_done : {S : Type 0} (after : S → Sited → S) (base o : S) (l : Level) (os : List Comparison) (es : List given.Expr) (i : ℕ)
    → min (length os) (length es) ≤ i →
    puts after o (compared piece (drop i os) (each piece l (exprs (map tree_of (drop i es))))) ≡ base → o ≡ base
unfolding written
compared_done after base o l os es i h so_far =
    sym (ap (puts after o) (ended (λ xs ys. compared piece xs (each piece l (exprs (map tree_of ys)))) (λ _. refl) no_more os es i h))
    ∙ so_far

take_all : {A : Type 0} (xs : List A) (m : ℕ) → m ≡ length xs → take m xs ≡ xs
take_all [] zero e = refl
take_all [] (suc m) e = refl
take_all (x ∷ xs) zero e = absurd (omega (arith, e))
take_all (x ∷ xs) (suc m) e = ap (λ z. x ∷ z) (take_all xs m (omega (arith, e)))

-- the rest of a list as a slice
pub take_rest : {A : Type 0} (n : ℕ) (xs : List A) → take (length xs - n) (drop n xs) ≡ drop n xs
take_rest n xs = take_all (drop n xs) (length xs - n) (sym (length-drop n xs))

-- nor is the rest of a list higher than the list
module _ {A : Type 0} (H : List A → ℕ) (h : A → ℕ) (e : (x : A) (xs : List A) → H (x ∷ xs) ≡ max (h x) (H xs)) where
  left_no_higher : (n : ℕ) (xs : List A) → H (drop n xs) ≤ H xs
  left_no_higher zero xs = omega arith
  left_no_higher (suc n) [] = omega arith
  left_no_higher (suc n) (x ∷ xs) = let k : H (drop n xs) ≤ H xs = left_no_higher n xs in let m = e x xs in omega (arith, k, m)

  pub rest_no_higher : (n : ℕ) (xs : List A) → H (take (length xs - n) (drop n xs)) ≤ H xs
  rest_no_higher n xs = let k : H (drop n xs) ≤ H xs = left_no_higher n xs in rw (take_rest n xs) k
