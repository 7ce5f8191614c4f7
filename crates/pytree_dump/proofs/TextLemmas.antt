-- The text of nodes and lists, as it is appended.
--
-- Carries: all nodes and lists that are shown.
use Rattle.std.proofs.Common.{◌≡◌, ℕ, zero, suc, ◌+◌, ◌<◌, ◌++◌, List, [], ◌∷◌, Bool, true, codes, refl, ap, sym, ◌∙◌, ◌||◌, length}
use Rattle.std.proofs.Common.{take, drop, get_or, replicate, Option, Some, None, arith}
use Rattle.std.proofs.lemmas.List.{append_assoc, take_all, take_at}
use Rattle.pytree_dump_text.specs.declared.styles.Style.{Style}
use Rattle.pytree_dump_text.specs.Shows.{Fields}
use Rattle.pytree_dump_text.specs.Layout.{fields, deeper, is_flat, is_short}
use Rattle.pytree_dump_text.specs.Slots.{node_text}

-- the indentation of a line, one level deeper and then as it was
pub left : (indent : Option ℕ) (f0 f1 f2 : List ℕ) (n : ℕ) → n ≡ length f0 → f1 ≡ deeper indent f0 → f2 ≡ take n f1 → f2 ≡ f0
left None f0 f1 f2 n long deep cut = cut ∙ ap (take n) deep ∙ ap (λ m. take m f0) long ∙ take_all (length f0) f0 (omega arith)
left (Some k) f0 f1 f2 n long deep cut =
    cut ∙ ap (take n) deep ∙ ap (λ m. take m (f0 ++ replicate k 32)) long ∙ take_at f0 (replicate k 32) (length f0) refl

pub may_close : (indent : Option ℕ) (f0 f1 : List ℕ) (n : ℕ) → n ≡ length f0 → f1 ≡ deeper indent f0 → f1 ≡ deeper indent (take n f1)
may_close indent f0 f1 n long deep = deep ∙ ap (deeper indent) (sym (left indent f0 f1 (take n f1) n long deep refl))

-- a node, of what begins it, its fields and its closing bracket
pub node_shown : (s : Style) (f inner start : List ℕ) (fs : Fields) (o0 o1 o2 o3 : List ℕ) (line : Bool) →
    inner ≡ deeper s.indent f → line ≡ (is_flat s.indent || is_short fs) →
    o1 ≡ o0 ++ start → o2 ≡ o1 ++ fields s inner line s.names true fs → o3 ≡ o2 ++ codes ")" →
    o3 ≡ o0 ++ node_text s f start fs
node_shown s f inner start fs o0 o1 o2 o3 line ei el e1 e2 e3 =
    let whole : o3 ≡ o0 ++ start ++ fields s (deeper s.indent f) (is_flat s.indent || is_short fs) s.names true fs ++ codes ")" =
    e3 ∙ ap (λ z. z ++ codes ")") (e2 ∙ (λ i. e1 i ++ fields s (ei i) (el i) s.names true fs)) in
    whole ∙ simp append_assoc refl

-- a list from a member on is that member and the others
dropped_one : {A : Type 0} (xs : List A) (i : ℕ) (x : A) → i < length xs → x ≡ get_or xs i x → drop i xs ≡ x ∷ drop (suc i) xs
dropped_one [] i x lt read = absurd (omega (arith, lt))
dropped_one (y ∷ ys) zero x lt read = ap (λ z. z ∷ ys) (sym read)
dropped_one (y ∷ ys) (suc i) x lt read = dropped_one ys i x (omega (arith, lt)) read

pub dropped : {A : Type 0} (xs : List A) (i : ℕ) (x : A) → i < length xs → x ≡ get_or xs i x → drop i xs ≡ x ∷ drop (i + 1) xs
dropped xs i x lt read =
    let next : suc i ≡ i + 1 = omega arith in
    dropped_one xs i x lt read ∙ ap (λ n. x ∷ drop n xs) next
