-- Carries: the functions of strings. What is written for an f-string, element after element.
use Rattle.std.proofs.Common.{◌≡◌, ◌∙◌, ℕ, ◌+◌, ◌<◌, ◌≤◌, Result, IfOk, Bool, true, false, List, [], ◌∷◌, ◌++◌, map, length, drop, get_or}
use Rattle.std.proofs.Common.{refl, ap, sym, append_assoc}
use Rattle.std.proofs.lemmas.Result.{IfOk-weaker}
use Rattle.std.proofs.lemmas.List.{drop_all}
use Rattle.pyfstring.specs.declared.parts.Conversion.{Conversion}
use Rattle.pytree_node.specs.declared.expressions.Expr as given
use Rattle.pytree_node.specs.Trees as plain
use Rattle.pytree_node.specs.Trees.{Exprs, an_expr, exprs}
use Rattle.pytree_node.specs.TreeOf.{tree_of}
use Rattle.pygrammar.specs.declared.levels.Level.TheVariants.{Or}
use Rattle.pytree_node.specs.Values.{Str}
use Rattle.pytoken.specs.Terminals.{Literal}
use Rattle.pytoken.proofs.Callers.Bodies.{dropped}
use Rattle.pyunparse_text.specs.Pieces.{Sited, piece, pieces, sited, sited_string}
use Rattle.pyunparse_text.specs.Folds.{Step, Begin, PutText, BeginField, EndExpression, BeginSpec, EndField, puts, puts_elements}
use Rattle.pyunparse_text.specs.Folds.{sited_in_utf8}
use Rattle.pyunparse_text.specs.Written.{Element, Text, End, elements_after, field, first_text, is_unicode, joined, spec_elements, written}
use Rattle.pyunparse_text.proofs.Callers.Writing.{elements_both}
use Rattle.pyunparse.specs.Inner.Values.{value_elements}

-- one value, and those after it
values_both : (b : Bool) (e : plain.Expr) (es : Exprs) →
    elements_after piece b (an_expr e es) ≡ value_elements b e (first_text es) ++ elements_after piece b es
unfolding written
values_both b (plain.FormattedValue e c s) es = sym
    (append_assoc (field piece c (pieces Or e) (spec_elements piece s)) (Text b (first_text es) ∷ []) (elements_after piece b es))
values_both b _ es = refl

module _ {S : Type 0} (after : S → Sited → S) (step : S → Step → S) (is_in_field : Bool) where
  abbrev put_all : S → List (Element Sited) → S
  put_all = puts_elements after step is_in_field

  -- the text that an f-string begins with, and what follows it
  pub string_on : (es : Exprs) (t : List ℕ) (s s1 s2 : S) → s1 ≡ step s (PutText is_in_field false t) →
      s2 ≡ put_all s1 (elements_after piece false es) →
      s2 ≡ put_all s (Text false t ∷ elements_after piece false es)
  string_on es t s s1 s2 e1 e2 = e2 ∙ ap (λ z. put_all z (elements_after piece false es)) e1

  -- a field
  pub field_on : (c : Conversion) (ps : List Sited) (spec : List (Element Sited)) (s s1 s2 s3 s4 : S) → s1 ≡ step s BeginField →
      s2 ≡ puts after s1 ps → s3 ≡ step s2 (EndExpression is_in_field c) →
      s4 ≡ put_all s3 spec → step s4 EndField ≡ put_all s (field piece c ps spec)
  field_on c ps spec s s1 s2 s3 s4 e1 e2 e3 e4 =
      ap (λ z. step z EndField) (e4 ∙ ap (λ z. put_all z spec)
      (e3 ∙ ap (λ z. step z (EndExpression is_in_field c)) (e2 ∙ ap (λ z. puts after z ps) e1)))
      ∙ sym (elements_both after step is_in_field (step (puts after (step s BeginField) ps) (EndExpression is_in_field c)) spec (End ∷ []))

  -- and the text that follows it
  pub text_on : (b : Bool) (c : Conversion) (e : plain.Expr) (spec : plain.OptionalExpr) (t : List ℕ) (s s1 : S) →
      s1 ≡ put_all s (field piece c (pieces Or e) (spec_elements piece spec)) →
      step s1 (PutText is_in_field b t) ≡ put_all s (value_elements b (plain.FormattedValue e c spec) t)
  text_on b c e spec t s s1 e1 =
      ap (λ z. step z (PutText is_in_field b t)) e1
      ∙ sym (elements_both after step is_in_field s (field piece c (pieces Or e) (spec_elements piece spec)) (Text b t ∷ []))

  -- a format spec
  pub spec_on : (es : Exprs) (t : List ℕ) (s s1 s2 s3 : S) → t ≡ first_text es → s1 ≡ step s BeginSpec
      → s2 ≡ step s1 (PutText is_in_field true t) →
      s3 ≡ put_all s2 (elements_after piece true es) →
      s3 ≡ put_all s (spec_elements piece (plain.present (plain.JoinedStr es)))
  unfolding written
  spec_on es t s s1 s2 s3 h e1 e2 e3 =
      e3 ∙ ap (λ z. put_all z (elements_after piece true es)) (e2 ∙ (λ i. step (e1 i) (PutText is_in_field true (h i))))

  -- an f-string ends where it began
  pub string_end : {T E : Type 0} (r : Result T E) (site : S → Bool) (old new s s1 : S) (es : List (Element Sited)) →
      IfOk r (λ _. (s : S) (es : List (Element Sited)) → is_in_field ≡ site s → old ≡ put_all (step s Begin) es →
      new ≡ after s (sited_in_utf8 (sited_string es))) →
      is_in_field ≡ site s → s1 ≡ step s Begin → old ≡ put_all s1 es → IfOk r (λ _. new ≡ puts after s (sited_string es ∷ []))
  string_end r site old new s s1 es ends h e1 e2 = IfOk-weaker r _ _ (λ _ f. f s es h (e2 ∙ ap (λ z. put_all z es) e1)) ends

  -- one value more
  module _ (b : Bool) (base o : S) where
    pub value_on : (xs : List given.Expr) (i : ℕ) (x : given.Expr) (t : List ℕ) (o1 : S) → i < length xs → x ≡ get_or xs i x →
        t ≡ first_text (exprs (map tree_of (drop (i + 1) xs))) →
        put_all o (elements_after piece b (exprs (map tree_of (drop i xs)))) ≡ base → o1 ≡ put_all o (value_elements b (tree_of x) t) →
        put_all o1 (elements_after piece b (exprs (map tree_of (drop (i + 1) xs)))) ≡ base
    value_on xs i x t o1 lt read h so_far e1 =
        let rest : Exprs = exprs (map tree_of (drop (i + 1) xs)) in
        ap (λ z. put_all z (elements_after piece b rest)) (e1 ∙ ap (λ z. put_all o (value_elements b (tree_of x) z)) h)
        ∙ sym (elements_both after step is_in_field o (value_elements b (tree_of x) (first_text rest)) (elements_after piece b rest))
        ∙ ap (put_all o) (sym (ap (λ z. elements_after piece b (exprs (map tree_of z))) (dropped xs i x lt read)
        ∙ values_both b (tree_of x) rest))
        ∙ so_far

    pub values_done : (xs : List given.Expr) (i : ℕ) → length xs ≤ i
        → put_all o (elements_after piece b (exprs (map tree_of (drop i xs)))) ≡ base →
        o ≡ base
    unfolding written
    values_done xs i h so_far = sym (ap (λ z. put_all o (elements_after piece b (exprs (map tree_of z)))) (drop_all i xs h)) ∙ so_far

-- an f-string, and the literal in front of it
module _ {S : Type 0} (after : S → Sited → S) (s : S) (es : Exprs) (u : Bool) (t : List ℕ) (kind : u ≡ is_unicode es)
    (begins : t ≡ first_text es) where
  abbrev following : List (Element Sited)
  following = elements_after piece false es

  abbrev whole : Bool → List ℕ → S
  whole k text = puts after s (joined piece k text following)

  pub unmarked : u ≡ false → puts after s (sited_string (Text false t ∷ following) ∷ []) ≡ whole (is_unicode es) (first_text es)
  unmarked e = λ i. whole ((sym e ∙ kind) i) (begins i)

  pub marked : (s1 : S) → u ≡ true → s1 ≡ after s (sited_in_utf8 (sited (Literal (Str t true)) false false)) →
      puts after s1 (sited_string (Text false [] ∷ following) ∷ []) ≡ whole (is_unicode es) (first_text es)
  marked s1 e e1 = ap (λ z. puts after z (sited_string (Text false [] ∷ following) ∷ [])) e1 ∙ (λ i. whole ((sym e ∙ kind) i) (begins i))
