-- Carries: the laws of the slots. On: f-strings of what is given are given.
use Rattle.std.proofs.Common.{◌≡◌, refl, sym, ap, subst, ◌∙◌, inl, inr, ℕ, zero, suc, arith, List, [], ◌∷◌, ◌++◌, Bool, true, false}
use Rattle.std.proofs.Common.{◌&&◌, append-nil}
use Rattle.std.specs.Prelude.{leb, not, ◌||◌}
use Rattle.std.proofs.lemmas.Bool.{and_parts, and_from, or_cases, leb-true}
use Rattle.pylex_lexeme.specs.declared.kinds.Exact.TheVariants.{LPar, RPar}
use Rattle.pyfstring.specs.declared.parts.Conversion.{Conversion}
use Rattle.pytree_node.specs.Trees
use Rattle.pytree_node.specs.Trees.{Expr, Exprs, no_exprs, an_expr, OptionalExpr}
use Rattle.pytree_node.specs.Values
use Rattle.pytoken.specs.Terminals.{Terminal, Op, Literal, FormattedBegin, FormattedEnd, FormattedText, FieldBegin, SpecBegin, FieldEnd}
use Rattle.pygrammar.specs.declared.levels.Level.TheVariants.{Named, Expression, Atom}
use Rattle.pygrammar.specs.Forms.{is_whole}
use Rattle.pygrammar.specs.FormattedStrings.{StringPart, Text, Field, with_text, merged, values_of, spec_values_of, begins_unicode}
use Rattle.pygrammar.specs.FormattedStrings.{has_formatted}
use Rattle.pygrammar.specs.Grammar as G
use Rattle.pygrammar.proofs.Callers.OpenStrings.{one_less}
use Rattle.pytree_fits.specs.Literals.{has_text, has_formatted_text}
use Rattle.pytree_fits.specs.Slots.{is_kind, is_last, have_kind, may_be_joined}
use Rattle.pytree_fits.proofs.Fields.Standing.{Standing, here, in_string}
use Rattle.pytree_fits.proofs.Fields.AsSpelled.{Ends, GivenAsSpelled, pass_on, pass_past, pass_after, pass_in_front}
use Rattle.pytree_fits.proofs.Fields.Tests.{parts3}
use Rattle.pytree_fits.proofs.Giving.Places as P

-- ---- The values of an f-string or of a format spec.

abbrev made_of : (in_spec : Bool) → Bool → List StringPart → Exprs
made_of true u ps = spec_values_of u ps
made_of false u ps = values_of u ps

-- parts that are given, no two texts of which stand side by side, after a text or not
pub record Formed (n : Standing) (u s b : Bool) (es : Exprs) : Type 0 where
  pub parts : List StringPart
  pub given : GivenAsSpelled n (G.Formatted u) parts
  pub merged_are : merged parts ≡ parts
  pub apart : b ≡ true → (c : ℕ) (cs : List ℕ) → with_text (c ∷ cs) parts ≡ Text (c ∷ cs) ∷ parts
  pub values_are : made_of s u parts ≡ es

kind_is : (u k : Bool) → is_kind u k ≡ true → k ≡ u
kind_is true k h = h
kind_is false true h = absurd (cc)
kind_is false false h = refl

none_of : (s u : Bool) → made_of s u [] ≡ no_exprs
none_of true u = refl
none_of false u = refl

field_of : (s u : Bool) (e : Expr) (ps : List StringPart) → made_of s u (Field e ∷ ps) ≡ an_expr e (made_of s u ps)
field_of true u e ps = refl
field_of false u e ps = refl

some_left : (u : Bool) (p : StringPart) (ps : List StringPart) → is_last (spec_values_of u (p ∷ ps)) ≡ false
some_left u (Text t) [] = refl
some_left u (Text t) (p ∷ ps) = refl
some_left u (Field e) ps = refl

last_kind : (u : Bool) → (u && not (true && true)) ≡ false
last_kind true = refl
last_kind false = refl

own_kind : (u b : Bool) → b ≡ false → (u && not b) ≡ u
own_kind true b h = rw h refl
own_kind false b h = refl

text_of : (s u k : Bool) (t : List ℕ) (ps : List StringPart) → is_kind (u && not (s && is_last (made_of s u ps))) k ≡ true →
    made_of s u (Text t ∷ ps) ≡ an_expr (Trees.Constant (Values.Str t k)) (made_of s u ps)
text_of false u k t ps h = ap (λ z. an_expr (Trees.Constant (Values.Str t z)) (values_of u ps))
    (sym (kind_is (u && not false) k h ∙ own_kind u false refl))
text_of true u k t [] h = ap (λ z. an_expr (Trees.Constant (Values.Str t z)) no_exprs)
    (sym (kind_is (u && not (true && true)) k h ∙ last_kind u))
text_of true u k t (p ∷ ps) h =
    ap (λ z. an_expr (Trees.Constant (Values.Str t z)) (spec_values_of u (p ∷ ps)))
    (sym (kind_is (u && not (true && is_last (spec_values_of u (p ∷ ps)))) k h
    ∙ own_kind u (true && is_last (spec_values_of u (p ∷ ps))) (some_left u p ps)))

module _ (n : Standing) (u s : Bool) where
  pub none_formed : (b : Bool) → Formed n u s b no_exprs
  none_formed b = record { parts = []; given = ([], refl, G.no_part); merged_are = refl; apart = λ h c cs. refl; values_are = none_of s u }

module _ (n : Standing) (d : ℕ) (u s : Bool) where
  pub text_formed : (c : ℕ) (cs : List ℕ) (k : Bool) (es : Exprs) → has_formatted_text (here n).fields d (c ∷ cs) ≡ true
      → is_kind (u && not (s && is_last es)) k ≡ true →
      Formed (in_string n d) u s true es → Formed (in_string n d) u s false (an_expr (Trees.Constant (Values.Str (c ∷ cs) k)) es)
  text_formed c cs k es h q f =
      let w = f.given in
      record {
        parts = Text (c ∷ cs) ∷ f.parts;
        given = (FormattedText (c ∷ cs) ∷ w.0, pass_in_front (in_string n d) (FormattedText (c ∷ cs)) w.0 h refl w.1, G.text_part w.2);
        merged_are = ap (with_text (c ∷ cs)) f.merged_are ∙ f.apart refl c cs;
        apart = λ r c cs. absurd (never r);
        values_are = text_of s u k (c ∷ cs) f.parts (subst (λ z. is_kind (u && not (s && is_last z)) k ≡ true) (sym f.values_are) q)
            ∙ ap (an_expr (Trees.Constant (Values.Str (c ∷ cs) k))) f.values_are;
      }
    where
      never : ◌≡◌ {A = Bool} false true → ⊥
      never h = absurd (cc)

  pub field_formed : (b : Bool) (v : Expr) (c : Conversion) (a : OptionalExpr) (es : Exprs) → leb d 1 ≡ true
      → P.At (in_string n (suc d)) Expression v →
      GivenAsSpelled (in_string n (suc d)) (G.Spec u) a → Formed (in_string n d) u s false es
      → Formed (in_string n d) u s b (an_expr (Trees.FormattedValue v c a) es)
  field_formed b v c a es h p q f =
      let m : Standing = in_string n (suc d) in
      let w = f.given in
      let ts : List Terminal = p.0 ++ (Op RPar ∷ []) in
      let rest : Ends m (d ∷ n.opened) (FieldEnd ∷ w.0) = pass_after m FieldEnd (d ∷ n.opened) (d ∷ n.opened) w.0 refl
      (ap (λ k. k ∷ n.opened) (one_less d)) w.1 in
      record {
        parts = Field (Trees.FormattedValue v c a) ∷ f.parts;
        given = (
          FieldBegin c ∷ (Op LPar ∷ (ts ++ (q.0 ++ (FieldEnd ∷ w.0)))),
          pass_after (in_string n d) (FieldBegin c) (suc d ∷ n.opened) (d ∷ n.opened) (Op LPar ∷ (ts ++ (q.0 ++ (FieldEnd ∷ w.0)))) h refl
              (pass_past m (d ∷ n.opened) (Op LPar ∷ ts) (q.0 ++ (FieldEnd ∷ w.0)) (pass_on m p.0 (Op RPar ∷ []) p.1 refl)
              (pass_past m (d ∷ n.opened) q.0 (FieldEnd ∷ w.0) q.1 rest)),
          G.field_part (G.group (G.next {l = Named} p.2)) q.2 w.2,
        );
        merged_are = ap (λ z. Field (Trees.FormattedValue v c a) ∷ z) f.merged_are;
        apart = λ h c cs. refl;
        values_are = field_of s u (Trees.FormattedValue v c a) f.parts ∙ ap (an_expr (Trees.FormattedValue v c a)) f.values_are;
      }

pub spec_given : (n : Standing) (d : ℕ) (u : Bool) (es : Exprs) → Formed (in_string n d) u true false es
    → GivenAsSpelled (in_string n d) (G.Spec u) (Trees.present (Trees.JoinedStr es))
spec_given n d u es f =
    let w = f.given in
    subst (λ z. GivenAsSpelled (in_string n d) (G.Spec u) (Trees.present (Trees.JoinedStr z)))
    (ap (spec_values_of u) f.merged_are ∙ f.values_are)
    (SpecBegin ∷ w.0, w.1, G.spec w.2)

-- ---- A JoinedStr.

-- literals that are given, with an f-string among them, and the values of their parts
pub record Joined (n : Standing) (es : Exprs) : Type 0 where
  pub unicode : Bool
  pub parts : List StringPart
  pub given : GivenAsSpelled n (G.Literals unicode) parts
  pub begins : begins_unicode given.0 ≡ unicode
  pub formatted : has_formatted given.0 ≡ true
  pub values_are : values_of unicode (merged parts) ≡ es

no_text : (f : ℕ) → leb f 1 ≡ true → has_text f [] ≡ true
no_text zero h = refl
no_text (suc zero) h = refl
no_text (suc (suc f)) h = absurd (omega (arith, leb-true (suc (suc f)) 1 h))

module _ (n : Standing) (es : Exprs) (stands : (is_whole (here n).extent && leb (here n).fields 1) ≡ true) where
  -- one f-string
  alone : (u : Bool) (f : Formed (in_string n 0) u false false es) → GivenAsSpelled n (G.Literals u) (f.parts ++ [])
  alone u f =
      let w = f.given in (
        FormattedBegin ∷ (w.0 ++ (FormattedEnd ∷ [])),
        pass_after n FormattedBegin (0 ∷ n.opened) n.opened (w.0 ++ (FormattedEnd ∷ [])) stands refl
            (pass_past (in_string n 0) n.opened w.0 (FormattedEnd ∷ []) w.1 refl),
        G.formatted_literal w.2 G.no_literal,
      )

  are : (u : Bool) (f : Formed (in_string n 0) u false false es) → values_of u (merged (f.parts ++ [])) ≡ es
  are u f = ap (λ z. values_of u (merged z)) (append-nil f.parts) ∙ ap (values_of u) f.merged_are ∙ f.values_are

  pub plain_joined : Formed (in_string n 0) false false false es → Joined n es
  unfolding alone
  plain_joined f = record {
    unicode = false;
    parts = f.parts ++ [];
    given = alone false f;
    begins = refl;
    formatted = refl;
    values_are = are false f;
  }

  -- after an empty text of its kind
  pub unicode_joined : Formed (in_string n 0) true false false es → Joined n es
  unfolding alone
  unicode_joined f =
      let w = alone true f in
      record {
        unicode = true;
        parts = Text [] ∷ (f.parts ++ []);
        given = (
          Literal (Values.Str [] true) ∷ w.0,
          pass_in_front n (Literal (Values.Str [] true)) w.0
              (no_text (here n).fields (and_parts (is_whole (here n).extent) (leb (here n).fields 1) stands).1) refl w.1,
          G.text_literal w.2,
        );
        begins = refl;
        formatted = refl;
        values_are = are true f;
      }

-- of a JoinedStr that fits, where its values are formed for each kind that they have
pub strings_given : (n : Standing) (es : Exprs) → may_be_joined (here n) es ≡ true
    → ((u : Bool) → have_kind u false es ≡ true → Formed (in_string n 0) u false false es) → Joined n es
strings_given n es h f =
    let w = parts3 (is_whole (here n).extent) (leb (here n).fields 1) (have_kind false false es || have_kind true false es) h in
    let stands = and_from (is_whole (here n).extent) (leb (here n).fields 1) w.0 w.1 in
    elim (or_cases (have_kind false false es) (have_kind true false es) w.2) [
      | inl k ↦ plain_joined n es stands (f false k)
      | inr k ↦ unicode_joined n es stands (f true k)
    ]

pub joined_atom : (n : Standing) (es : Exprs) → Joined n es → P.At n Atom (Trees.JoinedStr es)
joined_atom n es j =
    let w = j.given in
    subst (λ z. P.At n Atom (Trees.JoinedStr z)) j.values_are (w.0, w.1, G.joined_string w.2 j.begins j.formatted)
