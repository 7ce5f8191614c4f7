-- F-strings: the values of a JoinedStr are written in parts that give them back.
--
-- Carries: joined_claim and the claims of its parts, for Induction. On: Counted, Claims, Sizes, Reach, Less.
use Rattle.std.proofs.Common.{◌≡◌, refl, sym, ap, subst, ◌∙◌, ℕ, suc, ◌≤◌, arith, List, [], ◌∷◌, ◌++◌, Bool, true, false, append_assoc}
use Rattle.std.proofs.Common.{append-nil}
use Rattle.std.proofs.lemmas.Grind.{flat_map-append}
use Rattle.std.proofs.lemmas.Bool.{or_parts}
use Rattle.pyfstring.specs.declared.parts.Conversion.{Conversion}
use Rattle.pylex_lexeme.specs.declared.kinds.Exact.TheVariants.{LPar, RPar}
use Rattle.pygrammar.specs.declared.levels.Level.{Level}
use Rattle.pygrammar.specs.declared.levels.Level.TheVariants.{Named, Or, Atom}
use Rattle.pytree_node.specs.Values
use Rattle.pytree_node.specs.Trees
use Rattle.pytree_node.specs.Trees.{Expr, Exprs, an_expr, OptionalExpr, absent, present}
use Rattle.pytoken.specs.Terminals.{Terminal, Op, Literal, FormattedBegin, FormattedEnd, FormattedText, FieldBegin, SpecBegin, FieldEnd}
use Rattle.pygrammar.specs.FormattedStrings as Parts
use Rattle.pygrammar.specs.FormattedStrings.{StringPart, with_text, merged, values_of, spec_values_of, begins_unicode, has_formatted}
use Rattle.pygrammar.specs.Grammar as G
use Rattle.pyunparse_text.specs.Levels.{leads, reaches}
use Rattle.pyunparse_text.specs.Written.{Element, is_unicode, is_unicode_spec, first_text, field, joined, written, elements_after}
use Rattle.pyunparse_text.specs.Written.{spec_elements}
use Rattle.pyunparse_text.specs.Written as W
use Rattle.pyunparse_text.specs.Terminals.{terminal, element_terminals}
use Rattle.pyunparse_text.proofs.Fewest.Counted.{one, Counted, AtLeast, counted_none, counted_token, counted_string, Silent, silent}
use Rattle.pyunparse_text.proofs.Fewest.Counted.{silent_none}
use Rattle.pyunparse_text.proofs.Fewest.Counted.{silent_token, silent_field}
use Rattle.pyunparse_text.proofs.Fewest.Sizes.{inner}
use Rattle.pyunparse_text.proofs.Fewest.Reach.{climb}
use Rattle.pyunparse_text.proofs.Fewest.Less.{allowed, allowed_all}
use Rattle.pyunparse_text.proofs.Fewest.Claims.{Ready, Claim, atom}

-- ---- Parts as they are joined: no text is empty, none stands beside another.

abbrev begins_text : List StringPart → Bool
begins_text (Parts.Text t ∷ ps) = true
begins_text _ = false

data Neat : List StringPart → Type 0 where
  neat_none : Neat []
  neat_field : {e : Expr} {ps : List StringPart} → Neat ps → Neat (Parts.Field e ∷ ps)
  neat_text : {c : ℕ} {cs : List ℕ} {ps : List StringPart} → Neat ps → begins_text ps ≡ false → Neat (Parts.Text (c ∷ cs) ∷ ps)

with_text_neat : (t : List ℕ) {ps : List StringPart} → Neat ps → Neat (with_text t ps)
with_text_neat [] n = n
with_text_neat (c ∷ cs) neat_none = neat_text neat_none refl
with_text_neat (c ∷ cs) (neat_field n) = neat_text (neat_field n) refl
with_text_neat (c ∷ cs) (neat_text n h) = neat_text n h

merged_neat : (ps : List StringPart) → Neat (merged ps)
merged_neat [] = neat_none
merged_neat (Parts.Text t ∷ ps) = with_text_neat t (merged_neat ps)
merged_neat (Parts.Field e ∷ ps) = neat_field (merged_neat ps)

alone_text : (c : ℕ) (cs : List ℕ) (ps : List StringPart) → begins_text ps ≡ false → with_text (c ∷ cs) ps ≡ Parts.Text (c ∷ cs) ∷ ps
alone_text c cs [] h = refl
alone_text c cs (Parts.Text t ∷ ps) h = absurd (cc)
alone_text c cs (Parts.Field e ∷ ps) h = refl

neat_merged : {ps : List StringPart} → Neat ps → merged ps ≡ ps
neat_merged neat_none = refl
neat_merged (neat_field {e = e} n) = ap (λ z. Parts.Field e ∷ z) (neat_merged n)
neat_merged (neat_text {c = c} {cs = cs} {ps = ps} n h) = ap (with_text (c ∷ cs)) (neat_merged n) ∙ alone_text c cs ps h

merged_twice : (ps : List StringPart) → merged (merged ps) ≡ merged ps
merged_twice ps = neat_merged (merged_neat ps)

-- ---- Parts whose fields can be written, where format specs are those of a kind.

mutual
  pub data Stands (u : Bool) : List StringPart → Type 0 where
    no_part : Stands u []
    text : {t : List ℕ} {ps : List StringPart} → Stands u ps → Stands u (Parts.Text t ∷ ps)
    field_of : {e : Expr} {c : Conversion} {s : OptionalExpr} {ps : List StringPart} → Ready e → allowed Or e ≡ true
        → SpecStands u s → Stands u ps
        → Stands u (Parts.Field (Trees.FormattedValue e c s) ∷ ps)

  pub data SpecStands (u : Bool) : OptionalExpr → Type 0 where
    no_spec : SpecStands u absent
    spec : {ps : List StringPart} → Stands u ps → merged ps ≡ ps → SpecStands u (present (Trees.JoinedStr (spec_values_of u ps)))

with_text_stands : {u : Bool} (t : List ℕ) {ps : List StringPart} → Stands u ps → Stands u (with_text t ps)
with_text_stands [] s = s
with_text_stands (c ∷ cs) no_part = text no_part
with_text_stands (c ∷ cs) (text s) = text s
with_text_stands (c ∷ cs) (field_of r a q s) = text (field_of r a q s)

merged_stands : {u : Bool} {ps : List StringPart} → Stands u ps → Stands u (merged ps)
merged_stands no_part = no_part
merged_stands (text {t = t} s) = with_text_stands t (merged_stands s)
merged_stands (field_of r a q s) = field_of r a q (merged_stands s)

both_stand : {u : Bool} {ps qs : List StringPart} → Stands u ps → Stands u qs → Stands u (ps ++ qs)
both_stand no_part r = r
both_stand (text s) r = text (both_stand s r)
both_stand (field_of p a q s) r = field_of p a q (both_stand s r)

-- they are written in parts that give them
named_or : reaches Named Or ≡ true
unfolding reaches leads
named_or = refl

inner_parts : (es fs : List (Element Terminal)) → inner ((es ++ (W.End ∷ [])) ++ fs) ≡ inner es ++ (FieldEnd ∷ inner fs)
inner_parts es fs =
    ap inner (append_assoc es (W.End ∷ []) fs) ∙ flat_map-append element_terminals es (W.End ∷ fs)

field_given : {u : Bool} {s : OptionalExpr} {ps : List StringPart} (e : Expr) (c : Conversion) (es fs : List (Element Terminal)) → Ready e
    → allowed Or e ≡ true
    → G.Spec u (inner es) s → G.Formatted u (inner fs) ps
    → G.Formatted u (inner (field terminal c (written terminal Or e) es ++ fs)) (Parts.Field (Trees.FormattedValue e c s) ∷ ps)
field_given {u} {s} {ps} e c es fs r a p q =
    subst
    (λ z. G.Formatted u (FieldBegin c ∷ (Op LPar ∷ ((written terminal Or e ++ (Op RPar ∷ [])) ++ z)))
    (Parts.Field (Trees.FormattedValue e c s) ∷ ps))
    (sym (inner_parts es fs))
    (G.field_part (G.group (climb Named Or named_or (r.all Or a))) p q)

-- What follows a text in what they are written in, as the parts that it gives: after the text they are these again.
record Following (u : Bool) (t : List ℕ) (es : List (Element Terminal)) (ps : List StringPart) : Type 0 where
  parts : List StringPart
  given : G.Formatted u (inner es) parts
  merges : with_text t (merged parts) ≡ ps

field_after : {u : Bool} {s : OptionalExpr} {ps : List StringPart} (b : Bool) (t : List ℕ) (e : Expr) (c : Conversion)
    (ss es : List (Element Terminal))
    → Ready e → allowed Or e ≡ true
    → G.Spec u (inner ss) s → Following u t es ps
    → Following u [] (field terminal c (written terminal Or e) ss ++ (W.Text b t ∷ es)) (Parts.Field (Trees.FormattedValue e c s) ∷ ps)
field_after {s = s} b t e c ss es r a q f = record {
  parts = Parts.Field (Trees.FormattedValue e c s) ∷ (Parts.Text t ∷ f.parts);
  given = field_given e c ss (W.Text b t ∷ es) r a q (G.text_part f.given);
  merges = ap (λ z. Parts.Field (Trees.FormattedValue e c s) ∷ z) f.merges;
}

text_following : {u : Bool} {es : List (Element Terminal)} {ps : List StringPart} (c : ℕ) (cs t : List ℕ) → begins_text ps ≡ false → t ≡ []
    → Following u t es ps → Following u (c ∷ cs) es (Parts.Text (c ∷ cs) ∷ ps)
text_following {ps = ps} c cs t h none f = record {
  parts = f.parts;
  given = f.given;
  merges = ap (with_text (c ∷ cs)) (ap (λ z. with_text z (merged f.parts)) (sym none) ∙ f.merges) ∙ alone_text c cs ps h;
}

no_first_text : {u : Bool} {ps : List StringPart} (k : Bool) → Stands u ps → begins_text ps ≡ false → first_text (values_of k ps) ≡ []
no_first_text k no_part h = refl
no_first_text k (text s) h = absurd (cc)
no_first_text k (field_of r a q s) h = refl

mutual
  unfolding written elements_after spec_elements

  parts_after : {u : Bool} {ps : List StringPart} (b k : Bool) → Stands u ps → Neat ps
      → Following u (first_text (values_of k ps)) (elements_after terminal b (values_of k ps)) ps
  parts_after b k no_part n = record { parts = []; given = G.no_part; merges = refl }
  parts_after b k (text {ps = ps} s) (neat_text {c = c} {cs = cs} n h) =
      text_following c cs (first_text (values_of k ps)) h (no_first_text k s h) (parts_after b k s n)
  parts_after b k (field_of {e = e} {c = c} {s = t} {ps = ps} r a q s) (neat_field n) =
      field_after b (first_text (values_of k ps)) e c (spec_elements terminal t)
      (elements_after terminal b (values_of k ps)) r a (spec_given q)
      (parts_after b k s n)

  spec_parts_after : {u : Bool} {ps : List StringPart} (k : Bool) → Stands u ps → Neat ps
      → Following u (first_text (spec_values_of k ps)) (elements_after terminal true (spec_values_of k ps)) ps
  spec_parts_after k no_part n = record { parts = []; given = G.no_part; merges = refl }
  spec_parts_after k (text no_part) (neat_text {c = c} {cs = cs} n h) = text_following c cs [] h refl (spec_parts_after k no_part n)
  spec_parts_after k (text (text s)) (neat_text n h) = absurd (cc)
  spec_parts_after k (text (field_of r a q s)) (neat_text {c = c} {cs = cs} n h) =
      text_following c cs [] h refl (spec_parts_after k (field_of r a q s) n)
  spec_parts_after k (field_of {e = e} {c = c} {s = t} {ps = ps} r a q s) (neat_field n) =
      field_after true (first_text (spec_values_of k ps)) e c (spec_elements terminal t)
      (elements_after terminal true (spec_values_of k ps)) r a
      (spec_given q) (spec_parts_after k s n)

  spec_given : {u : Bool} {s : OptionalExpr} → SpecStands u s → G.Spec u (inner (spec_elements terminal s)) s
  spec_given no_spec = G.no_spec
  spec_given {u} (spec {ps = ps} s m) =
      let f : Following u (first_text (spec_values_of u ps)) (elements_after terminal true (spec_values_of u ps)) ps =
      spec_parts_after u s (subst Neat m (merged_neat ps)) in
      let ts : List Terminal = inner (spec_elements terminal (present (Trees.JoinedStr (spec_values_of u ps)))) in
      subst (λ z. G.Spec u ts (present (Trees.JoinedStr (spec_values_of u z)))) f.merges
      (G.spec (G.text_part f.given))

all_after : {u : Bool} {ps : List StringPart} (k : Bool) → Stands u ps → merged ps ≡ ps
    → Following u (first_text (values_of k ps)) (elements_after terminal false (values_of k ps)) ps
all_after {ps = ps} k s m = parts_after false k s (subst Neat m (merged_neat ps))

-- ---- Kinds.

-- no text of the kind u is there where the kind is none
mutual
  no_kind : {ps : List StringPart} → Stands false ps → is_unicode (values_of false ps) ≡ false
  no_kind no_part = refl
  no_kind (text s) = no_kind s
  no_kind (field_of {ps = ps} r a q s) = rw (no_kind_spec q) (no_kind s)

  no_kind_in_spec : {ps : List StringPart} → Stands false ps → is_unicode (spec_values_of false ps) ≡ false
  no_kind_in_spec no_part = refl
  no_kind_in_spec (text no_part) = refl
  no_kind_in_spec (text (text s)) = no_kind_in_spec (text s)
  no_kind_in_spec (text (field_of {c = c} r a q s)) = no_kind_in_spec (field_of {c = c} r a q s)
  no_kind_in_spec (field_of r a q s) = rw (no_kind_spec q) (no_kind_in_spec s)

  no_kind_spec : {s : OptionalExpr} → SpecStands false s → is_unicode_spec s ≡ false
  no_kind_spec no_spec = refl
  no_kind_spec (spec s m) = no_kind_in_spec s

-- where none is there, the kind doesn't matter
record Kindless (values : Bool → Exprs) (ps : List StringPart) : Type 0 where
  stands : Stands false ps
  same : values true ≡ values false

mutual
  kindless : {ps : List StringPart} → Stands true ps → is_unicode (values_of true ps) ≡ false → Kindless (λ k. values_of k ps) ps
  kindless no_part h = record { stands = no_part; same = refl }
  kindless (text s) h = absurd (cc)
  kindless (field_of {e = e} {c = c} {s = t} {ps = ps} r a q s) h =
      let k : Kindless (λ k. values_of k ps) ps = kindless s (or_parts (is_unicode_spec t) (is_unicode (values_of true ps)) h).1 in
      record {
        stands = field_of r a (kindless_spec q (or_parts (is_unicode_spec t) (is_unicode (values_of true ps)) h).0) k.stands;
        same = ap (an_expr (Trees.FormattedValue e c t)) k.same;
      }

  kindless_in_spec : {ps : List StringPart} → Stands true ps → is_unicode (spec_values_of true ps) ≡ false
      → Kindless (λ k. spec_values_of k ps) ps
  kindless_in_spec no_part h = record { stands = no_part; same = refl }
  kindless_in_spec (text no_part) h = record { stands = text no_part; same = refl }
  kindless_in_spec (text (text s)) h = absurd (cc)
  kindless_in_spec (text (field_of r a q s)) h = absurd (cc)
  kindless_in_spec (field_of {e = e} {c = c} {s = t} {ps = ps} r a q s) h =
      let k : Kindless (λ k. spec_values_of k ps) ps =
      kindless_in_spec s (or_parts (is_unicode_spec t) (is_unicode (spec_values_of true ps)) h).1 in
      record {
        stands = field_of r a (kindless_spec q (or_parts (is_unicode_spec t) (is_unicode (spec_values_of true ps)) h).0) k.stands;
        same = ap (an_expr (Trees.FormattedValue e c t)) k.same;
      }

  kindless_spec : {s : OptionalExpr} → SpecStands true s → is_unicode_spec s ≡ false → SpecStands false s
  kindless_spec no_spec h = no_spec
  kindless_spec (spec {ps = ps} s m) h =
      let k = kindless_in_spec s h in
      subst (λ z. SpecStands false (present (Trees.JoinedStr z))) (sym k.same) (spec k.stands m)

-- ---- What the induction says of the parts.

pub record FormattedClaim (u : Bool) (ts : List Terminal) (ps : List StringPart) : Type 0 where
  pub stands : Stands u ps
  pub silent : Silent ts

pub record SpecClaim (u : Bool) (ts : List Terminal) (s : OptionalExpr) : Type 0 where
  pub stands : SpecStands u s
  pub silent : Silent ts

pub record LiteralsClaim (u : Bool) (ts : List Terminal) (ps : List StringPart) : Type 0 where
  pub stands : Stands u ps
  pub count : ℕ
  pub counted : Counted count ts
  pub some : has_formatted ts ≡ true → 1 ≤ count
  pub two : begins_unicode ts ≡ true → has_formatted ts ≡ true → 2 ≤ count

pub no_part_claim : (u : Bool) → FormattedClaim u [] []
no_part_claim u = record { stands = no_part; silent = silent_none }

pub text_part_claim : {u : Bool} {ts : List Terminal} {ps : List StringPart} (t : List ℕ) → FormattedClaim u ts ps
    → FormattedClaim u (FormattedText t ∷ ts) (Parts.Text t ∷ ps)
text_part_claim t c = record { stands = text c.stands; silent = silent_token refl c.silent }

pub field_part_claim : {u : Bool} {c : Conversion} {ts us vs : List Terminal} {e : Expr} {s : OptionalExpr} {ps : List StringPart}
    → Claim Atom (Op LPar ∷ ts) e → SpecClaim u us s → FormattedClaim u vs ps
    → FormattedClaim u (FieldBegin c ∷ (Op LPar ∷ (ts ++ (us ++ (FieldEnd ∷ vs))))) (Parts.Field (Trees.FormattedValue e c s) ∷ ps)
field_part_claim {c = c} {ts = ts} {e = e} p q r = record {
  stands = field_of p.ready (allowed_all Atom Or e refl p.place) q.stands r.stands;
  silent = silent_field {c = c} {ts = Op LPar ∷ ts} (silent p.short.counted) q.silent r.silent;
}

pub no_spec_claim : (u : Bool) → SpecClaim u [] absent
no_spec_claim u = record { stands = no_spec; silent = silent_none }

pub spec_claim : {u : Bool} {ts : List Terminal} {ps : List StringPart} → FormattedClaim u ts ps
    → SpecClaim u (SpecBegin ∷ ts) (present (Trees.JoinedStr (spec_values_of u (merged ps))))
spec_claim {ps = ps} c = record { stands = spec (merged_stands c.stands) (merged_twice ps); silent = silent_token refl c.silent }

pub no_literal_claim : (u : Bool) → LiteralsClaim u [] []
no_literal_claim u = record { stands = no_part; count = 0; counted = counted_none; some = λ h. absurd (cc); two = λ b h. absurd (cc) }

pub text_literal_claim : {u : Bool} {ts : List Terminal} {ps : List StringPart} (t : List ℕ) (k : Bool) → LiteralsClaim u ts ps
    → LiteralsClaim u (Literal (Values.Str t k) ∷ ts) (Parts.Text t ∷ ps)
text_literal_claim t k c =
    record {
      stands = text c.stands;
      count = suc c.count;
      counted = counted_token refl c.counted;
      some = λ h. omega arith;
      two = λ b h. omega (arith, c.some h);
    }

pub formatted_literal_claim : {u : Bool} {ts us : List Terminal} {ps qs : List StringPart} → FormattedClaim u ts ps → LiteralsClaim u us qs
    → LiteralsClaim u (FormattedBegin ∷ (ts ++ (FormattedEnd ∷ us))) (ps ++ qs)
formatted_literal_claim c d =
    record {
      stands = both_stand c.stands d.stands;
      count = suc d.count;
      counted = counted_string c.silent d.counted;
      some = λ h. omega arith;
      two = λ b h. absurd (cc);
    }

-- ---- The whole.

-- literals side by side, of which one is an f-string, that give values
pub record Joins (ts : List Terminal) (es : Exprs) : Type 0 where
  pub kind : Bool
  pub parts : List StringPart
  pub literals : G.Literals kind ts parts
  pub begins : begins_unicode ts ≡ kind
  pub formatted : has_formatted ts ≡ true
  pub values : values_of kind (merged parts) ≡ es

abbrev text_at : Bool → Exprs → List Terminal
text_at k es = joined terminal k (first_text es) (elements_after terminal false es)

-- with a literal in front of the f-string
kind_given : {ps : List StringPart} → Stands true ps → merged ps ≡ ps → Joins (text_at true (values_of true ps)) (values_of true ps)
kind_given {ps} s m =
    let f : Following true (first_text (values_of true ps)) (elements_after terminal false (values_of true ps)) ps =
    all_after true s m in record {
      kind = true;
      parts = Parts.Text (first_text (values_of true ps)) ∷ (Parts.Text [] ∷ f.parts ++ []);
      literals = G.text_literal (G.formatted_literal (G.text_part f.given) G.no_literal);
      begins = refl;
      formatted = refl;
      values = ap (values_of true) (ap (λ z. with_text (first_text (values_of true ps)) (merged z)) (append-nil f.parts) ∙ f.merges);
    }

-- without one
plain_given : {ps : List StringPart} (k : Bool) → Stands false ps → merged ps ≡ ps
    → Joins (text_at false (values_of k ps)) (values_of false ps)
plain_given {ps} k s m =
    let f : Following false (first_text (values_of k ps)) (elements_after terminal false (values_of k ps)) ps = all_after k s m in record {
      kind = false;
      parts = Parts.Text (first_text (values_of k ps)) ∷ (f.parts ++ []);
      literals = G.formatted_literal (G.text_part f.given) G.no_literal;
      begins = refl;
      formatted = refl;
      values = ap (values_of false) (ap (λ z. with_text (first_text (values_of k ps)) (merged z)) (append-nil f.parts) ∙ f.merges);
    }

joined_given : (u k : Bool) {ps : List StringPart} → Stands u ps → merged ps ≡ ps → is_unicode (values_of u ps) ≡ k
    → Joins (text_at k (values_of u ps)) (values_of u ps)
joined_given true true s m h = kind_given s m
joined_given false true s m h = let n = no_kind s in absurd (cc)
joined_given false false s m h = plain_given false s m
joined_given true false {ps} s m h =
    let k = kindless s h in
    subst (λ z. Joins (text_at false (values_of true ps)) z) (sym k.same) (plain_given true k.stands m)

enough : {u : Bool} {ts : List Terminal} {ps : List StringPart} (k : Bool) (es : Exprs) → LiteralsClaim u ts ps
    → (k ≡ true → begins_unicode ts ≡ true) → has_formatted ts ≡ true
    → AtLeast (joined one k (first_text es) (elements_after one false es)) ts
enough true es c b h = record { count = c.count; counted = c.counted; enough = omega (arith, c.two (b refl) h) }
enough false es c b h = record { count = c.count; counted = c.counted; enough = omega (arith, c.some h) }

module _ {u : Bool} {ts : List Terminal} {ps : List StringPart} (c : LiteralsClaim u ts ps) (b : begins_unicode ts ≡ u)
    (h : has_formatted ts ≡ true) where
  kind_is : (v : Bool) → Stands v (merged ps) → is_unicode (values_of v (merged ps)) ≡ true → v ≡ true
  kind_is true s k = refl
  kind_is false s k = let n = no_kind s in absurd (cc)

  -- as it is written
  pub joined_again : (l : Level) → Joins (written terminal l (Trees.JoinedStr (values_of u (merged ps)))) (values_of u (merged ps))
  unfolding written
  joined_again l = joined_given u (is_unicode (values_of u (merged ps))) (merged_stands c.stands) (merged_twice ps) refl

  pub joined_short : (l : Level) → AtLeast (written one l (Trees.JoinedStr (values_of u (merged ps)))) ts
  unfolding written
  joined_short l = enough (is_unicode (values_of u (merged ps))) (values_of u (merged ps)) c (λ k. b
      ∙ kind_is u (merged_stands c.stands) k) h

  joined_derived : {us : List Terminal} {es : Exprs} → Joins us es → G.Derives Atom us (Trees.JoinedStr es)
  joined_derived {us} {es} j = subst (λ z. G.Derives Atom us (Trees.JoinedStr z)) j.values (G.joined_string j.literals j.begins j.formatted)

  pub joined_claim : Claim Atom ts (Trees.JoinedStr (values_of u (merged ps)))
  unfolding written
  joined_claim = atom _ _ _ (λ m. refl) refl tt (joined_derived (joined_again Atom)) (joined_short Atom)
