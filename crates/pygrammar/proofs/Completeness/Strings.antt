-- Runs of literals and f-strings, and the parts of an f-string.
--
-- Carries: string_run_all, strings_step, joined_goes, literals_reads and what each kind of part reads, for
-- Atoms, Complete, ReadValues. On: LookLemmas, Climb.
use Rattle.std.proofs.Common.{map, ◌≡◌, refl, sym, ap, ◌∙◌, ℕ, zero, suc, ◌≤◌, arith, List, [], ◌∷◌, ◌++◌, length, Option, Some, None, Bool}
use Rattle.std.proofs.Common.{append_assoc, length-append, option_map}
use Rattle.std.proofs.lemmas.List.{append-nil}
use Rattle.std.specs.Prelude.{max}
use Rattle.pylex_lexeme.specs.declared.kinds.Exact.TheVariants.{LPar}
use Rattle.pyfstring.specs.declared.parts.Conversion.{Conversion}
use Rattle.pygrammar.specs.declared.levels.Level.TheVariants.{Atom}
use Rattle.pytree_node.specs.Trees
use Rattle.pytree_node.specs.Trees.{Expr, OptionalExpr, absent, present}
use Rattle.pytree_node.specs.Values
use Rattle.pytoken.specs.Terminals.{Terminal, Op, Literal, FormattedBegin, FormattedEnd, FormattedText, FieldBegin, SpecBegin, FieldEnd}
use Rattle.pygrammar.specs.Looks.{text_in, conversion_in, is_formatted_begin}
use Rattle.pygrammar.specs.Constants.{joined}
use Rattle.pygrammar.specs.FormattedStrings.{StringPart, Text, Field, merged, values_of, spec_values_of, kind_of, texts_of}
use Rattle.pygrammar.specs.Reader.{Answer, Found, NoForm, and_then, on_some, on_first, made, constant_of, string_run, spec_with, field_with}
use Rattle.pygrammar.specs.Reader.{parts_loop, formatted_step, literals_loop, joined_step, literals, read, Reads}
use Rattle.pygrammar.proofs.Completeness.LookLemmas.{grip_of, miss_literal, miss_formatted}
use Rattle.pygrammar.proofs.Completeness.Climb.{ReadsAs}

-- ---- Literals alone.

string_run_end : (acc : List Values.Value) (r : List Terminal) → grip_of r ≤ 24 → string_run acc r ≡ Found acc r
string_run_end acc [] h = refl
string_run_end acc (Literal v ∷ r) h = absurd (omega (arith, h))
string_run_end acc (_ ∷ r) h = refl

pub string_run_all : (vs acc : List Values.Value) (r : List Terminal) → grip_of r ≤ 24
    → string_run acc (map Literal vs ++ r) ≡ Found (acc ++ vs) r
string_run_all [] acc r h = string_run_end acc r h ∙ ap (λ z. Found z r) (sym (append-nil acc))
string_run_all (v ∷ vs) acc r h = string_run_all vs (acc ++ (v ∷ [])) r h ∙ ap (λ z. Found z r) (append_assoc acc (v ∷ []) vs)

run_step : (self : Reads) (v w : Values.Value) (vs : List Values.Value) (i r : List Terminal) → string_run [] i ≡ Found vs r
    → grip_of r ≤ 24 → joined v vs ≡ Some w → literals self v i ≡ Found (Trees.Constant w) r
run_step self v w vs i r h g k = rw h (miss_formatted r _ _ g ∙ ap (λ o. made (constant_of o) r) k)

pub strings_step : (self : Reads) (v w : Values.Value) (vs : List Values.Value) (r : List Terminal) → grip_of r ≤ 24 → joined v vs ≡ Some w
    → literals self v (map Literal vs ++ r) ≡ Found (Trees.Constant w) r
strings_step self v w vs r g k = run_step self v w vs (map Literal vs ++ r) r (string_run_all vs [] r g) g k

-- ---- The parts of an f-string.

-- what ends them
abbrev Ends : Terminal → Type 0
Ends t = (text_in t ≡ None) × (conversion_in t ≡ None)

-- with a number that is at least the number of terminals the parts are read, up to what ends them
abbrev pub FormattedReads : Bool → List Terminal → List StringPart → Type 0
FormattedReads u ts ps = (n : ℕ) × ((d : ℕ) → n ≤ d → (acc : List StringPart) (t : Terminal) (rest : List Terminal) → Ends t → (m : ℕ)
    → length (ts ++ (t ∷ rest)) ≤ m → parts_loop (read (suc d)) u m acc (ts ++ (t ∷ rest)) ≡ Found (acc ++ ps) (t ∷ rest))

abbrev pub SpecReads : Bool → List Terminal → OptionalExpr → Type 0
SpecReads u us s = (n : ℕ) × ((d : ℕ) → n ≤ d → (rest : List Terminal) (m : ℕ) → length (us ++ (FieldEnd ∷ rest)) ≤ m
    → spec_with (λ r. parts_loop (read (suc d)) u m [] r) u (us ++ (FieldEnd ∷ rest)) ≡ Found s (FieldEnd ∷ rest)) × ((rest : List Terminal)
    → grip_of (us ++ (FieldEnd ∷ rest)) ≤ 24)

module _ (self : Reads) (u : Bool) where
  parts_end : (m : ℕ) (acc : List StringPart) (t : Terminal) (r : List Terminal) → Ends t
      → parts_loop self u m acc (t ∷ r) ≡ Found acc (t ∷ r)
  parts_end zero acc t r e = refl
  parts_end (suc m) acc t r e = rw (e.0, e.1) refl

  field_step : (parts : List Terminal → Answer (List StringPart)) (c : Conversion) (i r rest : List Terminal) (e : Expr) (s : OptionalExpr)
      → self Atom (Op LPar ∷ i) ≡ Found e r → spec_with parts u r ≡ Found s (FieldEnd ∷ rest)
      → field_with self parts u c (Op LPar ∷ i) ≡ Found (Trees.FormattedValue e c s) rest
  field_step parts c i r rest e s h k = rw h (rw k refl)

  parts_field : (m : ℕ) (acc : List StringPart) (c : Conversion) (i r : List Terminal) (f : Expr)
      → field_with self (λ z. parts_loop self u m [] z) u c i ≡ Found f r → parts_loop self u (suc m) acc (FieldBegin c ∷ i) ≡ parts_loop
      self u m (acc ++ (Field f ∷ [])) r
  parts_field m acc c i r f h = rw h refl

  spec_step : (parts : List Terminal → Answer (List StringPart)) (i r : List Terminal) (ps : List StringPart) → parts i ≡ Found ps r
      → spec_with parts u (SpecBegin ∷ i) ≡ Found (present (Trees.JoinedStr (spec_values_of u (merged ps)))) r
  spec_step parts i r ps h = rw h refl

pub no_part_goes : (u : Bool) → FormattedReads u [] []
no_part_goes u = (
  0,
  λ d h acc t rest e m w. parts_end (read (suc d)) u m acc t rest e
      ∙ ap (λ z. Found z (t ∷ rest)) (sym (append-nil acc)),
)

pub text_part_goes : (u : Bool) (x : List ℕ) (ts : List Terminal) (ps : List StringPart) → FormattedReads u ts ps
    → FormattedReads u (FormattedText x ∷ ts) (Text x ∷ ps)
text_part_goes u x ts ps k = (k.0, λ d h acc t rest e m w. go d h acc t rest e m w)
  where
    go : (d : ℕ) → k.0 ≤ d → (acc : List StringPart) (t : Terminal) (rest : List Terminal) → Ends t → (m : ℕ)
        → suc (length (ts ++ (t ∷ rest))) ≤ m → parts_loop (read (suc d)) u m acc (FormattedText x ∷ (ts ++ (t ∷ rest))) ≡ Found
        (acc ++ (Text x ∷ ps)) (t ∷ rest)
    go d h acc t rest e zero w = absurd (omega (arith, w))
    go d h acc t rest e (suc m) w = k.1 d h (acc ++ (Text x ∷ [])) t rest e m (omega (arith, w))
        ∙ ap (λ z. Found z (t ∷ rest)) (append_assoc acc (Text x ∷ []) ps)

field_shape : (ks us vs rest : List Terminal) → (ks ++ (us ++ (FieldEnd ∷ vs))) ++ rest ≡ ks ++ (us ++ (FieldEnd ∷ (vs ++ rest)))
field_shape ks us vs rest = simp append_assoc refl

field_length : (ks us i : List Terminal) → length i ≤ length (ks ++ (us ++ (FieldEnd ∷ i)))
field_length ks us i = omega (arith, length-append ks (us ++ (FieldEnd ∷ i)), length-append us (FieldEnd ∷ i))

spec_length : (ks us i : List Terminal) → length (us ++ (FieldEnd ∷ i)) ≤ length (ks ++ (us ++ (FieldEnd ∷ i)))
spec_length ks us i = omega (arith, length-append ks (us ++ (FieldEnd ∷ i)))

pub field_part_goes : (u : Bool) (c : Conversion) (ks us vs : List Terminal) (e : Expr) (s : OptionalExpr) (ps : List StringPart)
    → ReadsAs Atom (Op LPar ∷ ks) e → SpecReads u us s → FormattedReads u vs ps
    → FormattedReads u (FieldBegin c ∷ (Op LPar ∷ (ks ++ (us ++ (FieldEnd ∷ vs))))) (Field (Trees.FormattedValue e c s) ∷ ps)
field_part_goes u c ks us vs e s ps p q k = (
  max p.0 (max q.0 k.0),
  λ d h acc t rest g m w. ap (λ z. parts_loop (read (suc d)) u m acc (FieldBegin c ∷ (Op LPar ∷ z)))
      (field_shape ks us vs (t ∷ rest)) ∙ go d h acc t rest g m (omega (arith, w, ap length (field_shape ks us vs (t ∷ rest)))),
)
  where
    go : (d : ℕ) → max p.0 (max q.0 k.0) ≤ d → (acc : List StringPart) (t : Terminal) (rest : List Terminal) → Ends t → (m : ℕ)
        → suc (suc (length (ks ++ (us ++ (FieldEnd ∷ (vs ++ (t ∷ rest))))))) ≤ m
        → parts_loop (read (suc d)) u m acc (FieldBegin c ∷ (Op LPar ∷ (ks ++ (us ++ (FieldEnd ∷ (vs ++ (t ∷ rest))))))) ≡ Found
        (acc ++ (Field (Trees.FormattedValue e c s) ∷ ps)) (t ∷ rest)
    go d h acc t rest g zero w = absurd (omega (arith, w))
    go d h acc t rest g (suc m) w =
        let r = vs ++ (t ∷ rest) in
        let f = field_step (read (suc d)) u (λ z. parts_loop (read (suc d)) u m [] z) c (ks ++ (us ++ (FieldEnd ∷ r)))
        (us ++ (FieldEnd ∷ r)) r e s (p.1 d (omega (arith, h)) (us ++ (FieldEnd ∷ r)) (q.2 r))
        (q.1 d (omega (arith, h)) r m (omega (arith, w, spec_length ks us r))) in
        parts_field (read (suc d)) u m acc c (Op LPar ∷ (ks ++ (us ++ (FieldEnd ∷ r)))) r (Trees.FormattedValue e c s) f
        ∙ (k.1 d (omega (arith, h)) (acc ++ (Field (Trees.FormattedValue e c s) ∷ [])) t rest g m
        (omega (arith, w, field_length ks us r))
        ∙ ap (λ z. Found z (t ∷ rest)) (append_assoc acc (Field (Trees.FormattedValue e c s) ∷ []) ps))

pub no_spec_goes : (u : Bool) → SpecReads u [] absent
no_spec_goes u = (0, (λ d h rest m w. refl), λ rest. omega arith)

pub spec_goes : (u : Bool) (ts : List Terminal) (ps : List StringPart) → FormattedReads u ts ps
    → SpecReads u (SpecBegin ∷ ts) (present (Trees.JoinedStr (spec_values_of u (merged ps))))
spec_goes u ts ps k = (
  k.0,
  (λ d h rest m w. spec_step (read (suc d)) u (λ r. parts_loop (read (suc d)) u m [] r) (ts ++ (FieldEnd ∷ rest)) (FieldEnd ∷ rest)
      ps (k.1 d h [] FieldEnd rest (refl, refl) m (omega (arith, w)))),
  λ rest. omega arith,
)

-- ---- Literals and f-strings.

abbrev pub LiteralsRead : Bool → List Terminal → List StringPart → Type 0
LiteralsRead u ts ps = (n : ℕ) × ((d : ℕ) → n ≤ d → (acc : List StringPart) (rest : List Terminal) → grip_of rest ≤ 24 → (m : ℕ)
    → length (ts ++ rest) ≤ m → literals_loop (read (suc d)) u m acc (ts ++ rest) ≡ Found (acc ++ ps) rest)

literals_end : (self : Reads) (u : Bool) (m : ℕ) (acc : List StringPart) (r : List Terminal) → grip_of r ≤ 24
    → literals_loop self u m acc r ≡ Found acc r
literals_end self u zero acc r g = refl
literals_end self u (suc m) acc r g = miss_literal r _ _ g ∙ miss_formatted r _ _ g

pub no_literal_goes : (u : Bool) → LiteralsRead u [] []
no_literal_goes u = (0, λ d h acc rest g m w. literals_end (read (suc d)) u m acc rest g ∙ ap (λ z. Found z rest) (sym (append-nil acc)))

pub text_literal_goes : (u k : Bool) (x : List ℕ) (ts : List Terminal) (ps : List StringPart) → LiteralsRead u ts ps
    → LiteralsRead u (Literal (Values.Str x k) ∷ ts) (Text x ∷ ps)
text_literal_goes u k x ts ps l = (l.0, λ d h acc rest g m w. go d h acc rest g m w)
  where
    go : (d : ℕ) → l.0 ≤ d → (acc : List StringPart) (rest : List Terminal) → grip_of rest ≤ 24 → (m : ℕ) → suc (length (ts ++ rest)) ≤ m
        → literals_loop (read (suc d)) u m acc (Literal (Values.Str x k) ∷ (ts ++ rest)) ≡ Found (acc ++ (Text x ∷ ps)) rest
    go d h acc rest g zero w = absurd (omega (arith, w))
    go d h acc rest g (suc m) w = l.1 d h (acc ++ (Text x ∷ [])) rest g m (omega (arith, w))
        ∙ ap (λ z. Found z rest) (append_assoc acc (Text x ∷ []) ps)

-- one f-string, after its beginning
formatted_whole : (self : Reads) (u : Bool) (acc ps : List StringPart) (i r : List Terminal)
    → parts_loop self u (length i) acc i ≡ Found ps (FormattedEnd ∷ r) → formatted_step self u acc i ≡ Found ps r
formatted_whole self u acc ps i r h = rw h refl

formatted_reads : (u : Bool) (ks : List Terminal) (xs : List StringPart) (k : FormattedReads u ks xs) (d : ℕ) → k.0 ≤ d
    → (acc : List StringPart) (r : List Terminal) → formatted_step (read (suc d)) u acc (ks ++ (FormattedEnd ∷ r)) ≡ Found (acc ++ xs) r
formatted_reads u ks xs k d h acc r = formatted_whole (read (suc d)) u acc (acc ++ xs) (ks ++ (FormattedEnd ∷ r)) r
    (k.1 d h acc FormattedEnd r (refl, refl) (length (ks ++ (FormattedEnd ∷ r))) (omega arith))

literals_formatted : (self : Reads) (u : Bool) (m : ℕ) (acc ps : List StringPart) (i r : List Terminal)
    → formatted_step self u acc i ≡ Found ps r → literals_loop self u (suc m) acc (FormattedBegin ∷ i) ≡ literals_loop self u m ps r
literals_formatted self u m acc ps i r h = rw h refl

pub joined_shape : (ks bs rest : List Terminal) → (FormattedBegin ∷ (ks ++ (FormattedEnd ∷ bs))) ++ rest ≡ FormattedBegin ∷
    (ks ++ (FormattedEnd ∷ (bs ++ rest)))
joined_shape ks bs rest = ap (λ z. FormattedBegin ∷ z) (append_assoc ks (FormattedEnd ∷ bs) rest)

after_length : (ks i : List Terminal) → length i ≤ length (ks ++ (FormattedEnd ∷ i))
after_length ks i = omega (arith, length-append ks (FormattedEnd ∷ i))

pub formatted_literal_goes : (u : Bool) (ks bs : List Terminal) (xs ys : List StringPart) → FormattedReads u ks xs → LiteralsRead u bs ys
    → LiteralsRead u (FormattedBegin ∷ (ks ++ (FormattedEnd ∷ bs))) (xs ++ ys)
formatted_literal_goes u ks bs xs ys k l = (
  max k.0 l.0,
  λ d h acc rest g m w. ap (literals_loop (read (suc d)) u m acc) (joined_shape ks bs rest)
      ∙ go d h acc rest g m (omega (arith, w, ap length (joined_shape ks bs rest))),
)
  where
    go : (d : ℕ) → max k.0 l.0 ≤ d → (acc : List StringPart) (rest : List Terminal) → grip_of rest ≤ 24 → (m : ℕ)
        → suc (length (ks ++ (FormattedEnd ∷ (bs ++ rest)))) ≤ m
        → literals_loop (read (suc d)) u m acc (FormattedBegin ∷ (ks ++ (FormattedEnd ∷ (bs ++ rest)))) ≡ Found (acc ++ (xs ++ ys)) rest
    go d h acc rest g zero w = absurd (omega (arith, w))
    go d h acc rest g (suc m) w =
        literals_formatted (read (suc d)) u m acc (acc ++ xs) (ks ++ (FormattedEnd ∷ (bs ++ rest))) (bs ++ rest)
        (formatted_reads u ks xs k d (omega (arith, h)) acc (bs ++ rest))
        ∙ (l.1 d (omega (arith, h)) (acc ++ xs) rest g m (omega (arith, w, after_length ks (bs ++ rest)))
        ∙ ap (λ z. Found z rest) (append_assoc acc xs ys))

-- ---- A run with an f-string, from its beginning on.

joined_whole : (self : Reads) (u : Bool) (acc ps qs : List StringPart) (i j r : List Terminal) → formatted_step self u acc i ≡ Found ps j
    → literals_loop self u (length j) ps j ≡ Found qs r → joined_step self u acc i ≡ Found (Trees.JoinedStr (values_of u (merged qs))) r
joined_whole self u acc ps qs i j r h k = rw h (rw k refl)

abbrev pub JoinedReads : Bool → (ks bs : List Terminal) (ps : List StringPart) → Type 0
JoinedReads u ks bs ps = (n : ℕ) × ((d : ℕ) → n ≤ d → (acc : List StringPart) (rest : List Terminal) → grip_of rest ≤ 24
    → joined_step (read (suc d)) u acc (ks ++ (FormattedEnd ∷ (bs ++ rest))) ≡ Found
    (Trees.JoinedStr (values_of u (merged (acc ++ ps)))) rest)

pub joined_goes : (u : Bool) (ks bs : List Terminal) (xs ys : List StringPart) → FormattedReads u ks xs → LiteralsRead u bs ys
    → JoinedReads u ks bs (xs ++ ys)
joined_goes u ks bs xs ys k l = (
  max k.0 l.0,
  λ d h acc rest g.
      joined_whole (read (suc d)) u acc (acc ++ xs) ((acc ++ xs) ++ ys) (ks ++ (FormattedEnd ∷ (bs ++ rest))) (bs ++ rest) rest
      (formatted_reads u ks xs k d (omega (arith, h)) acc (bs ++ rest))
      (l.1 d (omega (arith, h)) (acc ++ xs) rest g (length (bs ++ rest)) (omega arith))
      ∙ ap (λ z. Found (Trees.JoinedStr (values_of u (merged z))) rest) (append_assoc acc xs ys),
)

-- a run that goes on after some literals
abbrev run : Reads → Values.Value → Answer (List Values.Value) → Answer Expr
run self v x = and_then x
    (λ vs r1. on_first is_formatted_begin r1 (λ _ r2. on_some (texts_of (v ∷ vs)) (λ ps. joined_step self (kind_of v) ps r2) NoForm)
    (made (constant_of (joined v vs)) r1))

abbrev pub MixedReads : Bool → List Terminal → List StringPart → Type 0
MixedReads u ts ps = (n : ℕ) × ((d : ℕ) → n ≤ d → (v : Values.Value) (vs : List Values.Value) (qs : List StringPart) → kind_of v ≡ u
    → texts_of (v ∷ vs) ≡ Some qs → (rest : List Terminal) → grip_of rest ≤ 24 → run (read (suc d)) v (string_run vs (ts ++ rest)) ≡ Found
    (Trees.JoinedStr (values_of u (merged (qs ++ ps)))) rest)

texts_last : (vs : List Values.Value) (x : List ℕ) (k : Bool) (qs : List StringPart) → texts_of vs ≡ Some qs
    → texts_of (vs ++ (Values.Str x k ∷ [])) ≡ Some (qs ++ (Text x ∷ []))
texts_last [] x k qs h = ap (option_map (λ z. z ++ (Text x ∷ []))) h
texts_last (Values.Str t u ∷ vs) x k qs h = go (texts_of vs) refl h (λ ps e. texts_last vs x k ps e)
  where
    go : (o : Option (List StringPart)) → texts_of vs ≡ o → option_map (λ ps. Text t ∷ ps) o ≡ Some qs
        → ((ps : List StringPart) → texts_of vs ≡ Some ps → texts_of (vs ++ (Values.Str x k ∷ [])) ≡ Some (ps ++ (Text x ∷ [])))
        → option_map (λ ps. Text t ∷ ps) (texts_of (vs ++ (Values.Str x k ∷ []))) ≡ Some (qs ++ (Text x ∷ []))
    go None e q f = absurd (cc)
    go (Some ps) e q f = ap (option_map (λ z. Text t ∷ z)) (f ps e) ∙ ap (option_map (λ z. z ++ (Text x ∷ []))) q
texts_last (_ ∷ vs) x k qs h = absurd (cc)

pub mixed_text : (u k : Bool) (x : List ℕ) (ts : List Terminal) (ps : List StringPart) → MixedReads u ts ps
    → MixedReads u (Literal (Values.Str x k) ∷ ts) (Text x ∷ ps)
mixed_text u k x ts ps m = (
  m.0,
  λ d h v vs qs e q rest g. m.1 d h v (vs ++ (Values.Str x k ∷ [])) (qs ++ (Text x ∷ [])) e (texts_last (v ∷ vs) x k qs q) rest g
      ∙ ap (λ z. Found (Trees.JoinedStr (values_of u (merged z))) rest) (append_assoc qs (Text x ∷ []) ps),
)

run_formatted : (self : Reads) (u : Bool) (v : Values.Value) (vs : List Values.Value) (qs : List StringPart) (i : List Terminal)
    → kind_of v ≡ u → texts_of (v ∷ vs) ≡ Some qs → run self v (string_run vs (FormattedBegin ∷ i)) ≡ joined_step self u qs i
run_formatted self u v vs qs i e q = ap (λ o. on_some o (λ ps. joined_step self (kind_of v) ps i) NoForm) q
    ∙ ap (λ z. joined_step self z qs i) e

pub mixed_formatted : (u : Bool) (ks bs : List Terminal) (xs ys : List StringPart) → FormattedReads u ks xs → LiteralsRead u bs ys
    → MixedReads u (FormattedBegin ∷ (ks ++ (FormattedEnd ∷ bs))) (xs ++ ys)
mixed_formatted u ks bs xs ys k l = let j = joined_goes u ks bs xs ys k l in (
  j.0,
  λ d h v vs qs e q rest g. ap (λ z. run (read (suc d)) v (string_run vs z)) (joined_shape ks bs rest)
      ∙ (run_formatted (read (suc d)) u v vs qs (ks ++ (FormattedEnd ∷ (bs ++ rest))) e q ∙ j.1 d h qs rest g),
)
