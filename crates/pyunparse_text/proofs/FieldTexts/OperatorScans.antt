-- An operator that a scan of a field's expression passes, and the brackets that it opens and closes.
--
-- Carries: Stands, opener_scanned, closer_scanned, operator_scanned and 2 more, for PieceScans. On: Conditions, Characters.
use Rattle.std.proofs.Common.{◌≡◌, ℕ, ◌-◌, suc, ◌==◌, Bool, true, false, not, ◌&&◌, ◌||◌, List, [], ◌∷◌, ◌++◌, length, take, refl, sym, ◌∙◌}
use Rattle.std.proofs.Common.{ap}
use Rattle.std.proofs.Common.{subst, arith, Option, Some, None, inl, inr, length-append}
use Rattle.std.specs.Prelude.{codes, nat_lt, slice_get}
use Rattle.std.specs.List.{list_all, list_any}
use Rattle.std.specs.Str.{bytes_eq}
use Rattle.std.proofs.lemmas.Bool.{cases_Bool, not-true, or_cases, and_parts}
use Rattle.std.proofs.lemmas.Bool.Decides.{nat_tests}
use Rattle.std.proofs.lemmas.List.{take_at}
use Rattle.std.proofs.lemmas.Slice.Eq.{bytes_eq-Decides}
use Rattle.pyfstring.specs.Texts.{begins_with}
use Rattle.pyfstring.specs.Expressions.{is_quote, is_refused, is_end, opened_by, closed_by, same_bracket, begins_comparison, is_empty, step}
use Rattle.pyfstring.specs.Expressions.{scan}
use Rattle.pyfstring.specs.Expressions.{expression}
use Rattle.pylex_lexeme.specs.Operators.{operators, exact_of, is_operator}
use Rattle.pylex_lexeme.proofs.Callers.Lexemes.{words, by_words}
use Rattle.pylex_lexeme.proofs.Callers.WholeLines.{one_of}
use Rattle.pyunparse_text.specs.Tokens.{is_opening, is_closing}
use Rattle.pyunparse_text.proofs.FieldTexts.Conditions.{is_there, is_inner, is_calm, is_plain, is_pair, is_within, is_comparison, ends_text}
use Rattle.pyunparse_text.proofs.FieldTexts.Conditions.{most_open}
use Rattle.pyunparse_text.proofs.FieldTexts.Characters.{Bracket, plain_passed, inner_passed, calm_passed}

-- ---- Brackets.

-- of a text of one character
abbrev pub alone : (ℕ → Option Bracket) → List ℕ → Option Bracket
alone by (c ∷ []) = by c
alone by _ = None

-- the brackets that are open, the last one first, and what they are to a scan, the last one last
pub data Stands : List (List ℕ) → List Bracket → Type 0 where
  none : Stands [] []
  more : {os : List (List ℕ)} {bs : List Bracket} {o : List ℕ} {b : Bracket} → Stands os bs → alone opened_by o ≡ Some b
      → Stands (o ∷ os) (bs ++ b ∷ [])

pub stands_long : {os : List (List ℕ)} {bs : List Bracket} → Stands os bs → length bs ≡ length os
stands_long none = refl
stands_long (more {os = os} {bs = bs} {b = b} s e) = let l = length-append bs (b ∷ []) in let f = stands_long s in omega arith

some_open : (bs : List Bracket) (b : Bracket) → is_empty (bs ++ b ∷ []) ≡ false
some_open [] b = refl
some_open (o ∷ bs) b = let n : (suc (length (bs ++ b ∷ [])) == 0) ≡ false = grind (arith, nat_tests) in n

pub all_but_last : {A : Type 0} (bs : List A) (b : A) → take (length (bs ++ b ∷ []) - 1) (bs ++ b ∷ []) ≡ bs
all_but_last bs b =
    let e = length-append bs (b ∷ []) in
    let f : length (bs ++ b ∷ []) - 1 ≡ length bs = omega arith in ap (λ n. take n (bs ++ b ∷ [])) f ∙ take_at bs (b ∷ []) (length bs) refl

at_seam : (bs : List Bracket) (b : Bracket) → slice_get (bs ++ b ∷ []) (length bs) ≡ Some b
at_seam [] b = refl
at_seam (o ∷ bs) b = at_seam bs b

last_is : (bs : List Bracket) (b : Bracket) → slice_get (bs ++ b ∷ []) (length (bs ++ b ∷ []) - 1) ≡ Some b
last_is bs b =
    let e = length-append bs (b ∷ []) in let f : length (bs ++ b ∷ []) - 1 ≡ length bs = omega arith in
    ap (slice_get (bs ++ b ∷ [])) f ∙ at_seam bs b

-- a character that opens a bracket
record IsOpener (c : ℕ) : Type 0 where
  pub quote : is_quote c ≡ false
  pub refused : is_refused c ≡ false
  pub comparison : (cs : List ℕ) → begins_comparison (c ∷ cs) ≡ false
  pub last : is_end c ≡ false
  pub there : is_there (opened_by c) ≡ true

opened : (bs : List Bracket) (c : ℕ) (b : Bracket) (cs : List ℕ) → IsOpener c → opened_by c ≡ Some b → nat_lt (length bs) 599 ≡ true
    → scan expression bs 0 (c ∷ cs) ≡ scan expression (bs ++ b ∷ []) 0 cs
unfolding step
opened bs c b cs o e l = let n = o.comparison cs in elim (cases_Bool (is_empty bs)) [
  | inl k ↦ rw (o.quote, o.refused, k, n, o.last, e, l, scan) refl
  | inr k ↦ rw (o.quote, o.refused, k, e, l, scan) refl
]

record IsCloser (c : ℕ) : Type 0 where
  pub quote : is_quote c ≡ false
  pub refused : is_refused c ≡ false
  pub opener : opened_by c ≡ None

closed : (bs : List Bracket) (c : ℕ) (o b : Bracket) (cs : List ℕ) → IsCloser c → closed_by c ≡ Some b → same_bracket o b ≡ true
    → scan expression (bs ++ o ∷ []) 0 (c ∷ cs) ≡ scan expression bs 0 cs
unfolding step
closed bs c o b cs k e m =
    let n = some_open bs o in
    let l = last_is bs o in
    let t = all_but_last bs o in
    rw (k.quote, k.refused, n, k.opener, e, l, m, t, scan) refl

-- an opening bracket
record Opener (t : List ℕ) : Type 0 where
  pub character : ℕ
  pub is : t ≡ character ∷ []
  pub opens : IsOpener character

openers : List (List ℕ)
openers = codes "(" ∷ codes "[" ∷ codes "{" ∷ []

opening_shape : (t : List ℕ) → is_operator t ≡ true → (not (is_opening t) || list_any (bytes_eq t) openers) ≡ true
unfolding exact_of operators openers
opening_shape t e = one_of (λ t. not (is_opening t) || list_any (bytes_eq t) openers) t words refl (sym (by_words t) ∙ e)

opener_of : (t : List ℕ) → is_operator t ≡ true → is_opening t ≡ true → Opener t
unfolding openers
opener_of t e h = which (rw h at (opening_shape t e))
  where
    which : list_any (bytes_eq t) openers ≡ true → Opener t
    which w = elim (cases_Bool (bytes_eq t (codes "("))) [
      | inl i ↦ record {
        character = 40;
        is =
            (bytes_eq-Decides t (40 ∷ [])).0 i;
        opens = record { quote = refl; refused = refl; comparison = λ cs. refl; last = refl; there = refl };
      }
      | inr i ↦ elim (cases_Bool (bytes_eq t (codes "["))) [
        | inl j ↦ record {
          character = 91;
          is =
              (bytes_eq-Decides t (91 ∷ [])).0 j;
          opens = record { quote = refl; refused = refl; comparison = λ cs. refl; last = refl; there = refl };
        }
        | inr j ↦ elim (cases_Bool (bytes_eq t (codes "{"))) [
          | inl k ↦ record {
            character = 123;
            is =
                (bytes_eq-Decides t (123 ∷ [])).0 k;
            opens = record { quote = refl; refused = refl; comparison = λ cs. refl; last = refl; there = refl };
          }
          | inr k ↦ absurd (let f : false ≡ true = rw (i, j, k) at w in cc)
        ]
      ]
    ]

-- what a scan is after a piece
pub record Passed (os : List (List ℕ)) (bs : List Bracket) (t r : List ℕ) : Type 0 where
  pub brackets : List Bracket
  pub stands : Stands os brackets
  pub same : scan expression bs 0 (t ++ r) ≡ scan expression brackets 0 r

pub opener_scanned : {os : List (List ℕ)} {bs : List Bracket} (t r : List ℕ) → Stands os bs → is_operator t ≡ true → is_opening t ≡ true
    → nat_lt (length os) most_open ≡ true → Passed (t ∷ os) bs t r
opener_scanned {os} {bs} t r s e h l =
    let o = opener_of t e h in
    by o.character o.is o.opens (opened_by o.character) refl
  where
    by : (c : ℕ) → t ≡ c ∷ [] → IsOpener c → (x : Option Bracket) → opened_by c ≡ x → Passed (t ∷ os) bs t r
    by c i o None f = absurd (let g : false ≡ true = rw f at o.there in cc)
    by c i o (Some b) f = record {
      brackets = bs ++ b ∷ [];
      stands = more s (ap (alone opened_by) i ∙ f);
      same = ap (λ u. scan expression bs 0 (u ++ r)) i ∙ opened bs c b r o f (ap (λ n. nat_lt n 599) (stands_long s) ∙ l);
    }

-- a bracket that closes another
abbrev match : Option Bracket → Option Bracket → Bool
match (Some o) (Some b) = same_bracket o b
match _ _ = false

pair_scanned : {os : List (List ℕ)} (bs : List Bracket) (b : Bracket) (a c : ℕ) (o t r : List ℕ) → Stands os bs → alone opened_by o ≡ Some b
    → o ≡ a ∷ [] → t ≡ c ∷ [] → IsCloser c → match (opened_by a) (closed_by c) ≡ true → Passed os (bs ++ b ∷ []) t r
pair_scanned {os} bs b a c o t r s e i j k m = by (closed_by c) refl
  where
    f : opened_by a ≡ Some b
    f = ap (alone opened_by) (sym i) ∙ e

    by : (x : Option Bracket) → closed_by c ≡ x → Passed os (bs ++ b ∷ []) t r
    by None g = absurd (let n : false ≡ true = rw (f, g) at m in cc)
    by (Some d) g = record {
      brackets = bs;
      stands = s;
      same = ap (λ u. scan expression (bs ++ b ∷ []) 0 (u ++ r)) j ∙ closed bs c b d r k g (rw (f, g) at m);
    }

pub closer_scanned : {os : List (List ℕ)} {bs : List Bracket} (o t r : List ℕ) → Stands (o ∷ os) bs → is_pair o t ≡ true → Passed os bs t r
closer_scanned {os} o t r (more {bs = bs} {b = b} s e) p = elim (cases_Bool (bytes_eq o (codes "(") && bytes_eq t (codes ")"))) [
  | inl h ↦ pair 40 41 h (record { quote = refl; refused = refl; opener = refl }) refl
  | inr h ↦ elim (cases_Bool (bytes_eq o (codes "[") && bytes_eq t (codes "]"))) [
    | inl i ↦ pair 91 93 i (record { quote = refl; refused = refl; opener = refl }) refl
    | inr i ↦ pair 123 125 (rw (h, i) at p) (record { quote = refl; refused = refl; opener = refl }) refl
  ]
]
  where
    pair : (x y : ℕ) → (bytes_eq o (x ∷ []) && bytes_eq t (y ∷ [])) ≡ true → IsCloser y → match (opened_by x) (closed_by y) ≡ true
        → Passed os (bs ++ b ∷ []) t r
    pair x y h k m =
        let q = and_parts (bytes_eq o (x ∷ [])) (bytes_eq t (y ∷ [])) h in
        pair_scanned bs b x y o t r s e ((bytes_eq-Decides o (x ∷ [])).0 q.0) ((bytes_eq-Decides t (y ∷ [])).0 q.1) k m

-- ---- Other operators.

-- an operator and `=` after it are one
abbrev pub joins_equals : List ℕ → Bool
joins_equals t = is_operator (t ++ 61 ∷ [])

abbrev is_bracket : List ℕ → Bool
is_bracket t = is_opening t || is_closing t

inside_shape : (t : List ℕ) → is_operator t ≡ true → (is_bracket t || list_all is_inner t) ≡ true
unfolding exact_of operators
inside_shape t e = one_of (λ t. is_bracket t || list_all is_inner t) t words refl (sym (by_words t) ∙ e)

outside_shape : (t : List ℕ) → is_operator t ≡ true
    → (is_bracket t || (ends_text t || (is_comparison t || (list_all is_plain t || (list_all is_calm t && joins_equals t))))) ≡ true
unfolding is_operator exact_of operators
outside_shape t e =
    one_of (λ t. is_bracket t ||
    (ends_text t || (is_comparison t || (list_all is_plain t || (list_all is_calm t && joins_equals t))))) t words
    refl (sym (by_words t) ∙ e)

comparison_scanned : (t r : List ℕ) → is_comparison t ≡ true → scan expression [] 0 (t ++ r) ≡ scan expression [] 0 r
unfolding step
comparison_scanned t r e = of_words (λ u. scan expression [] 0 (u ++ r) ≡ scan expression [] 0 r) refl refl refl refl e
  where
    of_words : (P : List ℕ → Type 0) → P (codes "!=") → P (codes "==") → P (codes "<=") → P (codes ">=") → is_comparison t ≡ true → P t
    of_words P a b c d e = elim (cases_Bool (bytes_eq t (codes "!="))) [
      | inl h ↦ subst P (sym ((bytes_eq-Decides t (codes "!=")).0 h)) a
      | inr h ↦ elim (cases_Bool (bytes_eq t (codes "=="))) [
        | inl i ↦ subst P (sym ((bytes_eq-Decides t (codes "==")).0 i)) b
        | inr i ↦ elim (cases_Bool (bytes_eq t (codes "<="))) [
          | inl j ↦ subst P (sym ((bytes_eq-Decides t (codes "<=")).0 j)) c
          | inr j ↦ elim (cases_Bool (bytes_eq t (codes ">="))) [
            | inl k ↦ subst P (sym ((bytes_eq-Decides t (codes ">=")).0 k)) d
            | inr k ↦ absurd (let f : false ≡ true = rw (h, i, j, k) at e in cc)
          ]
        ]
      ]
    ]

pub operator_scanned : {os : List (List ℕ)} {bs : List Bracket} (t r : List ℕ) → Stands os bs → is_operator t ≡ true → is_opening t ≡ false
    → is_closing t ≡ false → (is_within os || not (ends_text t)) ≡ true → (joins_equals t ≡ true → begins_with 61 r ≡ false)
    → scan expression bs 0 (t ++ r) ≡ scan expression bs 0 r
operator_scanned t r none e o c n f =
    let a : (ends_text t || (is_comparison t || (list_all is_plain t || (list_all is_calm t && joins_equals t)))) ≡ true = rw (o, c) at
    (outside_shape t e) in
    let m : ends_text t ≡ false = not-true (ends_text t) n in
    let b : (is_comparison t || (list_all is_plain t || (list_all is_calm t && joins_equals t))) ≡ true = rw m at a in
    elim (or_cases (is_comparison t) (list_all is_plain t || (list_all is_calm t && joins_equals t)) b) [
      | inl h ↦ comparison_scanned t r h
      | inr h ↦ elim (or_cases (list_all is_plain t) (list_all is_calm t && joins_equals t) h) [
        | inl i ↦ plain_passed [] t r i
        | inr i ↦ let p = and_parts (list_all is_calm t) (joins_equals t) i in calm_passed [] t r p.0 (f p.1)
      ]
    ]
operator_scanned t r (more {bs = bs} {b = b} s g) e o c n f =
    let a : list_all is_inner t ≡ true = rw (o, c) at (inside_shape t e) in
    inner_passed (bs ++ b ∷ []) t r (some_open bs b) a
