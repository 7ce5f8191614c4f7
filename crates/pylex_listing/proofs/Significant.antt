-- What makes a line logical is seen at its first characters.
--
-- Carries: none_at_all, all_cut, significant_at and 2 more, for Carried, Finding,
-- LexedOn, Lined and 3 more.
use Rattle.std.proofs.Common.{◌≡◌, ℕ, ◌≤◌, Bool, true, false, ◌&&◌, ◌==◌, not, List, [], ◌∷◌, length, take, refl, sym, ◌∙◌, ap, subst}
use Rattle.std.proofs.Common.{Option, Some, None, suc, zero, cond, ⊎_elim}
use Rattle.std.specs.Prelude.{option_map}
use Rattle.std.specs.List.{list_all}
use Rattle.std.proofs.lemmas.Bool.{not-true, and_parts, cases_Bool}
use Rattle.pylex_lexeme.specs.declared.lexeme.Class.{Class}
use Rattle.pylex_lexeme.specs.declared.lexeme.Class.TheVariants.{Name, Number, Operator, Comment, Blanks, LineEnd, Join, String}
use Rattle.pylex_lexeme.specs.Chars.{is_blank_char}
use Rattle.pylex_lexeme.specs.Strings.{opens_string, counts_as_string}
use Rattle.pylex_lexeme.specs.Lexemes.{class_in, plain_class, lexeme_len, lexeme_at, Lexeme, is_name, is_comment}
use Rattle.pylex_lexeme.specs.Lexemes.{are_blanks, is_line_end, is_join}
use Rattle.pylex_lexeme.specs.Numbers.{is_number}
use Rattle.pylex_lexeme.specs.Operators.{is_operator, exact_of}
use Rattle.pylex_lexeme.specs.declared.kinds.Exact.{Exact}
use Rattle.pylex_listing.specs.Lines.{is_significant}
use Rattle.pylex_lexeme.specs.Cuts.{TakesLexeme, begins_significant, begins_line_end}
use Rattle.pylex_lexeme.proofs.Callers.Lexemes.{nothing_takes, comment_takes, blanks_take, feed_takes, both_take, no_end_front}
use Rattle.pylex_lexeme.proofs.Callers.WholeLines.{len_within}

-- a lexeme by its class and its text
record At (cs : List ℕ) (x : Lexeme) : Type 0 where
  pub text : x.text ≡ take (lexeme_len cs) cs
  pub classed : class_in cs x.text ≡ Some x.«class»

at_by : (cs t : List ℕ) (x : Lexeme) (o : Option Class) → class_in cs t ≡ o → option_map (λ k. record { «class» = k; text = t }) o ≡ Some x
    → (x.text ≡ t) × (class_in cs x.text ≡ Some x.«class»)
at_by cs t x None i e = cc
at_by cs t x (Some k) i e = subst (λ (y : Lexeme). (y.text ≡ t) × (class_in cs y.text ≡ Some y.«class»))
    (some_same (record { «class» = k; text = t }) x e) (refl, i)
  where
    some_same : (a b : Lexeme) → Some a ≡ Some b → a ≡ b
    some_same a b e = cc

at : (cs : List ℕ) (x : Lexeme) → lexeme_at cs ≡ Some x → At cs x
unfolding lexeme_at
at cs x e = let p = at_by cs (take (lexeme_len cs) cs) x (class_in cs (take (lexeme_len cs) cs)) refl e in
    record { text = p.0; classed = p.1 }

-- a class that is not String has its own test
plain_in : (cs t : List ℕ) (k : Class) → class_in cs t ≡ Some k → (k ≡ String → ⊥) → plain_class t ≡ Some k
unfolding class_in
plain_in cs t k e n = by (opens_string cs) (counts_as_string cs t) e
  where
    by : (o s : Bool) → cond o (cond s (Some String) None) (plain_class t) ≡ Some k → plain_class t ≡ Some k
    by true true f = absurd (n (let g : String ≡ k = cc in sym g))
    by true false f = cc
    by false s f = f

abbrev chosen : Bool → Bool → Bool → Bool → Bool → Bool → Bool → Option Exact → Option Class
chosen a b c d e f g x =
    cond a (Some Name) (cond b (Some Number)
    (cond c (option_map Operator x) (cond d (Some Comment) (cond e (Some Blanks) (cond f (Some LineEnd) (cond g (Some Join) None))))))

comment_of : (a b c d e f g : Bool) (x : Option Exact) → chosen a b c d e f g x ≡ Some Comment → d ≡ true
comment_of true b c d e f g x h = cc
comment_of false true c d e f g x h = cc
comment_of false false true d e f g (Some x) h = cc
comment_of false false true d e f g None h = cc
comment_of false false false true e f g x h = refl
comment_of false false false false true f g x h = cc
comment_of false false false false false true g x h = cc
comment_of false false false false false false true x h = cc
comment_of false false false false false false false x h = cc

blanks_of : (a b c d e f g : Bool) (x : Option Exact) → chosen a b c d e f g x ≡ Some Blanks → e ≡ true
blanks_of true b c d e f g x h = cc
blanks_of false true c d e f g x h = cc
blanks_of false false true d e f g (Some x) h = cc
blanks_of false false true d e f g None h = cc
blanks_of false false false true e f g x h = cc
blanks_of false false false false true f g x h = refl
blanks_of false false false false false true g x h = cc
blanks_of false false false false false false true x h = cc
blanks_of false false false false false false false x h = cc

line_end_of : (a b c d e f g : Bool) (x : Option Exact) → chosen a b c d e f g x ≡ Some LineEnd → f ≡ true
line_end_of true b c d e f g x h = cc
line_end_of false true c d e f g x h = cc
line_end_of false false true d e f g (Some x) h = cc
line_end_of false false true d e f g None h = cc
line_end_of false false false true e f g x h = cc
line_end_of false false false false true f g x h = cc
line_end_of false false false false false true g x h = refl
line_end_of false false false false false false true x h = cc
line_end_of false false false false false false false x h = cc

is_by : (k : Class) (cs : List ℕ) (x : Lexeme) → lexeme_at cs ≡ Some x → x.«class» ≡ k → (k ≡ String → ⊥) → plain_class x.text ≡ Some k
is_by k cs x e f n = plain_in cs x.text k ((at cs x e).classed ∙ ap (λ i. Some i) f) n

pub blank_parts : (t : List ℕ) → are_blanks t ≡ true → list_all is_blank_char t ≡ true
unfolding are_blanks
blank_parts [] e = refl
blank_parts (c ∷ t) e = e

-- blanks are spaces, tabs and form feeds
pub blanks_text : (cs : List ℕ) (x : Lexeme) → lexeme_at cs ≡ Some x → x.«class» ≡ Blanks → list_all is_blank_char x.text ≡ true
unfolding plain_class
blanks_text cs x e f = blank_parts x.text (blanks_of (is_name x.text) (is_number x.text) (is_operator x.text) (is_comment x.text)
    (are_blanks x.text) (is_line_end x.text) (is_join x.text) (exact_of x.text) (is_by Blanks cs x e f (λ h. cc)))

significant_comment : (cs : List ℕ) (n : ℕ) → begins_significant cs ≡ true → is_comment (take n cs) ≡ false
unfolding begins_significant is_comment
significant_comment [] n h = cc
significant_comment (c ∷ cs) zero h = refl
significant_comment (c ∷ cs) (suc n) h =
    let p = and_parts (not (is_blank_char c) && not (c == 35)) (not (begins_line_end (c ∷ cs))) h in
    let q = and_parts (not (is_blank_char c)) (not (c == 35)) p.0 in
    let e : (c == 35) ≡ false = not-true (c == 35) q.1 in
    rw e refl

significant_blanks : (cs : List ℕ) (n : ℕ) → begins_significant cs ≡ true → are_blanks (take n cs) ≡ false
unfolding begins_significant are_blanks
significant_blanks [] n h = cc
significant_blanks (c ∷ cs) zero h = refl
significant_blanks (c ∷ cs) (suc n) h =
    let p = and_parts (not (is_blank_char c) && not (c == 35)) (not (begins_line_end (c ∷ cs))) h in
    let q = and_parts (not (is_blank_char c)) (not (c == 35)) p.0 in
    let e : is_blank_char c ≡ false = not-true (is_blank_char c) q.0 in
    rw e refl

end_front : (cs : List ℕ) (n : ℕ) → begins_line_end cs ≡ false → n ≤ length cs → is_line_end (take n cs) ≡ false
end_front [] n e h = no_end_front [] refl refl n h
end_front (c ∷ []) n e h = no_end_front (c ∷ []) e (none (c == 13)) n h
  where
    none : (b : Bool) → (b && false) ≡ false
    none true = refl
    none false = refl
end_front (c ∷ d ∷ t) n e h = let p = if_parts (c == 10) ((c == 13) && (d == 10)) e in no_end_front (c ∷ d ∷ t) p.0 p.1 n h
  where
    if_parts : (x y : Bool) → cond x true y ≡ false → (x ≡ false) × (y ≡ false)
    if_parts true y e = cc
    if_parts false y e = (refl, e)

significant_line_end : (cs : List ℕ) (n : ℕ) → begins_significant cs ≡ true → n ≤ length cs → is_line_end (take n cs) ≡ false
unfolding begins_significant
significant_line_end [] n h l = cc
significant_line_end (c ∷ cs) n h l =
    let p = and_parts (not (is_blank_char c) && not (c == 35)) (not (begins_line_end (c ∷ cs))) h in
    end_front (c ∷ cs) n (not-true (begins_line_end (c ∷ cs)) p.1) l

abbrev significant_of : Class → Bool
significant_of k = elim k [ Blanks ↦ false | Comment ↦ false | LineEnd ↦ false | _ ↦ true ]

not_both : (b : Bool) → b ≡ true → b ≡ false → ⊥
not_both true e f = cc
not_both false e f = cc

significant_by : (cs : List ℕ) (x : Lexeme) (k : Class) → begins_significant cs ≡ true → lexeme_at cs ≡ Some x → x.«class» ≡ k
    → is_significant x ≡ true
unfolding plain_class
significant_by cs x Name h e f = ap significant_of f
significant_by cs x Number h e f = ap significant_of f
significant_by cs x String h e f = ap significant_of f
significant_by cs x (Operator o) h e f = ap significant_of f
significant_by cs x Join h e f = ap significant_of f
significant_by cs x Comment h e f =
    let t = comment_of (is_name x.text) (is_number x.text) (is_operator x.text) (is_comment x.text) (are_blanks x.text) (is_line_end x.text)
    (is_join x.text) (exact_of x.text) (is_by Comment cs x e f (λ h. cc)) in
    absurd (not_both (is_comment x.text) t (ap is_comment (at cs x e).text ∙ significant_comment cs (lexeme_len cs) h))
significant_by cs x Blanks h e f =
    let t = blanks_of (is_name x.text) (is_number x.text) (is_operator x.text) (is_comment x.text) (are_blanks x.text) (is_line_end x.text)
    (is_join x.text) (exact_of x.text) (is_by Blanks cs x e f (λ h. cc)) in
    absurd (not_both (are_blanks x.text) t (ap are_blanks (at cs x e).text ∙ significant_blanks cs (lexeme_len cs) h))
significant_by cs x LineEnd h e f =
    let t = line_end_of (is_name x.text) (is_number x.text) (is_operator x.text) (is_comment x.text) (are_blanks x.text)
    (is_line_end x.text) (is_join x.text) (exact_of x.text) (is_by LineEnd cs x e f (λ h. cc)) in
    absurd (not_both (is_line_end x.text) t (ap is_line_end (at cs x e).text ∙ significant_line_end cs (lexeme_len cs) h (len_within cs)))

-- a lexeme at the front of what begins a significant token is one
pub significant_at : (cs : List ℕ) (x : Lexeme) → begins_significant cs ≡ true → lexeme_at cs ≡ Some x → is_significant x ≡ true
significant_at cs x h e = significant_by cs x x.«class» h e refl

-- Where no significant token begins, there are blanks, a comment or a line end, or nothing
record Lays (cs : List ℕ) : Type 0 where
  pub kind : Class
  pub new : List ℕ
  pub takes : TakesLexeme cs (Some kind) new
  pub plain : significant_of kind ≡ false

lays_end : (c : ℕ) (cs : List ℕ) → begins_line_end (c ∷ cs) ≡ true → Lays (c ∷ cs)
lays_end c [] e = record { kind = LineEnd; new = _; takes = feed_takes (c ∷ []) e; plain = refl }
lays_end c (d ∷ cs) e =
    ⊎_elim
    (λ (h : (c == 10) ≡ true). record { kind = LineEnd; new = _; takes = feed_takes (c ∷ d ∷ cs) h; plain = refl })
    (λ (h : (c == 10) ≡ false).
    let f : ((c == 13) && (d == 10)) ≡ true = simp h at e in
    let p = and_parts (c == 13) (d == 10) f in
    record { kind = LineEnd; new = _; takes = both_take (c ∷ d ∷ cs) p.0 p.1; plain = refl })
    (cases_Bool (c == 10))

lays : (c : ℕ) (cs : List ℕ) → begins_significant (c ∷ cs) ≡ false → Lays (c ∷ cs)
unfolding begins_significant
lays c cs h =
    ⊎_elim
    (λ (e : is_blank_char c ≡ true). record { kind = Blanks; new = _; takes = blanks_take (c ∷ cs) e; plain = refl })
    (λ (e : is_blank_char c ≡ false).
    ⊎_elim
    (λ (f : (c == 35) ≡ true). record { kind = Comment; new = _; takes = comment_takes (c ∷ cs) f; plain = refl })
    (λ (f : (c == 35) ≡ false).
    ⊎_elim
    (λ (g : begins_line_end (c ∷ cs) ≡ true). lays_end c cs g)
    (λ (g : begins_line_end (c ∷ cs) ≡ false). let t : true ≡ false = simp (e, f, g) at h in cc)
    (cases_Bool (begins_line_end (c ∷ cs))))
    (cases_Bool (c == 35)))
    (cases_Bool (is_blank_char c))

class_by : (cs new : List ℕ) (k : Class) (x : Lexeme) → TakesLexeme cs (Some k) new → lexeme_at cs ≡ Some x → x.«class» ≡ k
class_by cs new k x t e = let f : Some k ≡ Some x.«class» = t.«class» ∙ ap (option_map (λ (y : Lexeme). y.«class»)) e in cc

some_by : (cs new : List ℕ) (k : Class) → TakesLexeme cs (Some k) new → lexeme_at cs ≡ None → ⊥
some_by cs new k t e = let f : Some k ≡ None = t.«class» ∙ ap (option_map (λ (y : Lexeme). y.«class»)) e in cc

pub none_at_all : (x : Lexeme) → lexeme_at [] ≡ Some x → ⊥
none_at_all x e = let f : None ≡ Some x.«class» = nothing_takes.«class» ∙ ap (option_map (λ (y : Lexeme). y.«class»)) e in cc

-- a lexeme elsewhere is none
pub plain_at : (cs : List ℕ) (x : Lexeme) → begins_significant cs ≡ false → lexeme_at cs ≡ Some x → is_significant x ≡ false
plain_at [] x h e = absurd (none_at_all x e)
plain_at (c ∷ cs) x h e = let l : Lays (c ∷ cs) = lays c cs h in ap significant_of (class_by (c ∷ cs) l.new l.kind x l.takes e) ∙ l.plain

-- and only at the end is there no lexeme
pub all_cut : (cs : List ℕ) → begins_significant cs ≡ false → lexeme_at cs ≡ None → cs ≡ []
all_cut [] h e = refl
all_cut (c ∷ cs) h e = let l : Lays (c ∷ cs) = lays c cs h in absurd (some_by (c ∷ cs) l.new l.kind l.takes e)

-- a lexeme makes its line logical exactly where it is seen to
pub significant_is : (cs : List ℕ) (x : Lexeme) → lexeme_at cs ≡ Some x → is_significant x ≡ begins_significant cs
significant_is cs x e = ⊎_elim
    (λ (b : begins_significant cs ≡ true). significant_at cs x b e ∙ sym b)
    (λ (b : begins_significant cs ≡ false). plain_at cs x b e ∙ sym b)
    (cases_Bool (begins_significant cs))
