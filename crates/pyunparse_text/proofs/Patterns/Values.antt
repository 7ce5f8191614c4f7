-- Carries: the laws of written patterns. On: literals, classes and keys of terminals of tokens, as they are written, are literals, classes
-- and keys
-- again, in no more tokens.
use Rattle.std.proofs.Common.{◌≡◌, refl, sym, ap, subst, ◌∙◌, List, [], ◌∷◌, ◌++◌, Some, true}
use Rattle.std.specs.List.{list_all}
use Rattle.std.proofs.lemmas.Bool.{and_parts}
use Rattle.std.proofs.lemmas.List.Folds.{list_all-append}
use Rattle.pylex_lexeme.specs.declared.kinds.Exact.TheVariants.{Plus, Minus, Dot}
use Rattle.pytoken.specs.declared.keywords.Keyword.TheVariants as Key
use Rattle.pytree_node.specs.declared.operators.Operator.{Operator}
use Rattle.pytree_node.specs.declared.operators.UnaryOperator.TheVariants as Un
use Rattle.pytree_node.specs.declared.operators.Context.TheVariants.{Load}
use Rattle.pygrammar.specs.declared.levels.Level.TheVariants.{Sum, Term, Primary}
use Rattle.pytree_node.specs.Values
use Rattle.pytree_node.specs.Trees
use Rattle.pytree_node.specs.Trees.{Expr, Identifier}
use Rattle.pytoken.specs.Terminals.{Terminal, Op, Word, Ident, Number, Literal, in_form}
use Rattle.pygrammar.specs.Constants.{joined}
use Rattle.pygrammar.specs.FormattedStrings.{merged, values_of}
use Rattle.pygrammar.specs.Operators.{left_operator}
use Rattle.pygrammar.specs.PatternOperators.{is_imaginary, singleton_word}
use Rattle.pygrammar.specs.PatternGrammar.{SignedNumber, unsigned, negative, LiteralOf, number, complex, strings, joined_string, Dotted}
use Rattle.pygrammar.specs.PatternGrammar.{first_name}
use Rattle.pygrammar.specs.PatternGrammar.{dot_name, ClassOf, class_name, KeyOf, literal_key, singleton_key, name_key}
use Rattle.pyunparse_text.specs.Levels.{leads, reaches}
use Rattle.pyunparse_text.specs.Written.{Maker, constant_terminal, free, tight, fit, written}
use Rattle.pyunparse_text.specs.Terminals.{terminal}
use Rattle.pyunparse_text.specs.Laws.{is_number, is_string, may_be_token}
use Rattle.pyunparse_text.proofs.Fewest.Counted.{one, AtLeast, none, token, both, is_plain}
use Rattle.pyunparse_text.proofs.Fewest.Claims.{given, strings_short}
use Rattle.pyunparse_text.proofs.Fewest.Strings.{joined_again, joined_short}
use Rattle.pyunparse_text.proofs.Fewest.Induction.{literals}

-- ---- Terminals that tokens may be.

pub record Told (ts : List Terminal) : Type 0 where
  pub all : list_all may_be_token ts ≡ true

told_parts : (ts us : List Terminal) → Told (ts ++ us) → Told ts × Told us
told_parts ts us h =
    let b = and_parts (list_all may_be_token ts) (list_all may_be_token us) (sym (list_all-append may_be_token ts us) ∙ h.all) in
    (record { all = b.0 }, record { all = b.1 })

pub told_first : {t : Terminal} {ts : List Terminal} → Told (t ∷ ts) → may_be_token t ≡ true
told_first {t} {ts} h = (and_parts (may_be_token t) (list_all may_be_token ts) h.all).0

pub told_rest : {t : Terminal} {ts : List Terminal} → Told (t ∷ ts) → Told ts
told_rest {t} {ts} h = record { all = (and_parts (may_be_token t) (list_all may_be_token ts) h.all).1 }

pub told_front : (ts us : List Terminal) → Told (ts ++ us) → Told ts
told_front ts us h = (told_parts ts us h).0

-- after some terminals and one more
pub told_after : (ts us : List Terminal) (t : Terminal) → Told (ts ++ (t ∷ us)) → Told us
told_after ts us t h = told_rest (told_parts ts (t ∷ us) h).1

-- ---- Constants.

number_written : (v : Values.Value) → is_number v ≡ true → constant_terminal v ≡ Number v
number_written (Values.Int n) h = refl
number_written (Values.Float x) h = refl
number_written (Values.Imaginary x) h = refl
number_written _ h = absurd (cc)

imaginary_written : (v : Values.Value) → is_imaginary v ≡ true → constant_terminal v ≡ Number v
imaginary_written (Values.Imaginary x) h = refl
imaginary_written _ h = absurd (cc)

string_written : (v : Values.Value) → is_string v ≡ true → constant_terminal v ≡ Literal v
string_written (Values.Str points unicode) h = refl
string_written (Values.Bytes bytes) h = refl
string_written _ h = absurd (cc)

string_joined : (v w : Values.Value) (vs : List Values.Value) → joined v vs ≡ Some w → is_string v ≡ true → is_string w ≡ true
string_joined v w [] q h = given (λ v. is_string v ≡ true) q h
string_joined (Values.Str t u) w (Values.Str s x ∷ vs) q h = string_joined (Values.Str (t ++ s) u) w vs q refl
string_joined (Values.Bytes t) w (Values.Bytes s ∷ vs) q h = string_joined (Values.Bytes (t ++ s)) w vs q refl
string_joined _ w vs q h = absurd (cc)

-- ---- Literals.

signed_again : {v : Values.Value} {ts : List Terminal} {e : Expr} → SignedNumber v ts e → Told ts
    → SignedNumber v (written terminal Sum e) e
unfolding written fit reaches leads
signed_again (unsigned {v = v}) h = subst (λ t. SignedNumber v (t ∷ []) (Trees.Constant v)) (sym (number_written v (told_first h))) unsigned
signed_again (negative {v = v}) h =
    subst (λ t. SignedNumber v (Op Minus ∷ (t ∷ [])) (Trees.UnaryOp Un.USub (Trees.Constant v)))
    (sym (number_written v (told_first (told_rest h)))) negative

signed_short : {v : Values.Value} {ts : List Terminal} {e : Expr} → SignedNumber v ts e → AtLeast (written one Sum e) ts
unfolding written fit reaches leads
signed_short unsigned = token refl none
signed_short negative = token refl (token refl none)

-- a sum stands at Sum without brackets
sum_written : {A : Type 0} (make : Maker A) (t : Terminal) (o : Operator) → left_operator Sum t ≡ Some o → (a b : Expr)
    → written make Sum (Trees.BinOp a o b) ≡ written make Sum a ++ (free make t ∷ written make Term b)
unfolding written fit reaches leads
sum_written make (Op Plus) o h a b =
    given (λ o. written make Sum (Trees.BinOp a o b) ≡ written make Sum a ++ (free make (Op Plus) ∷ written make Term b)) h refl
sum_written make (Op Minus) o h a b =
    given (λ o. written make Sum (Trees.BinOp a o b) ≡ written make Sum a ++ (free make (Op Minus) ∷ written make Term b)) h refl
sum_written make _ o h a b = absurd (cc)

sum_plain : (t : Terminal) (o : Operator) → left_operator Sum t ≡ Some o → is_plain t ≡ true
sum_plain (Op x) o h = refl
sum_plain _ o h = absurd (cc)

constant_written : (v : Values.Value) → written terminal Term (Trees.Constant v) ≡ constant_terminal v ∷ []
unfolding written
constant_written v = refl

pub literal_again : {ts : List Terminal} {e : Expr} → LiteralOf ts e → Told ts → LiteralOf (written terminal Sum e) e
unfolding written
literal_again (number p) h = number (signed_again p h)
literal_again (complex {v = v} {w = w} {ts = ts} {a = a} {o = o} t p i q j) h =
    let s : LiteralOf (written terminal Sum a ++ (t ∷ (Number w ∷ []))) (Trees.BinOp a o (Trees.Constant w)) =
    complex t (signed_again p (told_front ts (t ∷ (Number w ∷ [])) h)) i q j in
    let c : written terminal Term (Trees.Constant w) ≡ Number w ∷ [] = constant_written w ∙ ap (λ t. t ∷ []) (imaginary_written w j) in
    subst (λ us. LiteralOf us (Trees.BinOp a o (Trees.Constant w)))
    (sym (sum_written terminal t o q a (Trees.Constant w) ∙ ap (λ us. written terminal Sum a ++ (t ∷ us)) c)) s
literal_again (strings {v = v} {w = w} vs q) h =
    subst (λ t. LiteralOf (t ∷ []) (Trees.Constant w)) (sym (string_written w (string_joined v w vs q (told_first h)))) (strings [] refl)
literal_again (joined_string {u = u} {ps = ps} p b f) h =
    let j = joined_again (literals p) b f Sum in
    subst (λ z. LiteralOf (written terminal Sum (Trees.JoinedStr (values_of u (merged ps)))) (Trees.JoinedStr z)) j.values
    (joined_string j.literals j.begins j.formatted)

pub literal_short : {ts : List Terminal} {e : Expr} → LiteralOf ts e → AtLeast (written one Sum e) ts
unfolding written
literal_short (number p) = signed_short p
literal_short (complex {w = w} {ts = ts} {a = a} {o = o} t p i q j) =
    subst (λ z. AtLeast z (ts ++ (t ∷ (Number w ∷ [])))) (sym (sum_written one t o q a (Trees.Constant w)))
    (both (signed_short p) (token (sum_plain t o q) (token refl none)))
literal_short (strings {v = v} vs q) = strings_short v vs
literal_short (joined_string p b f) = joined_short (literals p) b f Sum

-- ---- Names with points.

dotted_again : {f : Identifier} {ts : List Terminal} {e : Expr} → Dotted f ts e → Dotted f (written terminal Primary e) e
unfolding written fit reaches leads
dotted_again first_name = first_name
dotted_again (dot_name x p) = dot_name _ (dotted_again p)

dotted_short : {f : Identifier} {ts : List Terminal} {e : Expr} → Dotted f ts e → AtLeast (written one Primary e) ts
unfolding written fit reaches leads
dotted_short first_name = token refl none
dotted_short (dot_name x p) = both (dotted_short p) (token refl (token refl none))

pub class_again : {ts : List Terminal} {e : Expr} → ClassOf ts e → ClassOf (written terminal Primary e) e
class_again (class_name p h) = class_name (dotted_again p) h

pub class_short : {ts : List Terminal} {e : Expr} → ClassOf ts e → AtLeast (written one Primary e) ts
class_short (class_name p h) = dotted_short p

-- at Sum as at Primary
pub attribute_written : {A : Type 0} (make : Maker A) (e : Expr) (x : Identifier)
    → written make Sum (Trees.Attribute e x Load) ≡ written make Primary e ++ (tight make Dot ∷ (free make (in_form x) ∷ []))
unfolding written fit reaches leads
attribute_written make e x = refl

-- ---- Keys.

word_written : (t : Terminal) (v : Values.Value) → singleton_word t ≡ Some v → written terminal Sum (Trees.Constant v) ≡ t ∷ []
unfolding written
word_written (Word Key.None) v q = given (λ v. written terminal Sum (Trees.Constant v) ≡ Word Key.None ∷ []) q refl
word_written (Word Key.True) v q = given (λ v. written terminal Sum (Trees.Constant v) ≡ Word Key.True ∷ []) q refl
word_written (Word Key.False) v q = given (λ v. written terminal Sum (Trees.Constant v) ≡ Word Key.False ∷ []) q refl
word_written _ v q = absurd (cc)

pub singleton_plain : (t : Terminal) (v : Values.Value) → singleton_word t ≡ Some v → is_plain t ≡ true
singleton_plain (Word k) v q = refl
singleton_plain _ v q = absurd (cc)

pub key_again : {ts : List Terminal} {e : Expr} → KeyOf ts e → Told ts → KeyOf (written terminal Sum e) e
key_again (literal_key p) h = literal_key (literal_again p h)
key_again (singleton_key {t = t} {v = v} q) h = subst (λ us. KeyOf us (Trees.Constant v)) (sym (word_written t v q)) (singleton_key q)
key_again (name_key {e = e} x p) h =
    subst (λ us. KeyOf us (Trees.Attribute e x.form Load)) (sym (attribute_written terminal e x.form)) (name_key _ (dotted_again p))

pub key_short : {ts : List Terminal} {e : Expr} → KeyOf ts e → AtLeast (written one Sum e) ts
unfolding written
key_short (literal_key p) = literal_short p
key_short (singleton_key {t = t} {v = v} q) = token (singleton_plain t v q) none
key_short (name_key {ts = ts} {e = e} x p) =
    subst (λ z. AtLeast z (ts ++ (Op Dot ∷ (Ident x ∷ [])))) (sym (attribute_written one e x.form))
    (both (dotted_short p) (token refl (token refl none)))
