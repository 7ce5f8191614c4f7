-- Literals, names with dots and keys of patterns.
--
-- Carries: literal_reads, dotted_reads, dotted_front, dotted_end, key_reads, for PatternForms, Patterns. On: PatternLooks, StringForms.
use Rattle.std.proofs.Common.{◌≡◌, refl, sym, ap, ◌∙◌, ℕ, ◌+◌, ◌≤◌, arith, List, [], ◌∷◌, ◌++◌, length, append_assoc, length-append}
use Rattle.std.proofs.Common.{Some, Bool, true}
use Rattle.pylex_lexeme.specs.declared.kinds.Exact.TheVariants.{Colon, Dot}
use Rattle.pytree_node.specs.Trees.{Expr, Identifier}
use Rattle.pytree_node.specs.Values
use Rattle.pytoken.specs.Terminals.{Spelled, Terminal, Op, Word, Ident, Number}
use Rattle.pygrammar.specs.FormattedStrings.{StringPart, has_formatted}
use Rattle.pygrammar.specs.PatternOperators.{singleton_word}
use Rattle.pygrammar.specs.Grammar as G
use Rattle.pygrammar.specs.PatternGrammar as P
use Rattle.pyplaces.specs.Stretches.{Stretch, over}
use Rattle.pyplaces.specs.ExpressionPlaces.{literals_places}
use Rattle.pyplaces.specs.PatternPlaces.{signed_places, literal_places, dotted_places, key_places}
use Rattle.pyplaces.specs.Inner.Looks.{after, mark, mark_of}
use Rattle.pyplaces.specs.Inner.ExpressionSteps.{Goes}
use Rattle.pyplaces.specs.Inner.AtomSteps.{run}
use Rattle.pyplaces.specs.Inner.PatternSteps.{summed, literal_read, dotted_step, key_read}
use Rattle.pyplaces.specs.Inner.Questions.{Dotted, Ask}
use Rattle.pyplaces.specs.Inner.Steps.{here, on}
use Rattle.pyplaces.proofs.Unique.Leading.{Comes, via, from, to, is_true}
use Rattle.pyplaces.proofs.Unique.Answered.{counted}
use Rattle.pyplaces.proofs.Unique.Operators.{same_true}
use Rattle.pyplaces.proofs.Unique.StringForms.{run_strings, run_joined}
use Rattle.pyplaces.proofs.Unique.Expressions.{literals_all}
use Rattle.pyplaces.proofs.Unique.PatternLooks.{miss_mark, mark_grip, sum_mark}

-- ---- Literals.

signed_read : {v : Values.Value} {ts : List Terminal} {e : Expr} (q : P.SignedNumber v ts e) (at : ℕ) (rest : List Terminal) (k : Goes)
    → literal_read at (ts ++ rest) k ≡ summed (signed_places at q) (length ts) at rest k
signed_read P.unsigned at rest k = refl
signed_read P.negative at rest k = refl

run_read : {u : Bool} {ts : List Terminal} {ps : List StringPart} → G.Literals u ts ps → has_formatted ts ≡ true → (at : ℕ)
    (rest : List Terminal) (k : Goes) → literal_read at (ts ++ rest) k ≡ run at (ts ++ rest) k
run_read G.no_literal h at rest k = absurd (cc)
run_read (G.text_literal l) h at rest k = refl
run_read (G.formatted_literal q l) h at rest k = refl

pub literal_reads : {ts : List Terminal} {e : Expr} (q : P.LiteralOf ts e) (at : ℕ) (rest : List Terminal) (k : Goes) → mark_of rest ≤ 8
    → Comes (literal_read at (ts ++ rest) k) (k (literal_places at q) (length ts) rest)
literal_reads (P.number q) at rest k s = from (signed_read q at rest k) (miss_mark rest 10 _ (λ e. omega (arith, s, e)) here)
literal_reads (P.complex {w = w} {ts = ts} {o = o} t q h i j) at rest k s =
    from (ap (λ z. literal_read at z k) (append_assoc ts (t ∷ (Number w ∷ [])) rest)
    ∙ signed_read q at (t ∷ (Number w ∷ rest)) k) (is_true _ (same_true (mark t) 10 (sum_mark t o i))
    (counted k rest (omega (arith, length-append ts (t ∷ (Number w ∷ []))))))
literal_reads (P.strings {v = v} vs h) at rest k s = run_strings v vs at rest k (mark_grip rest s)
literal_reads (P.joined_string {ts = ts} {ps = ps} c b h) at rest k s = from (run_read c h at rest k)
    (run_joined ts ps (λ row at. literals_places row at c) h (literals_all c) at rest k (mark_grip rest s))

-- ---- Names with dots.

pub dotted_reads : {f : Identifier} {ts : List Terminal} {e : Expr} (q : P.Dotted f ts e) (at : ℕ) (rest : List Terminal) (k : Goes)
    → Comes (Ask (Dotted (over at 1) 1) at (after (ts ++ rest)) k) (Ask (Dotted (dotted_places at q) (length ts)) at rest k)
dotted_reads P.first_name at rest k = here
dotted_reads (P.dot_name {ts = ts} x q) at rest k =
    from (ap (λ z. Ask (Dotted (over at 1) 1) at (after z) k) (append_assoc ts (Op Dot ∷ (Ident x ∷ [])) rest))
    (via (dotted_reads q at (Op Dot ∷ (Ident x ∷ rest)) k)
    (on (to here (ap (λ z. Ask (Dotted (dotted_places at q ++ over at (2 + length ts)) z) at rest k) as_many))))
  where
    as_many : 2 + length ts ≡ length (ts ++ (Op Dot ∷ (Ident x ∷ [])))
    as_many = omega (arith, length-append ts (Op Dot ∷ (Ident x ∷ [])))

-- they begin with a NAME
pub dotted_front : {f : Identifier} {ts : List Terminal} {e : Expr} (q : P.Dotted f ts e) (r : List Terminal)
    → (x : Spelled) × (ts ++ r ≡ Ident x ∷ after (ts ++ r))
dotted_front (P.first_name {x = x}) r = (x, refl)
dotted_front (P.dot_name {ts = ts} y q) r =
    let w = dotted_front q (Op Dot ∷ (Ident y ∷ r)) in
    let e = append_assoc ts (Op Dot ∷ (Ident y ∷ [])) r in
    (w.0, e ∙ w.1 ∙ ap (λ z. Ident w.0 ∷ after z) (sym e))

pub dotted_end : (ps : List Stretch) (n at : ℕ) (r : List Terminal) (k : Goes) → mark_of r ≤ 11 → dotted_step ps n at r k ≡ k ps n r
dotted_end ps n at [] k h = refl
dotted_end ps n at (Op Dot ∷ r) k h = absurd (omega (arith, h))
dotted_end ps n at (Op _ ∷ r) k h = refl
dotted_end ps n at (_ ∷ r) k h = refl

-- ---- Keys.

literal_key_read : {ts : List Terminal} {e : Expr} → P.LiteralOf ts e → (at : ℕ) (r : List Terminal) (k : Goes)
    → key_read at (ts ++ r) k ≡ literal_read at (ts ++ r) k
literal_key_read (P.number P.unsigned) at r k = refl
literal_key_read (P.number P.negative) at r k = refl
literal_key_read (P.complex t P.unsigned h q j) at r k = refl
literal_key_read (P.complex t P.negative h q j) at r k = refl
literal_key_read (P.strings vs h) at r k = refl
literal_key_read (P.joined_string G.no_literal b h) at r k = absurd (cc)
literal_key_read (P.joined_string (G.text_literal l) b h) at r k = refl
literal_key_read (P.joined_string (G.formatted_literal p l) b h) at r k = refl

word_key : (t : Terminal) (v : Values.Value) → singleton_word t ≡ Some v → (at : ℕ) (r : List Terminal) (k : Goes)
    → key_read at (t ∷ r) k ≡ k (over at 1) 1 r
word_key (Word w) v h at r k = refl
word_key (Op _) v h at r k = absurd (cc)
word_key _ v h at r k = absurd (cc)

pub key_reads : {ts : List Terminal} {e : Expr} (q : P.KeyOf ts e) (at : ℕ) (r : List Terminal) (k : Goes)
    → Comes (key_read at (ts ++ (Op Colon ∷ r)) k) (k (key_places at q) (length ts) (Op Colon ∷ r))
key_reads (P.literal_key q) at r k = from (literal_key_read q at (Op Colon ∷ r) k) (literal_reads q at (Op Colon ∷ r) k (omega arith))
key_reads (P.singleton_key {t = t} {v = v} h) at r k = from (word_key t v h at (Op Colon ∷ r) k) here
key_reads (P.name_key {ts = ts} x q) at r k =
    let w = dotted_front (P.dot_name x q) (Op Colon ∷ r) in
    from (ap (λ z. key_read at z k) w.1) (via (dotted_reads (P.dot_name x q) at (Op Colon ∷ r) k)
    (on (from (dotted_end _ _ at (Op Colon ∷ r) k (omega arith)) here)))
