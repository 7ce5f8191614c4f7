-- Strings as values: literals and f-strings are read as the atom that they are.
--
-- Carries: read_literal, literal_pattern. On: Capped, PatternReader.
use Rattle.std.proofs.Common.{◌≡◌, refl, ap, sym, ◌∙◌, arith, ℕ, zero, suc, ◌+◌, ◌-◌, ◌<◌, List, [], ◌∷◌, Bool, true, false, cond, leb}
use Rattle.std.proofs.Common.{Result}
use Rattle.std.proofs.lemmas.Bool.{leb-false}
use Rattle.pylex_lexeme.specs.declared.kinds.Exact.TheVariants.{Minus}
use Rattle.pytree_node.specs.Trees.{Expr, MatchValue, Pattern}
use Rattle.pytree_node.specs.TreeOf.{tree_of}
use Rattle.pytree_height.specs.Heights.{height, pattern_height}
use Rattle.pytoken.specs.Terminals.{Terminal, Op, Number, Literal, FormattedBegin}
use Rattle.pytoken.specs.declared.values.terminals.Terminal as given
use Rattle.pygrammar.specs.declared.levels.Level.TheVariants.{Atom}
use Rattle.pygrammar.specs.Capped.{cap, capped}
use Rattle.pygrammar.specs.PatternReader.{cap_pattern, cap_value, literal_or}
use Rattle.pygrammar.specs.Reader.{Answer, Found, NoForm, TooDeep, Reads, and_then}
use Rattle.pygrammar.proofs.Callers.Steps.{unroll_capped}
use Rattle.pyparse_nodes.specs.declared.found.Read.{Read}
use Rattle.pyparse_nodes.specs.declared.stop.Stop.{Stop}
use Rattle.pyparse_nodes.specs.declared.stop.Stop.TheVariants as stop
use Rattle.pyparse_nodes.specs.Answers.{Answered, Failed, FoundAt}
use Rattle.pyparse_nodes.specs.Views.{seen}
use Rattle.pyparse_reads.specs.Readings as expressions
use Rattle.pyparse_reads.specs.Readings.{IsOpen}
use Rattle.pyparse_reads.specs.declared.depth.Depth.{Depth}
use Rattle.pyparse_pattern.specs.declared.found.ReadPattern.{ReadPattern}
use Rattle.pyparse_pattern.specs.Answers.{PatternAnswered}
use Rattle.pyparse_pattern.specs.Inner.Made.{MakesPattern}
use Rattle.pyparse_pattern.specs.Inner.Readings.{field_reads, literal_reads}
use Rattle.pyparse_pattern.specs.Inner.Values.{numbers, starts_string}
use Rattle.pyparse_pattern.proofs.Caps.{uncapped}
use Rattle.pyparse_pattern.proofs.LevelSteps.{cap_high, node}

-- ---- The atom.

caps_agree : (room : ℕ) (x : Answer Expr) → cap room x ≡ cap_value room x
caps_agree room (Found e r) = refl
caps_agree room NoForm = refl
caps_agree room TooDeep = refl

opened : (g n : ℕ) (i : List Terminal) → starts_string i ≡ true
    → capped (suc g) (suc n) Atom i ≡ cap (suc n) (literal_or (capped g n) i NoForm)
opened g n [] h = absurd (cc)
opened g n (Literal v ∷ r) h = unroll_capped g n Atom (Literal v ∷ r)
opened g n (FormattedBegin ∷ r) h = unroll_capped g n Atom (FormattedBegin ∷ r)
opened g n (t ∷ r) h = absurd (cc)

string_is : (s room : ℕ) (i : List Terminal) → 0 < s → 0 < room → starts_string i ≡ true
    → capped s room Atom i ≡ cap room (literal_or (capped (s - 1) (room - 1)) i NoForm)
string_is zero room i p q h = absurd (omega arith)
string_is (suc g) zero i p q h = absurd (omega arith)
string_is (suc g) (suc n) i p q h = go (suc g - 1) (suc n - 1) (omega arith) (omega arith)
  where
    go : (a b : ℕ) → a ≡ g → b ≡ n → capped (suc g) (suc n) Atom i ≡ cap (suc n) (literal_or (capped a b) i NoForm)
    go a b u v = rw (u, v) (opened g n i h)

pub strings_read : (ts : List given.Terminal) (d : Depth) (at : ℕ) (z : Result Read Stop) → IsOpen d → true ≡ starts_string (seen ts at)
    → Answered ts d.room (at + 1) (expressions.reads d Atom (seen ts at)) z
    → Answered ts d.room (at + 1) (cap_value d.room (literal_or (field_reads d) (seen ts at) NoForm)) z
strings_read ts d at z o h a =
    let e : expressions.reads d Atom (seen ts at) ≡ cap_value d.room (literal_or (field_reads d) (seen ts at) NoForm) =
    string_is d.steps d.room (seen ts at) o.steps o.room (sym h) ∙ caps_agree d.room (literal_or (field_reads d) (seen ts at) NoForm) in
    rw (← e) a

-- ---- Any other literal is a number.

number_is : (self : Reads) (i : List Terminal) → false ≡ starts_string i → literal_or self i NoForm ≡ numbers i
number_is self [] h = refl
number_is self (Literal v ∷ i) h = absurd (cc)
number_is self (FormattedBegin ∷ i) h = absurd (cc)
number_is self (Number v ∷ i) h = refl
number_is self (Op Minus ∷ i) h = refl
number_is self (Op s ∷ i) h = refl
number_is self (t ∷ i) h = refl

pub number_read : (ts : List given.Terminal) (d : Depth) (at : ℕ) (z : Result Read Stop) → false ≡ starts_string (seen ts at)
    → Answered ts d.room (at + 1) (cap_value d.room (numbers (seen ts at))) z
    → Answered ts d.room (at + 1) (cap_value d.room (literal_or (field_reads d) (seen ts at) NoForm)) z
number_read ts d at z h a = rw (number_is (field_reads d) (seen ts at) h) a

-- ---- The pattern of a literal, which is one higher.

abbrev valued : ℕ → Answer Expr → Answer Pattern
valued room x = cap_pattern room (and_then x (λ e r. Found (MatchValue e) r))

valued_failed : (room : ℕ) (s : Stop) (x : Answer Expr) → Failed s (cap_value room x) → Failed s (valued room x)
valued_failed room stop.NoForm (Found e r) h = by_height (leb (height e) room) h
  where
    by_height : (b : Bool) → cond b (Found e r) TooDeep ≡ NoForm → valued room (Found e r) ≡ NoForm
    by_height true q = absurd (cc)
    by_height false q = absurd (cc)
valued_failed room stop.NoForm NoForm h = refl
valued_failed room stop.NoForm TooDeep h = absurd (cc)
valued_failed room stop.TooDeep (Found e r) h = cap_high room (MatchValue e) r (higher (leb (height e) room) refl h)
  where
    higher : (b : Bool) → leb (height e) room ≡ b → cond b (Found e r) TooDeep ≡ TooDeep → room < pattern_height (MatchValue e)
    higher true p q = absurd (cc)
    higher false p q = omega (arith, leb-false (height e) room p)
valued_failed room stop.TooDeep NoForm h = absurd (cc)
valued_failed room stop.TooDeep TooDeep h = refl
valued_failed room stop.Memory x h = tt

pub value_failed : (d : Depth) (i : List Terminal) (s : Stop) → Failed s (cap_value d.room (literal_or (field_reads d) i NoForm))
    → Failed s (cap_pattern d.room (literal_reads d i))
value_failed d i s h = valued_failed d.room s (literal_or (field_reads d) i NoForm) h

pub value_read : (ts : List given.Terminal) (d : Depth) (at : ℕ) (e : Read) (z : Result ReadPattern Stop)
    → FoundAt ts d.room (at + 1) (cap_value d.room (literal_or (field_reads d) (seen ts at) NoForm)) e
    → MakesPattern d.room (MatchValue (tree_of e.expr.value)) e.next z
    → PatternAnswered ts d.room (at + 1) (cap_pattern d.room (literal_reads d (seen ts at))) z
value_read ts d at e z f m =
    let q : literal_or (field_reads d) (seen ts at) NoForm ≡ Found (tree_of e.expr.value) (seen ts e.next) =
    uncapped d.room (literal_or (field_reads d) (seen ts at) NoForm) (tree_of e.expr.value) (seen ts e.next) f.is in
    let g : literal_reads d (seen ts at) ≡ Found (MatchValue (tree_of e.expr.value)) (seen ts e.next) =
    ap (λ x. and_then x (λ v r. Found (MatchValue v) r)) q in
    rw g (node ts d.room (at + 1) (MatchValue (tree_of e.expr.value)) e.next f.ahead f.within z m)
