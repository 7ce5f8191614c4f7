-- Carries: the lines of a module, and its blocks.
use Rattle.std.proofs.Common.{◌≡◌, ◌∙◌, ℕ, zero, suc, ◌+◌, ◌-◌, ◌*◌, ◌<◌, ◌≤◌, ◌==◌, Bool, true, false, List, [], ◌∷◌, ◌++◌, map, length}
use Rattle.std.proofs.Common.{drop, get_or, replicate, Option, None, refl, ap, subst, sym, arith, append-nil, append_assoc}
use Rattle.std.specs.Str.{encode_utf8_all}
use Rattle.std.proofs.lemmas.Str.{encodes-append}
use Rattle.std.proofs.lemmas.Bool.{false≢true}
use Rattle.std.proofs.lemmas.List.{drop_all}
use Rattle.pytree_node.specs.declared.statements.Stmt as given_stmt
use Rattle.pytree_node.specs.Trees
use Rattle.pytree_node.specs.Trees.{Arguments, Cases, Expr, Identifier, Keywords, Stmts, TypeParam, stmts}
use Rattle.pytree_node.specs.TreeOf.{stmt_of}
use Rattle.pytoken.proofs.Callers.Bodies.{dropped}
use Rattle.pygrammar.specs.Lines.{Header, class_head, else_header, function_head, if_header, loop_header, match_header, while_head}
use Rattle.pyunparse_text.specs.Spacing.{line_text, lines_text, spaced}
use Rattle.pyunparse_text.specs.Modules.{WrittenLine, alternative, case_lines, clause, decorators, header, line_of, lines_of}
use Rattle.pyunparse_text.specs.Modules.{statement_lines, written_line}
use Rattle.pyunparse_text.specs.Pieces.{Sited, outside, piece}
use Rattle.pyunparse_text.specs.Folds.{puts}
use Rattle.pyunparse.specs.Inner.Lines.{Blocked, Wrote, def_lines, in_utf8, with_colon}
use Rattle.pyunparse_text.specs.Writing.{Writing, after_sited}
use Rattle.pyunparse_text.proofs.Callers.Writing.{both, level_kept, line_written, not_zero, one}

blanks_kept : (n : ℕ) → encode_utf8_all (replicate n 32) ≡ replicate n 32
blanks_kept zero = refl
blanks_kept (suc n) = both (32 ∷ []) (replicate n 32) (one 32 (omega arith)) (blanks_kept n)

-- the bytes of lines
texts_both : (ls ms : List (WrittenLine Sited)) → lines_text (map line_of (ls ++ ms)) ≡ lines_text (map line_of ls) ++
    lines_text (map line_of ms)
texts_both [] ms = refl
texts_both (l ∷ ls) ms = ap (λ z. line_text (line_of l) ++ z) (texts_both ls ms)
    ∙ sym (append_assoc (line_text (line_of l)) (lines_text (map line_of ls)) (lines_text (map line_of ms)))

lines_both : (ls ms : List (WrittenLine Sited)) → in_utf8 (ls ++ ms) ≡ in_utf8 ls ++ in_utf8 ms
lines_both ls ms = ap encode_utf8_all (texts_both ls ms) ∙ encodes-append (lines_text (map line_of ls)) (lines_text (map line_of ms))

-- the bytes of a line's tokens
abbrev token_bytes : List Sited → List ℕ
token_bytes ps = encode_utf8_all (spaced (outside ps))

line_bytes : (l : ℕ) (ps : List Sited) → encode_utf8_all (line_text (line_of (written_line l ps))) ≡ replicate (4 * l) 32 ++
    (token_bytes ps ++ 10 ∷ [])
line_bytes l ps =
    encodes-append (replicate (4 * l) 32) (spaced (outside ps) ++ 10 ∷ [])
    ∙ ap (λ z. z ++ encode_utf8_all (spaced (outside ps) ++ 10 ∷ [])) (blanks_kept (4 * l))
    ∙ ap (λ z. replicate (4 * l) 32 ++ z) (encodes-append (spaced (outside ps)) (10 ∷ [])
    ∙ ap (λ z. token_bytes ps ++ z) (one 10 (omega arith)))

first_line : (l : ℕ) (ps : List Sited) (ls : List (WrittenLine Sited)) → in_utf8 (written_line l ps ∷ ls) ≡ replicate (4 * l) 32 ++
    (token_bytes ps ++ 10 ∷ in_utf8 ls)
first_line l ps ls =
    encodes-append (line_text (line_of (written_line l ps))) (lines_text (map line_of ls))
    ∙ ap (λ z. z ++ in_utf8 ls) (line_bytes l ps)
    ∙ append_assoc (replicate (4 * l) 32) (token_bytes ps ++ 10 ∷ []) (in_utf8 ls)
    ∙ ap (λ z. replicate (4 * l) 32 ++ z) (append_assoc (token_bytes ps) (10 ∷ []) (in_utf8 ls))

-- at the front of a line, and at its end
abbrev pub begun : Writing → Writing
begun w = record { text = w.text ++ replicate (4 * w.level) 32; last = None; level = w.level; in_field = false }

abbrev pub ended : Writing → Writing
ended w = record { text = w.text ++ 10 ∷ []; last = w.last; level = w.level; in_field = w.in_field }

-- a level deeper, and back
abbrev pub indented : Writing → Writing
indented w = record { text = w.text; last = w.last; level = w.level + 1; in_field = w.in_field }

abbrev pub dedented : Writing → Writing
dedented w = record { text = w.text; last = w.last; level = w.level - 1; in_field = w.in_field }

front_text : (u v w : Writing) (ps : List Sited) → v ≡ begun u → w ≡ puts after_sited v ps
    → w.text ≡ u.text ++ (replicate (4 * u.level) 32 ++ token_bytes ps)
front_text u v w ps e f =
    ap (λ z. z.text) (f ∙ ap (λ z. puts after_sited z ps) e)
    ∙ line_written (begun u) ps refl
    ∙ append_assoc u.text (replicate (4 * u.level) 32) (token_bytes ps)

front_level : (u v w : Writing) (ps : List Sited) → v ≡ begun u → w ≡ puts after_sited v ps → w.level ≡ u.level
front_level u v w ps e f = ap (λ z. z.level) (f ∙ ap (λ z. puts after_sited z ps) e) ∙ level_kept (begun u) ps

joined : (u : Writing) (ps : List Sited) (ls : List (WrittenLine Sited)) →
    (u.text ++ (replicate (4 * u.level) 32 ++ token_bytes ps)) ++ 10 ∷ in_utf8 ls ≡ u.text ++ in_utf8 (written_line u.level ps ∷ ls)
joined u ps ls =
    append_assoc u.text (replicate (4 * u.level) 32 ++ token_bytes ps) (10 ∷ in_utf8 ls)
    ∙ ap (λ z. u.text ++ z) (append_assoc (replicate (4 * u.level) 32) (token_bytes ps) (10 ∷ in_utf8 ls) ∙ sym (first_line u.level ps ls))

-- a line of tokens alone
pub whole_line : (u v w x : Writing) (ps : List Sited) → v ≡ begun u → w ≡ puts after_sited v ps → x ≡ ended w
    → Wrote u x (written_line u.level ps ∷ [])
whole_line u v w x ps e f g = record {
  text = ap (λ z. z.text) g ∙ ap (λ z. z ++ 10 ∷ []) (front_text u v w ps e f) ∙ joined u ps [];
  level = ap (λ z. z.level) g ∙ front_level u v w ps e f;
}

-- a header and its block, whose lines are told by the level
pub header_block : (u v w x : Writing) (h : Header) (F : ℕ → List (WrittenLine Sited)) → v ≡ begun u
    → w ≡ puts after_sited v (with_colon h) →
    Blocked w x (F w.level) → Wrote u x (header piece u.level h ∷ F u.level)
header_block u v w x h F e f b =
    let same : w.level ≡ u.level = front_level u v w (with_colon h) e f in
    record {
      text = b.text ∙ ap (λ n. w.text ++ 10 ∷ in_utf8 (F n)) same
          ∙ ap (λ z. z ++ 10 ∷ in_utf8 (F u.level)) (front_text u v w (with_colon h) e f) ∙ joined u (with_colon h) (F u.level);
      level = b.level ∙ same;
    }

-- lines after lines
pub wrote_none : (u : Writing) → Wrote u u []
wrote_none u = record { text = sym (append-nil u.text); level = refl }

pub wrote_as : {u v : Writing} {ls ms : List (WrittenLine Sited)} → ls ≡ ms → Wrote u v ls → Wrote u v ms
wrote_as {u} {v} e w = subst (Wrote u v) e w

pub wrote_then : (u v w : Writing) (ls : List (WrittenLine Sited)) (F : ℕ → List (WrittenLine Sited)) → Wrote u v ls → Wrote v w (F v.level)
    → Wrote u w (ls ++ F u.level)
wrote_then u v w ls F a b = record {
  text =
      b.text ∙ ap (λ n. v.text ++ in_utf8 (F n)) a.level ∙ ap (λ z. z ++ in_utf8 (F u.level)) a.text
      ∙ append_assoc u.text (in_utf8 ls) (in_utf8 (F u.level)) ∙ ap (λ z. u.text ++ z) (sym (lines_both ls (F u.level)));
  level = b.level ∙ a.level;
}

-- a block, a level deeper
pub block_wrote : (u v w x y : Writing) (F : ℕ → List (WrittenLine Sited)) →
    v ≡ ended u → w ≡ indented v → Wrote w x (F w.level) → y ≡ dedented x →
    Blocked u y (F (suc u.level))
block_wrote u v w x y F e f a g =
    let next : u.level + 1 ≡ suc u.level = omega arith in
    let above : w.level ≡ u.level + 1 = ap (λ z. z.level) f ∙ ap (λ z. z.level + 1) e in
    let lower : u.level + 1 - 1 ≡ u.level = omega arith in
    record {
      text =
          ap (λ z. z.text) g ∙ a.text ∙ ap (λ n. w.text ++ in_utf8 (F n)) (above ∙ next)
          ∙ ap (λ z. z ++ in_utf8 (F (suc u.level))) (ap (λ z. z.text) f ∙ ap (λ z. z.text) e)
          ∙ append_assoc u.text (10 ∷ []) (in_utf8 (F (suc u.level)));
      level = ap (λ z. z.level) g ∙ ap (λ n. n - 1) (a.level ∙ above) ∙ lower;
    }

pub deeper : (u v w x : Writing) (ls : List (WrittenLine Sited)) →
    v ≡ ended u → w ≡ indented v → Wrote w x ls → 0 < x.level
deeper u v w x ls e f a =
    let at : x.level ≡ u.level + 1 = a.level ∙ ap (λ z. z.level) f ∙ ap (λ z. z.level + 1) e in omega (arith, at)

-- one item more of a list that is written on lines
module _ {X : Type 0} (base v : Writing) (F : ℕ → List X → List (WrittenLine Sited)) where
  pub line_on : (g : ℕ → X → List (WrittenLine Sited)) → ((l : ℕ) (x : X) (xs : List X) → F l (x ∷ xs) ≡ g l x ++ F l xs)
      → (xs : List X) (i : ℕ) (x : X) (w : Writing) (l : ℕ) →
      i < length xs → x ≡ get_or xs i x → v.level ≡ l → v.text ++ in_utf8 (F l (drop i xs)) ≡ base.text ++ in_utf8 (F l xs)
      → Wrote v w (g v.level x) →
      w.text ++ in_utf8 (F l (drop (i + 1) xs)) ≡ base.text ++ in_utf8 (F l xs)
  line_on g cons xs i x w l lt read at so_far a =
      let rest : List (WrittenLine Sited) = F l (drop (i + 1) xs) in
      ap (λ z. z ++ in_utf8 rest) (a.text ∙ ap (λ n. v.text ++ in_utf8 (g n x)) at)
      ∙ append_assoc v.text (in_utf8 (g l x)) (in_utf8 rest)
      ∙ ap (λ z. v.text ++ z) (sym (ap in_utf8 (ap (F l) (dropped xs i x lt read) ∙ cons l x (drop (i + 1) xs)) ∙ lines_both (g l x) rest))
      ∙ so_far

  pub all_lines : (l : ℕ) → F l [] ≡ [] → (xs : List X) (i : ℕ) → length xs ≤ i → v.text ++ in_utf8 (F l (drop i xs)) ≡ base.text ++ in_utf8
      (F l xs) → v.text ≡ base.text ++ in_utf8 (F l xs)
  all_lines l nil xs i h so_far = sym (ap (λ z. v.text ++ in_utf8 z) (ap (F l) (drop_all i xs h) ∙ nil) ∙ append-nil v.text) ∙ so_far

-- a clause of no statements, and of some
pub no_clause : (l : ℕ) (h : Header) (ss : List given_stmt.Stmt) (b : Bool) → b ≡ (length ss == 0) → b ≡ true
    → [] ≡ clause piece l h (stmts (map stmt_of ss))
unfolding lines_of
no_clause l h [] b e f = refl
no_clause l h (s ∷ ss) b e f = absurd (false≢true (sym (not_zero (length ss)) ∙ sym e ∙ f))

pub some_clause : (l : ℕ) (h : Header) (ss : List given_stmt.Stmt) (b : Bool) → b ≡ (length ss == 0) → b ≡ false →
    header piece l h ∷ lines_of piece (suc l) (stmts (map stmt_of ss)) ≡ clause piece l h (stmts (map stmt_of ss))
unfolding lines_of
some_clause l h [] b e f = absurd (false≢true (sym f ∙ e))
some_clause l h (s ∷ ss) b e f = refl

-- the lines of a statement, from those of its parts
pub if_lines : (l : ℕ) (e : Expr) (body orelse : Stmts)
    → header piece l (if_header e) ∷ (lines_of piece (suc l) body ++ alternative piece l orelse) ≡ statement_lines piece l
    (Trees.If e body orelse)
unfolding lines_of
if_lines l e body orelse = refl

pub while_lines : (l : ℕ) (e : Expr) (body orelse : Stmts) →
    header piece l (loop_header (while_head e)) ∷ (lines_of piece (suc l) body ++ clause piece l else_header orelse) ≡ statement_lines piece
    l (Trees.While e body orelse)
unfolding lines_of
while_lines l e body orelse = refl

pub function_lines : (l : ℕ) (x : Identifier) (a : Arguments) (body : Stmts) (ds : List Expr) (r : Option Expr) (ps : List TypeParam) →
    decorators piece l ds ++ def_lines l (function_head false x ps a r) body ≡ statement_lines piece l (Trees.FunctionDef x a body ds r ps)
unfolding lines_of
function_lines l x a body ds r ps = refl

pub async_function_lines : (l : ℕ) (x : Identifier) (a : Arguments) (body : Stmts) (ds : List Expr)
    (r : Option Expr) (ps : List TypeParam) →
    decorators piece l ds ++ def_lines l (function_head true x ps a r) body ≡ statement_lines piece l
    (Trees.AsyncFunctionDef x a body ds r ps)
unfolding lines_of
async_function_lines l x a body ds r ps = refl

pub class_lines : (l : ℕ) (x : Identifier) (es : List Expr) (ks : Keywords) (body : Stmts) (ds : List Expr) (ps : List TypeParam) →
    decorators piece l ds ++ def_lines l (class_head x ps es ks) body ≡ statement_lines piece l (Trees.ClassDef x es ks body ds ps)
unfolding lines_of
class_lines l x es ks body ds ps = refl

pub match_lines : (l : ℕ) (e : Expr) (cs : Cases) → header piece l (match_header e) ∷ case_lines piece (suc l) cs ≡ statement_lines
    piece l (Trees.Match e cs)
unfolding lines_of
match_lines l e cs = refl
