-- The pieces of a dump, put together.
--
-- Carries: PlacedPieces::new.
use Rattle.std.proofs.Common.{◌≡◌, ℕ, ◌+◌, ◌++◌, List, [], ◌∷◌, Bool, true, false, codes, refl, ap, sym, ◌∙◌, ◌||◌, map, length, arith}
use Rattle.std.specs.List.{concat}
use Rattle.std.proofs.lemmas.List.{append-nil, append_assoc}
use Rattle.pytree_node.specs.declared.statements.Stmt.{Stmt}
use Rattle.pytree_node.specs.TreeOf.{stmt_of}
use Rattle.pytree_dump_text.specs.Blocks.{shown_block}
use Rattle.pytree_dump_text.specs.declared.styles.Style.{Style}
use Rattle.pytree_dump_text.specs.Shows.{Shown, Showns, Fields, Row, a_field, no_field, no_shown, showns, shown_module, shown_stmt}
use Rattle.pytree_dump_text.specs.Layout.{before, deeper, dump_text, fields, is_flat, is_short, label, members, text}
use Rattle.pytree_marked.specs.MarkedNodes.{Attributes, Placed, rows_with, with_places}
use Rattle.pytree_dump.specs.Inner.Pieces.{statement_pieces}
use Rattle.pytree_dump.proofs.PlaceLemmas.{module_line, module_text}
use Rattle.pytree_dump.proofs.TextLemmas.{node_shown}

-- all of the statements
statements_whole : (s : Style) (f : List ℕ) (first : Bool) (end : List ℕ) (body : List Stmt) (ps : List Attributes) →
    concat (statement_pieces s f first end body ps)
    ≡ members s f first (rows_with ps (showns (map (λ x. shown_stmt s.profile (stmt_of x)) body))).shown ++ end
statements_whole s f first end [] ps = append-nil end
statements_whole s f first end (x ∷ xs) ps =
    let one : Placed Shown = with_places ps (shown_stmt s.profile (stmt_of x)) in
    ap (λ z. (before (is_flat s.indent) f first ++ text s f one.shown) ++ z) (statements_whole s f false end xs one.left)
    ∙ simp append_assoc refl

-- the pieces of a module are its dump text
pub module_pieces : (s : Style) (ps : List Attributes) {f0 f1 g1 f2 f3 b0 b1 b2 b3 e0 e1 : List ℕ} (e2 : List ℕ) {e3 : List ℕ} {line : Bool}
    (body items : List Stmt) →
    body ≡ items → b0 ≡ [] → e0 ≡ [] → f0 ≡ codes "\n" →
    line ≡ (is_flat s.indent || is_short (a_field (codes "body") (shown_block s.profile body)
    (a_field (codes "type_ignores") (Row no_shown) no_field))) →
    b1 ≡ b0 ++ codes "Module(" → f1 ≡ deeper s.indent f0 → g1 ≡ f1 → b2 ≡ b1 ++ before line g1 true ++ label s.names (codes "body") →
    e1 ≡ e0 ++ codes "]" → e2 ++ [] ≡ e1 ++ fields s f1 line s.names false (a_field (codes "type_ignores") (Row no_shown) no_field)
    → f2 ≡ f1 →
    e3 ≡ e2 ++ codes ")" → b3 ≡ b2 ++ codes "[" → f3 ≡ deeper s.indent f2 →
    concat (b3 ∷ statement_pieces s f3 true e3 body ps)
    ≡ dump_text s (with_places ps (shown_module s.profile (record { body = map stmt_of items }))).shown
module_pieces s ps {f0} {f1} {g1} {f2} {f3} {b0} {b1} {b2} {b3} {e0} {e1} e2 {e3} {line} body items same none_begun none_ended
    top is_line hb1 hf1 hg1 hb2
    he1 he2 hf2 he3 hb3 hf3 =
    let following : Fields = a_field (codes "type_ignores") (Row no_shown) no_field in
    let rows : Showns = (rows_with ps (showns (map (λ x. shown_stmt s.profile (stmt_of x)) body))).shown in
    let all : Fields = a_field (codes "body") (Row rows) following in
    let begun : b3 ≡ (b1 ++ before line f1 true ++ label s.names (codes "body")) ++ codes "[" =
    hb3 ∙ ap (λ z. z ++ codes "[") (hb2 ∙ (λ i. b1 ++ before line (hg1 i) true ++ label s.names (codes "body"))) in
    let ended : e3 ≡ (codes "]" ++ fields s f1 line s.names false following) ++ codes ")" =
    he3 ∙ ap (λ z. z ++ codes ")") (sym (append-nil e2) ∙ he2 ∙ ap (λ z. z ++ fields s f1 line s.names false following) (he1
    ∙ ap (λ z. z ++ codes "]") none_ended)) in
    let deep : f3 ≡ deeper s.indent f1 = hf3 ∙ ap (deeper s.indent) hf2 in
    let xs : List ℕ = members s (deeper s.indent f1) true rows in
    let put : concat (b3 ∷ statement_pieces s f3 true e3 body ps) ≡
    ((b1 ++ before line f1 true ++ label s.names (codes "body")) ++ codes "[")
    ++ (xs ++ ((codes "]" ++ fields s f1 line s.names false following) ++ codes ")")) =
    ap (λ z. b3 ++ z) (statements_whole s f3 true e3 body ps) ∙ (λ i. begun i ++ (members s (deep i) true rows ++ ended i)) in
    let whole : concat (b3 ∷ statement_pieces s f3 true e3 body ps) ≡ (b1 ++ fields s f1 line s.names true all) ++ codes ")" = put
    ∙ simp append_assoc refl in
    let one_line = module_line (is_flat s.indent) line ps s.profile body is_line in
    module_text s f0 b0 _ ps _ body items same none_begun top
    (node_shown s f0 f1 (codes "Module(") all b0 b1 (b1 ++ fields s f1 line s.names true all) _ line hf1 one_line hb1 refl whole, refl)

-- a piece for each statement, and one after them
pub statement_count : (s : Style) (f : List ℕ) (first : Bool) (end : List ℕ) (body : List Stmt) (ps : List Attributes)
    → length (statement_pieces s f first end body ps) ≡ length body + 1
statement_count s f first end [] ps = refl
statement_count s f first end (x ∷ xs) ps =
    let rest = statement_count s f false end xs (with_places ps (shown_stmt s.profile (stmt_of x))).left in omega (arith, rest)
