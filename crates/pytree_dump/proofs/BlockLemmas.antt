-- What blocks, handlers and cases show.
--
-- Carries: the nodes of statements, the cycle of statements.
use Rattle.std.proofs.Common.{◌≡◌, List, [], ◌∷◌, codes, length, refl, ap, sym, ◌∙◌, map}
use Rattle.std.proofs.lemmas.List.{length-map}
use Rattle.pytree_node.specs.declared.profiles.Profile.{Profile}
use Rattle.pytree_node.specs.declared.statements.Case as given_case
use Rattle.pytree_node.specs.declared.statements.Handler as given_handler
use Rattle.pytree_node.specs.declared.statements.Stmt as given_stmt
use Rattle.pytree_node.specs.Trees
use Rattle.pytree_node.specs.Trees.{stmts, cases, handlers}
use Rattle.pytree_node.specs.TreeOf.{case_of, handler_of, option_of, pattern_of, stmt_of}
use Rattle.pytree_node.proofs.Callers.StmtShapes.{case_tree, handler_tree}
use Rattle.pytree_dump_text.specs.Shows.{Row, a_shown, a_field, no_field, expr_field, name_field, showns}
use Rattle.pytree_dump_text.specs.Shows.{shown_stmt, shown_stmts, shown_cases, shown_handlers, shown_pattern}
use Rattle.pytree_dump_text.specs.Blocks.{shown_block, shown_case, shown_handler}
use Rattle.pytree_dump.specs.declared.branches.Branches.{Branches}
use Rattle.pytree_dump.specs.declared.branches.Branches.TheVariants as branches
use Rattle.pytree_dump.specs.Inner.Branches.{branches_len, branches_shown}

pub stmts_row : (p : Profile) (ss : List given_stmt.Stmt) → shown_stmts p (stmts (map stmt_of ss)) ≡ showns
    (map (λ s. shown_stmt p (stmt_of s)) ss)
stmts_row p [] = refl
stmts_row p (s ∷ ss) = ap (λ z. a_shown (shown_stmt p (stmt_of s)) z) (stmts_row p ss)

pub handlers_row : (p : Profile) (hs : List given_handler.Handler) → shown_handlers p (handlers (map handler_of hs)) ≡ showns
    (map (λ h. shown_handler p (handler_of h)) hs)
handlers_row p [] = refl
handlers_row p (h ∷ hs) = ap (λ z. a_shown (shown_handler p (handler_of h)) z) (handlers_row p hs)

pub cases_row : (p : Profile) (cs : List given_case.Case) → shown_cases p (cases (map case_of cs)) ≡ showns
    (map (λ c. shown_case p (case_of c)) cs)
cases_row p [] = refl
cases_row p (c ∷ cs) = ap (λ z. a_shown (shown_case p (case_of c)) z) (cases_row p cs)

-- a handler of the program, by its fields
pub handler_shows : (p : Profile) (h : given_handler.Handler) (body : List given_stmt.Stmt)
    → body ≡ (given_handler.out-Handler h).body.items →
    expr_field (codes "type") (option_of (given_handler.out-Handler h).class)
    (name_field (codes "name") (given_handler.out-Handler h).name (a_field (codes "body") (shown_block p body) no_field))
    ≡ expr_field (codes "type") (handler_of h).class
    (name_field (codes "name") (handler_of h).name (a_field (codes "body") (Row (shown_stmts p (stmts (handler_of h).body))) no_field))
handler_shows p h body same =
    (λ i. expr_field (codes "type") (option_of (given_handler.out-Handler h).class)
    (name_field (codes "name") (given_handler.out-Handler h).name (a_field (codes "body") (shown_block p (same i)) no_field)))
    ∙ (λ i. expr_field (codes "type") (option_of (given_handler.out-Handler h).class)
    (name_field (codes "name") (given_handler.out-Handler h).name
    (a_field (codes "body") (Row (sym (stmts_row p (given_handler.out-Handler h).body.items) i)) no_field)))
    ∙ ap (λ (t : Trees.Handler). expr_field (codes "type") t.class
    (name_field (codes "name") t.name (a_field (codes "body") (Row (shown_stmts p (stmts t.body))) no_field))) (sym (handler_tree h))

-- a case of the program, by its fields
pub case_shows : (p : Profile) (c : given_case.Case) (body : List given_stmt.Stmt) → body ≡ (given_case.out-Case c).body.items →
    a_field (codes "pattern") (shown_pattern (pattern_of (given_case.out-Case c).pattern))
    (expr_field (codes "guard") (option_of (given_case.out-Case c).guard) (a_field (codes "body") (shown_block p body) no_field))
    ≡ a_field (codes "pattern") (shown_pattern (case_of c).pattern)
    (expr_field (codes "guard") (case_of c).guard (a_field (codes "body") (Row (shown_stmts p (stmts (case_of c).body))) no_field))
case_shows p c body same =
    (λ i. a_field (codes "pattern") (shown_pattern (pattern_of (given_case.out-Case c).pattern))
    (expr_field (codes "guard") (option_of (given_case.out-Case c).guard) (a_field (codes "body") (shown_block p (same i)) no_field)))
    ∙ (λ i. a_field (codes "pattern") (shown_pattern (pattern_of (given_case.out-Case c).pattern))
    (expr_field (codes "guard") (option_of (given_case.out-Case c).guard)
    (a_field (codes "body") (Row (sym (stmts_row p (given_case.out-Case c).body.items) i)) no_field)))
    ∙ ap (λ (t : Trees.Case). a_field (codes "pattern") (shown_pattern t.pattern)
    (expr_field (codes "guard") t.guard (a_field (codes "body") (Row (shown_stmts p (stmts t.body))) no_field))) (sym (case_tree c))

-- how long a list is
pub branches_count : (p : Profile) (xs : Branches) → length (branches_shown p xs) ≡ branches_len xs
branches_count p (branches.Stmts xs) = length-map xs.now (λ s. shown_stmt p (stmt_of s))
branches_count p (branches.Handlers xs) = length-map xs.now (λ h. shown_handler p (handler_of h))
branches_count p (branches.Cases xs) = length-map xs.now (λ c. shown_case p (case_of c))
