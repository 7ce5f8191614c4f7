-- What the parts of statements and patterns show.
use Rattle.std.specs.Prelude.{Bool, true, List, map, codes, Option, Some, None}
use Rattle.pytree_node.specs.declared.patterns.Pattern as given_pattern
use Rattle.pytree_node.specs.declared.profiles.Profile.{Profile}
use Rattle.pytree_node.specs.declared.statements.Case as given_case
use Rattle.pytree_node.specs.declared.statements.Handler as given_handler
use Rattle.pytree_node.specs.declared.statements.Stmt as given_stmt
use Rattle.pytree_node.specs.Trees
use Rattle.pytree_node.specs.Trees.{stmts}
use Rattle.pytree_node.specs.TreeOf.{case_of, handler_of, pattern_of, stmt_of}
use Rattle.pytree_dump_text.specs.Shows.{Shown, Row, Node, a_field, no_field, expr_field, name_field, shown, showns, shown_pattern}
use Rattle.pytree_dump_text.specs.Shows.{shown_stmt, shown_stmts}
use Rattle.pytree_dump_text.specs.Layout.{is_simple}

-- a list of what can be shown
abbrev pub listed : {A : Type 0} → (A → Shown) → List A → Shown
listed f xs = Row (showns (map f xs))

-- a block, as a list
abbrev pub shown_block : Profile → List given_stmt.Stmt → Shown
shown_block p body = Row (showns (map (λ s. shown_stmt p (stmt_of s)) body))

-- a handler alone
abbrev pub shown_handler : Profile → Trees.Handler → Shown
shown_handler p h = Node (codes "ExceptHandler")
    (expr_field (codes "type") h.class
    (name_field (codes "name") h.name (a_field (codes "body") (Row (shown_stmts p (stmts h.body))) no_field)))

-- the handlers of a `try`, as a list
abbrev pub shown_caught : Profile → List given_handler.Handler → Shown
shown_caught p hs = Row (showns (map (λ h. shown_handler p (handler_of h)) hs))

-- some patterns, as a list
abbrev pub shown_pattern_row : List given_pattern.Pattern → Shown
shown_pattern_row ps = Row (showns (map (λ p. shown_pattern (pattern_of p)) ps))

-- a case alone
abbrev pub shown_case : Profile → Trees.Case → Shown
shown_case p c = Node (codes "match_case")
    (a_field (codes "pattern") (shown_pattern c.pattern)
    (expr_field (codes "guard") c.guard (a_field (codes "body") (Row (shown_stmts p (stmts c.body))) no_field)))

-- the cases of a `match`, as a list
abbrev pub shown_matched : Profile → List given_case.Case → Shown
shown_matched p cs = Row (showns (map (λ c. shown_case p (case_of c)) cs))

-- an expression that is absent or simple
abbrev pub bare_option : Option Trees.Expr → Bool
bare_option None = true
bare_option (Some e) = is_simple (shown e)

-- a pattern that is absent or simple
abbrev pub bare_pattern_option : Option Trees.Pattern → Bool
bare_pattern_option None = true
bare_pattern_option (Some p) = is_simple (shown_pattern p)
