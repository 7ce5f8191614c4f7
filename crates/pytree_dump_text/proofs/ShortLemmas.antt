-- Which nodes with blocks, and which patterns, stand on one line.
--
-- Carries: is_short_module, is_short_test, is_short_with, is_short_handler, is_short_match, is_short_case,
-- is_short_patterns, is_short_mapping, is_short_as.
use Rattle.std.proofs.Common.{◌≡◌, List, codes, ◌∙◌, ◌&&◌, length, nat_eq, refl, true, Option, Some, None}
use Rattle.pytree_node.specs.declared.expressions.Expr as given_expr
use Rattle.pytree_node.specs.declared.patterns.Pattern as given_pattern
use Rattle.pytree_node.specs.declared.profiles.Profile.{Profile}
use Rattle.pytree_node.specs.declared.statements.Case as given_case
use Rattle.pytree_node.specs.declared.statements.Item as given_item
use Rattle.pytree_node.specs.declared.statements.Stmt as given_stmt
use Rattle.pytree_node.specs.Trees
use Rattle.pytree_node.specs.Trees.{Identifier, optional_pattern}
use Rattle.pytree_node.specs.TreeOf.{case_of, item_of, pattern_of, stmt_of, tree_of}
use Rattle.pytree_dump_text.specs.Shows.{Shown, Row, a_field, left_out, no_field, no_shown, expr_field, name_field, pattern_field, shown}
use Rattle.pytree_dump_text.specs.Shows.{shown_item, shown_pattern, shown_stmt}
use Rattle.pytree_dump_text.specs.Layout.{is_short, is_simple}
use Rattle.pytree_dump_text.specs.Blocks.{bare_option, bare_pattern_option, listed, shown_block, shown_case, shown_matched}
use Rattle.pytree_dump_text.specs.Blocks.{shown_pattern_row}
use Rattle.pytree_dump_text.specs.Slots.{field, missing}
use Rattle.pytree_dump_text.proofs.SlotLemmas.{empty_is_simple, one_slot, two_slots, three_slots}

-- which nodes with blocks are short
pub short_test : (p : Profile) (x : Shown) (ys zs : List given_stmt.Stmt) →
    is_short (a_field (codes "test") x (a_field (codes "body") (shown_block p ys) (a_field (codes "orelse") (shown_block p zs) no_field)))
    ≡ is_simple x && nat_eq (length ys) 0 && nat_eq (length zs) 0
short_test p x ys zs = three_slots (field (codes "test") x) (field (codes "body") (shown_block p ys))
    (field (codes "orelse") (shown_block p zs))
    ∙ (λ i. is_simple x && empty_is_simple (λ s. shown_stmt p (stmt_of s)) ys i && empty_is_simple (λ s. shown_stmt p (stmt_of s)) zs i)

pub short_with : (p : Profile) (items : List given_item.Item) (ys : List given_stmt.Stmt) →
    is_short (a_field (codes "items") (listed (λ item. shown_item (item_of item)) items)
    (a_field (codes "body") (shown_block p ys) (left_out no_field)))
    ≡ nat_eq (length items) 0 && nat_eq (length ys) 0
short_with p items ys = two_slots (field (codes "items") (listed (λ item. shown_item (item_of item)) items))
    (field (codes "body") (shown_block p ys))
    ∙ (λ i. empty_is_simple (λ item. shown_item (item_of item)) items i && empty_is_simple (λ s. shown_stmt p (stmt_of s)) ys i)

short_body : (p : Profile) (ys : List given_stmt.Stmt)
    → is_short (a_field (codes "body") (shown_block p ys) no_field) ≡ nat_eq (length ys) 0
short_body p ys = one_slot (field (codes "body") (shown_block p ys)) ∙ empty_is_simple (λ s. shown_stmt p (stmt_of s)) ys

pub short_module : (p : Profile) (ys : List given_stmt.Stmt) →
    is_short (a_field (codes "body") (shown_block p ys) (a_field (codes "type_ignores") (Row no_shown) no_field)) ≡ nat_eq (length ys) 0
short_module p ys = short_body p ys

short_typed : (p : Profile) (e : Trees.Expr) (ys : List given_stmt.Stmt) →
    is_short (a_field (codes "type") (shown e) (a_field (codes "body") (shown_block p ys) no_field)) ≡ is_simple
    (shown e) && nat_eq (length ys) 0
short_typed p e ys = two_slots (field (codes "type") (shown e)) (field (codes "body") (shown_block p ys))
    ∙ (λ i. is_simple (shown e) && empty_is_simple (λ s. shown_stmt p (stmt_of s)) ys i)

pub short_handler : (p : Profile) (class : Option Trees.Expr) (name : Option Identifier) (ys : List given_stmt.Stmt) →
    is_short (expr_field (codes "type") class (name_field (codes "name") name (a_field (codes "body") (shown_block p ys) no_field)))
    ≡ bare_option class && nat_eq (length ys) 0
short_handler p None None ys = short_body p ys
short_handler p None (Some n) ys = short_body p ys
short_handler p (Some e) None ys = short_typed p e ys
short_handler p (Some e) (Some n) ys = short_typed p e ys

pub short_match : (p : Profile) (x : Shown) (cs : List given_case.Case) →
    is_short (a_field (codes "subject") x (a_field (codes "cases") (shown_matched p cs) no_field)) ≡ is_simple x && nat_eq (length cs) 0
short_match p x cs = two_slots (field (codes "subject") x) (field (codes "cases") (shown_matched p cs))
    ∙ (λ i. is_simple x && empty_is_simple (λ c. shown_case p (case_of c)) cs i)

pub short_case : (p : Profile) (x : Shown) (guard : Option Trees.Expr) (ys : List given_stmt.Stmt) →
    is_short (a_field (codes "pattern") x (expr_field (codes "guard") guard (a_field (codes "body") (shown_block p ys) no_field)))
    ≡ is_simple x && bare_option guard && nat_eq (length ys) 0
short_case p x None ys = three_slots (field (codes "pattern") x) missing (field (codes "body") (shown_block p ys))
    ∙ (λ i. is_simple x && true && empty_is_simple (λ s. shown_stmt p (stmt_of s)) ys i)
short_case p x (Some e) ys = three_slots (field (codes "pattern") x) (field (codes "guard") (shown e))
    (field (codes "body") (shown_block p ys))
    ∙ (λ i. is_simple x && is_simple (shown e) && empty_is_simple (λ s. shown_stmt p (stmt_of s)) ys i)

-- which patterns are short
pub short_patterns : (ps : List given_pattern.Pattern)
    → is_short (a_field (codes "patterns") (shown_pattern_row ps) no_field) ≡ nat_eq (length ps) 0
short_patterns ps = one_slot (field (codes "patterns") (shown_pattern_row ps)) ∙ empty_is_simple (λ p. shown_pattern (pattern_of p)) ps

short_keyed : (es : List given_expr.Expr) (ps : List given_pattern.Pattern) →
    is_short (a_field (codes "keys") (listed (λ e. shown (tree_of e)) es) (a_field (codes "patterns") (shown_pattern_row ps) no_field))
    ≡ nat_eq (length es) 0 && nat_eq (length ps) 0
short_keyed es ps = two_slots (field (codes "keys") (listed (λ e. shown (tree_of e)) es)) (field (codes "patterns") (shown_pattern_row ps))
    ∙ (λ i. empty_is_simple (λ e. shown (tree_of e)) es i && empty_is_simple (λ p. shown_pattern (pattern_of p)) ps i)

pub short_mapping : (es : List given_expr.Expr) (ps : List given_pattern.Pattern) (rest : Option Identifier) →
    is_short (a_field (codes "keys") (listed (λ e. shown (tree_of e)) es)
    (a_field (codes "patterns") (shown_pattern_row ps) (name_field (codes "rest") rest no_field)))
    ≡ nat_eq (length es) 0 && nat_eq (length ps) 0
short_mapping es ps None = short_keyed es ps
short_mapping es ps (Some n) = short_keyed es ps

pub short_as : (pattern : Option Trees.Pattern) (name : Option Identifier) →
    is_short (pattern_field (codes "pattern") (optional_pattern pattern) (name_field (codes "name") name no_field)) ≡
    bare_pattern_option pattern
short_as None None = refl
short_as None (Some n) = refl
short_as (Some p) None = one_slot (field (codes "pattern") (shown_pattern p))
short_as (Some p) (Some n) = one_slot (field (codes "pattern") (shown_pattern p))
