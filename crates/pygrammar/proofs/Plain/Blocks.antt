-- The statements of lines are plain where the forms of the lines are.
--
-- Carries: is_line_plain, plain_block, for Law. On: Terminals, Forms.
use Rattle.std.proofs.Common.{◌≡◌, refl, sym, ap, ◌∙◌, ℕ, Bool, true, false, ◌&&◌, List, [], ◌∷◌, ◌++◌, Option}
use Rattle.std.specs.List.{list_all}
use Rattle.std.proofs.Math.Bool.{and_assoc, and_comm, and-true}
use Rattle.pytree_node.specs.Trees.{Expr, Stmt, Handler, Item, stmts, handlers}
use Rattle.pygrammar.specs.Lines.{Line, line, header_form, Header, if_header, elif_header, else_header, loop_header, with_header}
use Rattle.pygrammar.specs.Lines.{try_header, except_header, finally_header, def_header, LoopHead, while_head, for_head, DefHead}
use Rattle.pygrammar.specs.Lines.{function_head, class_head, loop, with_of, definition, try_of}
use Rattle.pygrammar.specs.Blocks.{Block, Statement, Body, Alternative, Otherwise, Excepts, Ending, Decorators, nothing, and_then}
use Rattle.pygrammar.specs.Blocks.{simple_line, if_statement, loop_statement, with_statement, try_finally, try_except, definition_of}
use Rattle.pygrammar.specs.Blocks.{match_statement, inline, indented, an_else, an_elif, no_else, else_clause, no_except, except_clause}
use Rattle.pygrammar.specs.Blocks.{no_finally, finally_clause, no_decorator, decorator}
use Rattle.pygrammar.specs.Extents.{is_plain, are_keywords_plain, are_arguments_plain, all_plain, is_perhaps_plain, is_item_plain}
use Rattle.pygrammar.specs.Extents.{is_type_param_plain, is_statement_plain, are_statements_plain, are_handlers_plain}
use Rattle.pygrammar.proofs.Plain.Terminals.{and_swap, Passes, none, same, before, both, alone}
use Rattle.pygrammar.proofs.Plain.Forms.{is_definition_plain, is_header_plain, is_form_plain, is_loop_plain}

abbrev pub is_line_plain : Line → Bool
is_line_plain x = is_form_plain x.form

-- whether the forms of all lines are plain
abbrev pub ArePlain : List Line → Bool → Type 0
ArePlain xs answer = Passes is_line_plain xs answer

-- ---- Statements of their parts.

stmts_append : (a b : List Stmt) → are_statements_plain (stmts (a ++ b)) ≡ are_statements_plain (stmts a) && are_statements_plain (stmts b)
stmts_append [] b = refl
stmts_append (s ∷ a) b = ap (λ z. is_statement_plain s && z) (stmts_append a b)
    ∙ sym (and_assoc (is_statement_plain s) (are_statements_plain (stmts a)) (are_statements_plain (stmts b)))

abbrev plainness : List Stmt → Bool
plainness ss = are_statements_plain (stmts ss)

if_plain : (test : Expr) (body orelse : List Stmt) → (is_plain test && plainness body) && plainness orelse ≡
    (is_plain test && (plainness body && plainness orelse)) && true
if_plain test body orelse = and_assoc (is_plain test) (plainness body) (plainness orelse)
    ∙ alone (is_plain test && (plainness body && plainness orelse))

for_plain : (t i b o : Bool) → ((t && i) && b) && o ≡ (t && (i && (b && o))) && true
for_plain t i b o = and_assoc (t && i) b o ∙ and_assoc t i (b && o) ∙ alone (t && (i && (b && o)))

loop_plain : (head : LoopHead) (body orelse : List Stmt) → (is_loop_plain head && plainness body) && plainness orelse ≡ plainness
    (loop head body orelse ∷ [])
loop_plain (while_head test) body orelse = if_plain test body orelse
loop_plain (for_head false target iter) body orelse = for_plain (is_plain target) (is_plain iter) (plainness body) (plainness orelse)
loop_plain (for_head true target iter) body orelse = for_plain (is_plain target) (is_plain iter) (plainness body) (plainness orelse)

with_plain : (is_async : Bool) (items : List Item) (body : List Stmt) → list_all is_item_plain items && plainness body ≡ plainness
    (with_of is_async items body ∷ [])
with_plain false items body = alone (list_all is_item_plain items && plainness body)
with_plain true items body = alone (list_all is_item_plain items && plainness body)

try_plain : (star : Bool) (body : List Stmt) (hs : List Handler) (orelse final : List Stmt) →
    plainness body && (are_handlers_plain (handlers hs) && (plainness orelse && plainness final)) ≡ plainness
    (try_of star body hs orelse final ∷ [])
try_plain false body hs orelse final = alone (plainness body && (are_handlers_plain (handlers hs) && (plainness orelse && plainness final)))
try_plain true body hs orelse final = alone (plainness body && (are_handlers_plain (handlers hs) && (plainness orelse && plainness final)))

-- the parameters of types stand in front of the others in a line, and after them in a tree
function_plain : (d p a r b : Bool) → d && ((p && (a && r)) && b) ≡ (a && (b && (d && (r && p)))) && true
function_plain d p a r b = simp (and_assoc, and_comm, and_swap)

class_plain : (d p s k b : Bool) → d && ((p && (s && k)) && b) ≡ (s && (k && (b && (d && p)))) && true
class_plain d p s k b = simp (and_assoc, and_comm, and_swap)

definition_plain : (es : List Expr) (head : DefHead) (body : List Stmt) → all_plain es && (is_definition_plain head && plainness body) ≡
    plainness (definition es head body ∷ [])
definition_plain es (function_head false name parameters args returns) body =
    function_plain (all_plain es) (list_all is_type_param_plain parameters) (are_arguments_plain args)
    (is_perhaps_plain returns) (plainness body)
definition_plain es (function_head true name parameters args returns) body =
    function_plain (all_plain es) (list_all is_type_param_plain parameters) (are_arguments_plain args)
    (is_perhaps_plain returns) (plainness body)
definition_plain es (class_head name parameters bases keywords) body =
    class_plain (all_plain es) (list_all is_type_param_plain parameters) (all_plain bases) (are_keywords_plain keywords) (plainness body)

-- ---- Through the tree.

plain_decorators : {l : ℕ} {xs : List Line} {es : List Expr} → Decorators l xs es → ArePlain xs (all_plain es)
plain_decorators no_decorator = none
plain_decorators (decorator p) = before _ (plain_decorators p)

mutual
  pub plain_block : {l : ℕ} {xs : List Line} {ss : List Stmt} → Block l xs ss → ArePlain xs (plainness ss)
  plain_block nothing = none
  plain_block (and_then {ss = ss} {more = more} p q) = same (both (plain_statement p) (plain_block q)) (sym (stmts_append ss more))

  plain_statement : {l : ℕ} {xs : List Line} {ss : List Stmt} → Statement l xs ss → ArePlain xs (plainness ss)
  plain_statement (simple_line {ss = ss}) = same (before _ none) (and-true (plainness ss))
  plain_statement (if_statement {test = test} {body = body} {orelse = orelse} p q) =
      same (both (plain_body (if_header test) p) (plain_alternative q)) (if_plain test body orelse)
  plain_statement (loop_statement {head = head} {body = body} {orelse = orelse} p q) =
      same (both (plain_body (loop_header head) p) (plain_otherwise q)) (loop_plain head body orelse)
  plain_statement (with_statement {is_async = is_async} {items = items} {body = body} p) =
      same (plain_body (with_header is_async items) p) (with_plain is_async items body)
  plain_statement (try_finally {body = body} {final = final} p q) = same (both (plain_body try_header p) (plain_body finally_header q))
      (try_plain false body [] [] final)
  plain_statement (try_except {star = star} {body = body} {orelse = orelse} {final = final} {h = h} {hs = hs} p q o e) =
      same (both (plain_body try_header p) (both (plain_excepts q) (both (plain_otherwise o) (plain_ending e))))
      (try_plain star body (h ∷ hs) orelse final)
  plain_statement (definition_of head {es = es} {body = body} d p) = same (both (plain_decorators d) (plain_body (def_header head) p))
      (definition_plain es head body)
  plain_statement (match_statement c) = record { is = refl }

  plain_body : {l : ℕ} {suite : Option (List Stmt)} {xs : List Line} {ss : List Stmt} (h : Header) → Body l suite xs ss →
      ArePlain (line l (header_form h suite) ∷ xs) (is_header_plain h && plainness ss)
  plain_body h (inline {ss = ss}) = same (before _ none) (and-true (is_header_plain h && plainness ss))
  plain_body h (indented p) = before _ (plain_block p)

  plain_alternative : {l : ℕ} {xs : List Line} {ss : List Stmt} → Alternative l xs ss → ArePlain xs (plainness ss)
  plain_alternative (an_else p) = plain_otherwise p
  plain_alternative (an_elif {test = test} {body = body} {orelse = orelse} p q) =
      same (both (plain_body (elif_header test) p) (plain_alternative q)) (if_plain test body orelse)

  plain_otherwise : {l : ℕ} {xs : List Line} {ss : List Stmt} → Otherwise l xs ss → ArePlain xs (plainness ss)
  plain_otherwise no_else = none
  plain_otherwise (else_clause p) = plain_body else_header p

  plain_excepts : {l : ℕ} {star : Bool} {xs : List Line} {hs : List Handler} → Excepts l star xs hs
      → ArePlain xs (are_handlers_plain (handlers hs))
  plain_excepts no_except = none
  plain_excepts (except_clause {star = star} {matched = matched} {name = name} {body = body} {hs = hs} p q) =
      same (both (plain_body (except_header star matched name) p) (plain_excepts q)) (and_assoc (is_perhaps_plain matched) (plainness body)
      (are_handlers_plain (handlers hs)))

  plain_ending : {l : ℕ} {xs : List Line} {ss : List Stmt} → Ending l xs ss → ArePlain xs (plainness ss)
  plain_ending no_finally = none
  plain_ending (finally_clause p) = plain_body finally_header p
