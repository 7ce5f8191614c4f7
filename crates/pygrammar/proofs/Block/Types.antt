-- The forms of lines have no types exactly where their tree has none, so Python 3.11 accepts what
-- 3.12 does without types.
--
-- Carries: old_has_no_types, for SourceLaw. On: Stays, Answer.
use Rattle.std.proofs.Common.{◌≡◌, ◌↔◌, ℕ, List, [], ◌∷◌, ◌++◌, Option, Some, None, Bool, true, false, not, ◌&&◌, refl, sym, ap, ◌∙◌}
use Rattle.std.proofs.lemmas.Bool.{and_parts, and_from}
use Rattle.pylex_listing.specs.Listing.{Source}
use Rattle.pytree_node.specs.declared.profiles.Extent.{Extent}
use Rattle.pytree_node.specs.declared.profiles.Profile.{Profile}
use Rattle.pytree_node.specs.declared.profiles.Version.TheVariants.{Py311, Py312}
use Rattle.pytree_node.specs.Profiles.{python}
use Rattle.pytree_node.specs.Trees.{Expr, Stmt, Case, Handler, Item, Module, stmts, cases, handlers}
use Rattle.pytoken.specs.Terminals.{Terminal}
use Rattle.pytoken.specs.Tokens as Tokens
use Rattle.pygrammar.specs.Lines.{Line, line, Form, simple_form, decorator_form, header_form, Header, if_header, elif_header, else_header}
use Rattle.pygrammar.specs.Lines.{loop_header, with_header, try_header, except_header, finally_header, def_header, case_header, LoopHead}
use Rattle.pygrammar.specs.Lines.{while_head, for_head, DefHead, function_head, class_head, loop, with_of, definition, try_of, is_alias}
use Rattle.pygrammar.specs.Lines.{untyped_statements, untyped_header, untyped}
use Rattle.pygrammar.specs.Forms as F
use Rattle.pygrammar.specs.Blocks.{Block, Statement, Body, Alternative, Otherwise, Excepts, Cases, Ending, Decorators, nothing, and_then}
use Rattle.pygrammar.specs.Blocks.{simple_line, if_statement, loop_statement, with_statement, try_finally, try_except, definition_of}
use Rattle.pygrammar.specs.Blocks.{match_statement, inline, indented, an_else, an_elif, no_else, else_clause, no_except, except_clause}
use Rattle.pygrammar.specs.Blocks.{no_case, case_clause, no_finally, finally_clause, no_decorator, decorator}
use Rattle.pygrammar.specs.Refusals.{Formed, formed_end, formed_line, Accepted}
use Rattle.pygrammar.specs.Types.{is_untyped, are_untyped, are_cases_untyped, are_handlers_untyped, is_module_untyped}
use Rattle.pygrammar.proofs.Line.Stays.{old_is_untyped}
use Rattle.pygrammar.proofs.Block.Answer.{answer_stays}

-- ---- Lines whose simple statements have no others inside.

abbrev IsPlain : Form → Type 0
IsPlain (simple_form ss) = untyped_statements ss ≡ are_untyped (stmts ss)
IsPlain (decorator_form e) = Unit {0}
IsPlain (header_form h None) = Unit {0}
IsPlain (header_form h (Some ss)) = untyped_statements ss ≡ are_untyped (stmts ss)

abbrev ArePlain : List Line → Type 0
ArePlain [] = Unit {0}
ArePlain (x ∷ xs) = IsPlain x.form × ArePlain xs

plain_parts : (xs ys : List Line) → ArePlain (xs ++ ys) → ArePlain xs × ArePlain ys
plain_parts [] ys f = (tt, f)
plain_parts (x ∷ xs) ys f = let p = plain_parts xs ys f.1 in ((f.0, p.0), p.1)

simple_plain : {profile : Profile} {ts : List Terminal} {s : Stmt} → F.Simple profile ts s → not (is_alias s) ≡ is_untyped s
simple_plain (F.value p) = refl
simple_plain _ = refl

and_true : (a : Bool) → a && true ≡ a
and_true true = refl
and_true false = refl

and_assoc : (a b c : Bool) → a && (b && c) ≡ (a && b) && c
and_assoc true b c = refl
and_assoc false b c = refl

both : (a b c d : Bool) → a ≡ b → c ≡ d → a && c ≡ b && d
both a b c d p q = ap (λ z. z && c) p ∙ ap (λ z. b && z) q

simples_plain : {profile : Profile} {ts : List Terminal} {ss : List Stmt} → F.Simples profile ts ss
    → untyped_statements ss ≡ are_untyped (stmts ss)
simples_plain (F.last_simple p) = ap (λ z. z && true) (simple_plain p)
simples_plain (F.ended_simple p) = ap (λ z. z && true) (simple_plain p)
simples_plain (F.more_simples p q) = both _ _ _ _ (simple_plain p) (simples_plain q)

form_plain : {profile : Profile} {ts : List Terminal} {f : Form} → F.FormOf profile ts f → IsPlain f
form_plain (F.simple_statements p) = simples_plain p
form_plain (F.decorator_line p) = tt
form_plain (F.header_line p) = tt
form_plain (F.header_suite p q) = simples_plain q
form_plain (F.match_line form w p) = tt

place_plain : {profile : Profile} {inside : Bool} {ts : List Terminal} {f : Form} → F.FormAt profile inside ts f → IsPlain f
place_plain (F.other_line n p) = form_plain p
place_plain (F.case_alone w p) = tt
place_plain (F.case_suite w p q) = simples_plain q

formed_plain : {profile : Profile} {earlier : List Line} {xs : List Tokens.Line} {ys : List Line}
    → Formed profile earlier xs ys → ArePlain ys
formed_plain formed_end = tt
formed_plain (formed_line h p) = (place_plain h.is, formed_plain p)

-- ---- Through the tree.

abbrev are_lines_untyped : List Line → Bool
are_lines_untyped [] = true
are_lines_untyped (x ∷ xs) = untyped x.form && are_lines_untyped xs

lines-append : (xs ys : List Line) → are_lines_untyped (xs ++ ys) ≡ are_lines_untyped xs && are_lines_untyped ys
lines-append [] ys = refl
lines-append (x ∷ xs) ys = ap (λ z. untyped x.form && z) (lines-append xs ys)
    ∙ and_assoc (untyped x.form) (are_lines_untyped xs) (are_lines_untyped ys)

stmts-append : (a b : List Stmt) → are_untyped (stmts (a ++ b)) ≡ are_untyped (stmts a) && are_untyped (stmts b)
stmts-append [] b = refl
stmts-append (s ∷ a) b = ap (λ z. is_untyped s && z) (stmts-append a b)
    ∙ and_assoc (is_untyped s) (are_untyped (stmts a)) (are_untyped (stmts b))

-- lines after lines
joined : (xs ys : List Line) (a b : Bool) → are_lines_untyped xs ≡ a → are_lines_untyped ys ≡ b → are_lines_untyped (xs ++ ys) ≡ a && b
joined xs ys a b p q = lines-append xs ys ∙ both _ _ _ _ p q

loop_untyped : (head : LoopHead) (body orelse : List Stmt) → are_untyped (stmts body) && are_untyped (stmts orelse) ≡ are_untyped
    (stmts (loop head body orelse ∷ []))
loop_untyped (while_head test) body orelse = sym (and_true _)
loop_untyped (for_head false target iter) body orelse = sym (and_true _)
loop_untyped (for_head true target iter) body orelse = sym (and_true _)

with_untyped : (is_async : Bool) (items : List Item) (body : List Stmt)
    → are_untyped (stmts body) ≡ are_untyped (stmts (with_of is_async items body ∷ []))
with_untyped false items body = sym (and_true _)
with_untyped true items body = sym (and_true _)

try_untyped : (star : Bool) (body : List Stmt) (hs : List Handler) (orelse final : List Stmt) →
    are_untyped (stmts body) && (are_handlers_untyped (handlers hs) && (are_untyped (stmts orelse) && are_untyped (stmts final))) ≡
    are_untyped (stmts (try_of star body hs orelse final ∷ []))
try_untyped false body hs orelse final = sym (and_true _)
try_untyped true body hs orelse final = sym (and_true _)

definition_untyped : (es : List Expr) (head : DefHead) (body : List Stmt) → untyped_header (def_header head) && are_untyped (stmts body) ≡
    are_untyped (stmts (definition es head body ∷ []))
definition_untyped es (function_head false name parameters args returns) body = sym (and_true _)
definition_untyped es (function_head true name parameters args returns) body = sym (and_true _)
definition_untyped es (class_head name parameters bases keywords) body = sym (and_true _)

decorators_untyped : {l : ℕ} {xs : List Line} {es : List Expr} → Decorators l xs es → are_lines_untyped xs ≡ true
decorators_untyped no_decorator = refl
decorators_untyped (decorator p) = decorators_untyped p

mutual
  block_untyped : {l : ℕ} {xs : List Line} {ss : List Stmt} → Block l xs ss → ArePlain xs → are_lines_untyped xs ≡ are_untyped (stmts ss)
  block_untyped nothing f = refl
  block_untyped (and_then {xs = xs} {ys = ys} {ss = ss} {more = more} p q) f =
      let g = plain_parts xs ys f in joined xs ys _ _ (statement_untyped p g.0) (block_untyped q g.1) ∙ sym (stmts-append ss more)

  statement_untyped : {l : ℕ} {xs : List Line} {ss : List Stmt} → Statement l xs ss → ArePlain xs
      → are_lines_untyped xs ≡ are_untyped (stmts ss)
  statement_untyped (simple_line {ss = ss}) f = and_true (untyped_statements ss) ∙ f.0
  statement_untyped {l} (if_statement {test = test} {suite = suite} {xs = xs} {ys = ys} p q) f =
      let g = plain_parts xs ys f.1 in
      joined (line l (header_form (if_header test) suite) ∷ xs) ys _ _ (body_untyped (if_header test) p f.0 g.0) (alternative_untyped q g.1)
      ∙ sym (and_true _)
  statement_untyped {l} (loop_statement {head = head} {suite = suite} {xs = xs} {ys = ys} {body = body} {orelse = orelse} p q) f =
      let g = plain_parts xs ys f.1 in
      joined (line l (header_form (loop_header head) suite) ∷ xs) ys _ _ (body_untyped (loop_header head) p f.0 g.0)
      (otherwise_untyped q g.1) ∙ loop_untyped head body orelse
  statement_untyped (with_statement {is_async = is_async} {items = items} {body = body} p) f =
      body_untyped (with_header is_async items) p f.0 f.1 ∙ with_untyped is_async items body
  statement_untyped {l} (try_finally {suite = suite} {last = last} {xs = xs} {ys = ys} {body = body} {final = final} p q) f =
      let g = plain_parts xs (line l (header_form finally_header last) ∷ ys) f.1 in
      joined (line l (header_form try_header suite) ∷ xs) (line l (header_form finally_header last) ∷ ys) _ _
      (body_untyped try_header p f.0 g.0) (body_untyped finally_header q g.1.0 g.1.1)
      ∙ try_untyped false body [] [] final
  statement_untyped {l} (try_except {star = star} {suite = suite} {xs = xs} {ys = ys} {zs = zs} {ws = ws} {body = body} {orelse = orelse}
      {final = final} {h = h} {hs = hs} p q o e) f =
      let g = plain_parts xs (ys ++ (zs ++ ws)) f.1 in
      let g1 = plain_parts ys (zs ++ ws) g.1 in
      let g2 = plain_parts zs ws g1.1 in
      joined (line l (header_form try_header suite) ∷ xs) (ys ++ (zs ++ ws)) _ _ (body_untyped try_header p f.0 g.0)
      (joined ys (zs ++ ws) _ _ (excepts_untyped q g1.0) (joined zs ws _ _ (otherwise_untyped o g2.0) (ending_untyped e g2.1)))
      ∙ try_untyped star body (h ∷ hs) orelse final
  statement_untyped {l} (definition_of head {suite = suite} {ds = ds} {xs = xs} {es = es} {body = body} d p) f =
      let g = plain_parts ds (line l (header_form (def_header head) suite) ∷ xs) f in
      joined ds (line l (header_form (def_header head) suite) ∷ xs) _ _ (decorators_untyped d)
      (body_untyped (def_header head) p g.1.0 g.1.1) ∙ definition_untyped es head body
  statement_untyped (match_statement p) f = cases_untyped p f.1 ∙ sym (and_true _)

  body_untyped : {l : ℕ} {suite : Option (List Stmt)} {xs : List Line} {ss : List Stmt} (h : Header) → Body l suite xs ss
      → IsPlain (header_form h suite) → ArePlain xs →
      are_lines_untyped (line l (header_form h suite) ∷ xs) ≡ untyped_header h && are_untyped (stmts ss)
  body_untyped h (inline {ss = ss}) f g = and_true (untyped_header h && untyped_statements ss) ∙ ap (λ z. untyped_header h && z) f
  body_untyped h (indented p) f g = ap (λ z. untyped_header h && z) (block_untyped p g)

  alternative_untyped : {l : ℕ} {xs : List Line} {ss : List Stmt} → Alternative l xs ss → ArePlain xs
      → are_lines_untyped xs ≡ are_untyped (stmts ss)
  alternative_untyped (an_else p) f = otherwise_untyped p f
  alternative_untyped {l} (an_elif {test = test} {suite = suite} {xs = xs} {ys = ys} p q) f =
      let g = plain_parts xs ys f.1 in
      joined (line l (header_form (elif_header test) suite) ∷ xs) ys _ _ (body_untyped (elif_header test) p f.0 g.0)
      (alternative_untyped q g.1) ∙ sym (and_true _)

  otherwise_untyped : {l : ℕ} {xs : List Line} {ss : List Stmt} → Otherwise l xs ss → ArePlain xs
      → are_lines_untyped xs ≡ are_untyped (stmts ss)
  otherwise_untyped no_else f = refl
  otherwise_untyped (else_clause p) f = body_untyped else_header p f.0 f.1

  excepts_untyped : {l : ℕ} {star : Bool} {xs : List Line} {hs : List Handler} → Excepts l star xs hs → ArePlain xs
      → are_lines_untyped xs ≡ are_handlers_untyped (handlers hs)
  excepts_untyped no_except f = refl
  excepts_untyped {l} (except_clause {star = star} {matched = matched} {name = name} {suite = suite} {xs = xs} {ys = ys} p q) f =
      let g = plain_parts xs ys f.1 in
      joined (line l (header_form (except_header star matched name) suite) ∷ xs) ys _ _ (body_untyped (except_header star matched name) p
      f.0 g.0) (excepts_untyped q g.1)

  cases_untyped : {l : ℕ} {xs : List Line} {cs : List Case} → Cases l xs cs → ArePlain xs
      → are_lines_untyped xs ≡ are_cases_untyped (cases cs)
  cases_untyped no_case f = refl
  cases_untyped {l} (case_clause {pattern = pattern} {guard = guard} {suite = suite} {xs = xs} {ys = ys} p q) f =
      let g = plain_parts xs ys f.1 in
      joined (line l (header_form (case_header pattern guard) suite) ∷ xs) ys _ _
      (body_untyped (case_header pattern guard) p f.0 g.0) (cases_untyped q g.1)

  ending_untyped : {l : ℕ} {xs : List Line} {ss : List Stmt} → Ending l xs ss → ArePlain xs → are_lines_untyped xs ≡ are_untyped (stmts ss)
  ending_untyped no_finally f = refl
  ending_untyped (finally_clause p) f = body_untyped finally_header p f.0 f.1

-- ---- Between the versions.

formed_untyped : {extent : Extent} {earlier : List Line} {xs : List Tokens.Line} {ys : List Line}
    → Formed (python Py311 extent) earlier xs ys → are_lines_untyped ys ≡ true
formed_untyped formed_end = refl
formed_untyped (formed_line {f = f} h p) = and_from (untyped f) _ ((old_is_untyped _ _ _ f).0 h.is).1 (formed_untyped p)

formed_returns : {extent : Extent} {earlier : List Line} {xs : List Tokens.Line} {ys : List Line}
    → Formed (python Py312 extent) earlier xs ys → are_lines_untyped ys ≡ true →
    Formed (python Py311 extent) earlier xs ys
formed_returns formed_end e = formed_end
formed_returns (formed_line {f = f} h p) e =
    let g = and_parts (untyped f) _ e in
    formed_line (record { is = (old_is_untyped _ _ _ f).1 (h.is, g.0); low = h.low }) (formed_returns p g.1)

pub old_has_no_types : (extent : Extent) (s : Source) (m : Module)
    → Accepted (python Py311 extent) s m ↔ (Accepted (python Py312 extent) s m × (is_module_untyped m ≡ true))
old_has_no_types extent s m = (
  λ p. (answer_stays p, sym (block_untyped p.block (formed_plain p.formed)) ∙ formed_untyped p.formed),
  λ q.
      let p = q.0 in
      record {
        clear = p.clear;
        forms = p.forms;
        formed = formed_returns p.formed (block_untyped p.block (formed_plain p.formed) ∙ q.1);
        block = p.block;
        low = p.low;
      },
)
