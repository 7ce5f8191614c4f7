-- Carries: the law of modules. On: in lines that are statements a line stands in a `match` exactly
-- where it is a case, so that lines with their own forms have these at their places.
use Rattle.std.proofs.Common.{◌≡◌, refl, sym, ◌∙◌, subst, ℕ, suc, ◌≤◌, arith, List, [], ◌∷◌, ◌++◌, Option, Bool, true, false}
use Rattle.std.specs.Prelude.{nat_lt}
use Rattle.std.proofs.lemmas.Bool.{lt-ltb}
use Rattle.std.proofs.lemmas.Bool.Decides.{nat_tests}
use Rattle.pytree_node.specs.declared.profiles.Profile.{Profile}
use Rattle.pytree_node.specs.Trees.{Expr, Case, Handler, Stmt}
use Rattle.pytoken.specs.Terminals.{Terminal}
use Rattle.pygrammar.specs.Lines.{Line, line, Form}
use Rattle.pygrammar.specs.Forms.{FormAt}
use Rattle.pygrammar.specs.Blocks as B
use Rattle.pygrammar.specs.Blocks.{kind_of, is_case, is_match, stands_in_match}
use Rattle.pyunparse_text.specs.Modules.{WrittenLine, written_line}
use Rattle.pyunparse_text.specs.Laws.{HaveForms, no_form, a_form, ArePlaced, CasesStandInMatches}

-- the lines before others, nearest first
abbrev following : List Line → List Line → List Line
following earlier [] = earlier
following earlier (x ∷ xs) = following (x ∷ earlier) xs

following_both : (earlier xs ys : List Line) → following earlier (xs ++ ys) ≡ following (following earlier xs) ys
following_both earlier [] ys = refl
following_both earlier (x ∷ xs) ys = following_both (x ∷ earlier) xs ys

placed_both : (earlier xs ys : List Line) → ArePlaced earlier xs → ArePlaced (following earlier xs) ys → ArePlaced earlier (xs ++ ys)
placed_both earlier [] ys p q = q
placed_both earlier (x ∷ xs) ys p q = (p.0, placed_both (x ∷ earlier) xs ys p.1 q)

-- ---- One line.

-- what stands deeper than a line
pub under : (l : ℕ) (f : Form) (earlier : List Line) → stands_in_match (suc l) (line l f ∷ earlier) ≡ is_match (kind_of f)
under l f earlier = let e : nat_lt l (suc l) ≡ true = lt-ltb l (suc l) (omega arith) in rw e refl

-- a line that is no higher says nothing of what stands at a level
beside : (m l : ℕ) (f : Form) (earlier : List Line) → m ≤ l → stands_in_match m (line l f ∷ earlier) ≡ stands_in_match m earlier
beside m l f earlier h = let e : nat_lt l m ≡ false = grind (arith, nat_tests) in rw e refl

-- ---- Lines of a level and deeper, all in a `match`, or none.

record Placed (inside : Bool) (l : ℕ) (xs : List Line) : Type 0 where
  at : (earlier : List Line) → stands_in_match l earlier ≡ inside → ArePlaced earlier xs
  kept : (m : ℕ) (earlier : List Line) → m ≤ l → stands_in_match m (following earlier xs) ≡ stands_in_match m earlier

nothing : (inside : Bool) (l : ℕ) → Placed inside l []
nothing inside l = record { at = λ earlier h. tt; kept = λ m earlier h. refl }

both : {inside : Bool} {l : ℕ} {xs ys : List Line} → Placed inside l xs → Placed inside l ys → Placed inside l (xs ++ ys)
both {inside} {l} {xs} {ys} p q = record {
  at = λ earlier h. placed_both earlier xs ys (p.at earlier h) (q.at (following earlier xs) (p.kept l earlier (omega arith) ∙ h));
  kept = λ m earlier h. rw (following_both earlier xs ys) (q.kept m (following earlier xs) h ∙ p.kept m earlier h);
}

-- a line and those of its block
above : {inside : Bool} {l : ℕ} {xs : List Line} (f : Form) → is_case (kind_of f) ≡ inside → Placed (is_match (kind_of f)) (suc l) xs
    → Placed inside l (line l f ∷ xs)
above {l = l} f e p = record {
  at = λ earlier h. (h ∙ sym e, p.at (line l f ∷ earlier) (under l f earlier));
  kept = λ m earlier h. p.kept m (line l f ∷ earlier) (omega (arith, h)) ∙ beside m l f earlier h;
}

-- ---- Statements.

mutual
  block : {l : ℕ} {xs : List Line} {ss : List Stmt} → B.Block l xs ss → Placed false l xs
  block (B.nothing {l = l}) = nothing false l
  block (B.and_then p q) = both (statement p) (block q)

  statement : {l : ℕ} {xs : List Line} {ss : List Stmt} → B.Statement l xs ss → Placed false l xs
  statement (B.simple_line {l = l}) = above _ refl (nothing false (suc l))
  statement (B.if_statement p q) = both (above _ refl (body p)) (alternative q)
  statement (B.loop_statement p q) = both (above _ refl (body p)) (otherwise q)
  statement (B.with_statement p) = above _ refl (body p)
  statement (B.try_finally p q) = both (above _ refl (body p)) (above _ refl (body q))
  statement (B.try_except p c q r) = both (above _ refl (body p)) (both (excepts c) (both (otherwise q) (ending r)))
  statement (B.definition_of head d p) = both (decorators d) (above _ refl (body p))
  statement (B.match_statement c) = above _ refl (cases c)

  body : {l : ℕ} {suite : Option (List Stmt)} {xs : List Line} {ss : List Stmt} → B.Body l suite xs ss → Placed false (suc l) xs
  body (B.inline {l = l}) = nothing false (suc l)
  body (B.indented p) = block p

  alternative : {l : ℕ} {xs : List Line} {ss : List Stmt} → B.Alternative l xs ss → Placed false l xs
  alternative (B.an_else p) = otherwise p
  alternative (B.an_elif p q) = both (above _ refl (body p)) (alternative q)

  otherwise : {l : ℕ} {xs : List Line} {ss : List Stmt} → B.Otherwise l xs ss → Placed false l xs
  otherwise (B.no_else {l = l}) = nothing false l
  otherwise (B.else_clause p) = above _ refl (body p)

  excepts : {l : ℕ} {star : Bool} {xs : List Line} {hs : List Handler} → B.Excepts l star xs hs → Placed false l xs
  excepts (B.no_except {l = l}) = nothing false l
  excepts (B.except_clause p q) = both (above _ refl (body p)) (excepts q)

  cases : {l : ℕ} {xs : List Line} {cs : List Case} → B.Cases l xs cs → Placed true l xs
  cases (B.no_case {l = l}) = nothing true l
  cases (B.case_clause p q) = both (above _ refl (body p)) (cases q)

  ending : {l : ℕ} {xs : List Line} {ss : List Stmt} → B.Ending l xs ss → Placed false l xs
  ending (B.no_finally {l = l}) = nothing false l
  ending (B.finally_clause p) = above _ refl (body p)

  decorators : {l : ℕ} {xs : List Line} {es : List Expr} → B.Decorators l xs es → Placed false l xs
  decorators (B.no_decorator {l = l}) = nothing false l
  decorators (B.decorator {l = l} d) = both (above _ refl (nothing false (suc l))) (decorators d)

pub blocks_placed : {xs : List Line} {ss : List Stmt} → B.Block 0 xs ss → ArePlaced [] xs
blocks_placed p = (block p).at [] refl

pub cases_in_matches : CasesStandInMatches
cases_in_matches profile m a = blocks_placed a.block

-- ---- Forms.

-- the form of a line at the place that it asks for
abbrev pub OwnForm : Profile → List Terminal → Form → Type 0
OwnForm profile ts f = FormAt profile (is_case (kind_of f)) ts f

pub data OwnForms (profile : Profile) : List (WrittenLine Terminal) → List Line → Type 0 where
  no_own : OwnForms profile [] []
  an_own : {l : ℕ} {ts : List Terminal} {f : Form} {ws : List (WrittenLine Terminal)} {xs : List Line}
      → OwnForm profile ts f → OwnForms profile ws xs → OwnForms profile (written_line l ts ∷ ws) (line l f ∷ xs)

pub in_place : {profile : Profile} {ws : List (WrittenLine Terminal)} {xs : List Line} (earlier : List Line) → OwnForms profile ws xs
    → ArePlaced earlier xs → HaveForms profile earlier ws xs
in_place earlier no_own h = no_form
in_place {profile} earlier (an_own {l = l} {ts = ts} {f = f} p c) h =
    a_form (subst (λ b. FormAt profile b ts f) (sym h.0) p) (in_place (line l f ∷ earlier) c h.1)
