-- Carries: the laws of modules. On: statements that some lines are: of each of their own lines
-- something holds that the forms of those gave, and no block is empty.
use Rattle.std.proofs.Common.{◌≡◌, refl, ℕ, List, [], ◌∷◌, ◌++◌, Option, Some, None, Bool, true, false}
use Rattle.pytree_node.specs.declared.profiles.Profile.{Profile}
use Rattle.pytree_node.specs.Trees
use Rattle.pytree_node.specs.Trees.{Expr, Identifier, Pattern, Stmt, stmts, Case, cases, Handler, Item, If}
use Rattle.pytoken.specs.Terminals.{Terminal}
use Rattle.pygrammar.specs.OpenStrings.{Open, open_following, open_after_all}
use Rattle.pygrammar.proofs.Callers.OpenStrings.{simple_closes, header_closes, case_closes}
use Rattle.pygrammar.specs.Lines.{LoopHead, DefHead, Header, Form, Line, line, if_header, elif_header, loop_header, with_header}
use Rattle.pygrammar.specs.Lines.{except_header}
use Rattle.pygrammar.specs.Lines.{def_header, match_header, case_header, simple_form, decorator_form, header_form, loop, with_of}
use Rattle.pygrammar.specs.Lines.{definition, try_of}
use Rattle.pygrammar.specs.declared.levels.Level.TheVariants.{Subject}
use Rattle.pygrammar.specs.Grammar as G
use Rattle.pygrammar.specs.Forms as F
use Rattle.pygrammar.specs.Blocks as B

-- statements without a block
abbrev pub is_simple : Stmt → Bool
is_simple (Trees.FunctionDef x a b ds r ps) = false
is_simple (Trees.AsyncFunctionDef x a b ds r ps) = false
is_simple (Trees.ClassDef x es ks b ds ps) = false
is_simple (Trees.For t e b o) = false
is_simple (Trees.AsyncFor t e b o) = false
is_simple (Trees.While e b o) = false
is_simple (Trees.If e b o) = false
is_simple (Trees.With is b) = false
is_simple (Trees.AsyncWith is b) = false
is_simple (Trees.Try b hs o f) = false
is_simple (Trees.TryStar b hs o f) = false
is_simple (Trees.Match e cs) = false
is_simple _ = true

pub form_simple : {profile : Profile} {ts : List Terminal} {s : Stmt} → F.Simple profile ts s → is_simple s ≡ true
form_simple (F.value p) = refl
form_simple (F.assign c p) = refl
form_simple (F.augmented_assign x p h q) = refl
form_simple (F.annotated_name p q) = refl
form_simple (F.annotated_group p q r) = refl
form_simple (F.annotated_part p h q r) = refl
form_simple (F.type_alias h c p) = refl
form_simple (F.return_of p) = refl
form_simple F.raise_alone = refl
form_simple (F.raise_of p q) = refl
form_simple (F.assert_of p q) = refl
form_simple (F.delete c) = refl
form_simple (F.global c) = refl
form_simple (F.nonlocal c) = refl
form_simple F.pass = refl
form_simple F.break = refl
form_simple F.continue = refl
form_simple (F.import_names c) = refl
form_simple (F.from_module p q c) = refl
form_simple (F.from_dots p h c) = refl

-- a header up to its colon, at the place that it asks for
pub data HeadOf (profile : Profile) : List Terminal → Header → Type 0 where
  other_head : {ts : List Terminal} {h : Header} → F.HeaderOf profile ts h → HeadOf profile ts h
  match_head : {ts : List Terminal} {e : Expr} (form : Identifier) → F.is_whole profile.extent ≡ true → G.Derives Subject ts e →
      HeadOf profile (F.match_word form ∷ ts) (match_header e)
  case_head : {ts : List Terminal} {h : Header} → F.is_whole profile.extent ≡ true → F.CaseOf ts h → HeadOf profile ts h

pub case_is : {ts : List Terminal} {h : Header} → F.CaseOf ts h → B.is_case (B.header_kind h) ≡ true
case_is (F.case_line form p g) = refl

-- what holds of a simple statement, of a header and of a decorator
module _ (S : Stmt → Type 0) (H : Header → Type 0) (D : Expr → Type 0) where
  mutual
    pub data Well : Stmt → Type 0 where
      well_simple : {s : Stmt} → is_simple s ≡ true → S s → Well s
      -- its line may be an `elif` too
      well_if : {test : Expr} {body orelse : List Stmt} →
          H (if_header test) → H (elif_header test) → Full body → Wells orelse → Well (If test (stmts body) (stmts orelse))
      well_loop : (head : LoopHead) {body orelse : List Stmt} → H (loop_header head) → Full body → Wells orelse
          → Well (loop head body orelse)
      well_with : (is_async : Bool) (items : List Item) {body : List Stmt} → H (with_header is_async items) → Full body
          → Well (with_of is_async items body)
      well_finally : {body final : List Stmt} → Full body → Full final → Well (try_of false body [] [] final)
      well_except : (star : Bool) {body orelse final : List Stmt} {h : Handler} {hs : List Handler} →
          Full body → Handled star (h ∷ hs) → Wells orelse → Wells final → Well (try_of star body (h ∷ hs) orelse final)
      well_definition : (head : DefHead) {es : List Expr} {body : List Stmt} →
          Decorated es → H (def_header head) → Full body → Well (definition es head body)
      well_match : {subject : Expr} {c : Case} {cs : List Case} → H (match_header subject) → Cased (c ∷ cs)
          → Well (Trees.Match subject (cases (c ∷ cs)))

    pub data Wells : List Stmt → Type 0 where
      none : Wells []
      one : {s : Stmt} {ss : List Stmt} → Well s → Wells ss → Wells (s ∷ ss)

    -- one statement at least
    pub data Full : List Stmt → Type 0 where
      full : {s : Stmt} {ss : List Stmt} → Well s → Wells ss → Full (s ∷ ss)

    pub data Handled : Bool → List Handler → Type 0 where
      none_handled : {star : Bool} → Handled star []
      one_handled : {star : Bool} {e : Option Expr} {x : Option Identifier} {body : List Stmt} {hs : List Handler} →
          H (except_header star e x) → Full body → Handled star hs → Handled star (B.handler e x body ∷ hs)

    pub data Cased : List Case → Type 0 where
      none_cased : Cased []
      one_cased : {p : Pattern} {g : Option Expr} {body : List Stmt} {cs : List Case} →
          H (case_header p g) → Full body → Cased cs → Cased (B.case_of p g body ∷ cs)

    pub data Decorated : List Expr → Type 0 where
      none_decorated : Decorated []
      one_decorated : {e : Expr} {es : List Expr} → D e → Decorated es → Decorated (e ∷ es)

  wells_of : {ss : List Stmt} → Full ss → Wells ss
  wells_of (full p c) = one p c

  append_wells : {ss more : List Stmt} → Wells ss → Wells more → Wells (ss ++ more)
  append_wells none d = d
  append_wells (one p c) d = one p (append_wells c d)

  append_full : {ss more : List Stmt} → Full ss → Wells more → Full (ss ++ more)
  append_full (full p c) d = full p (append_wells c d)

  -- an inline suite
  abbrev FullSuite : Option (List Stmt) → Type 0
  FullSuite None = Unit {0}
  FullSuite (Some ss) = Full ss

  -- what the forms of lines give of that, where their terminals are such
  pub record Gives (profile : Profile) (Q : List Terminal → Type 0) : Type 0 where
    pub simple : {ts : List Terminal} {s : Stmt} → Q ts → F.Simple profile ts s → S s
    pub header : {ts : List Terminal} {h : Header} → Q ts → HeadOf profile ts h → H h
    pub elif_too : {ts : List Terminal} {e : Expr} → Q ts → F.HeaderOf profile ts (if_header e) → H (elif_header e)
    pub if_too : {ts : List Terminal} {e : Expr} → Q ts → F.HeaderOf profile ts (elif_header e) → H (if_header e)
    pub decorator : {t : Terminal} {ts : List Terminal} {e : Expr} → Q (t ∷ ts) → F.FormOf profile (t ∷ ts) (decorator_form e) → D e
    -- such terminals come in parts
    pub front : (ts us : List Terminal) → Q (ts ++ us) → Q ts
    pub rest : (ts us : List Terminal) (t : Terminal) → ((o : Open) → open_after_all o ts ≡ o) → ((o : Open) → open_following o t ≡ o)
        → Q (ts ++ (t ∷ us)) → Q us

  module _ (profile : Profile) (Q : List Terminal → Type 0) (given : Gives profile Q) where
    -- lines that have forms at some places
    pub data Formed : List Line → Type 0 where
      none_formed : Formed []
      one_formed : {l : ℕ} {inside : Bool} {ts : List Terminal} {f : Form} {xs : List Line} → Q ts
          → F.FormAt profile inside ts f → Formed xs
          → Formed (line l f ∷ xs)

    cut : (xs : List Line) {ys : List Line} → Formed (xs ++ ys) → Formed xs × Formed ys
    cut [] a = (none_formed, a)
    cut (x ∷ xs) (one_formed q p a) = let w = cut xs a in (one_formed q p w.0, w.1)

    record Found (xs : List Line) (ss : List Stmt) : Type 0 where
      wells : Wells ss
      some : (xs ≡ [] → ⊥) → Full ss

    simples_full : {ts : List Terminal} {ss : List Stmt} → Q ts → F.Simples profile ts ss → Full ss
    simples_full q (F.last_simple p) = full (well_simple (form_simple p) (given.simple q p)) none
    simples_full q (F.ended_simple {ts = ts} p) = full (well_simple (form_simple p) (given.simple (given.front ts _ q) p)) none
    simples_full q (F.more_simples {ts = ts} {us = us} p c) =
        full (well_simple (form_simple p) (given.simple (given.front ts _ q) p))
        (wells_of (simples_full (given.rest ts us _ (simple_closes p) (λ o. refl) q) c))

    line_full : {inside : Bool} {ts : List Terminal} {ss : List Stmt} → Q ts → F.FormAt profile inside ts (simple_form ss) → Full ss
    line_full q (F.other_line n (F.simple_statements c)) = simples_full q c

    decorator_is : {inside : Bool} {ts : List Terminal} {e : Expr} → Q ts → F.FormAt profile inside ts (decorator_form e) → D e
    decorator_is q (F.other_line n (F.decorator_line p)) = given.decorator q (F.decorator_line p)

    suite_full : {inside : Bool} {ts : List Terminal} {h : Header} {suite : Option (List Stmt)} → Q ts
        → F.FormAt profile inside ts (header_form h suite) → FullSuite suite
    suite_full q (F.other_line n (F.header_line p)) = tt
    suite_full q (F.other_line n (F.header_suite {ts = ts} {us = us} p c)) =
        simples_full (given.rest ts us _ (header_closes p) (λ o. refl) q) c
    suite_full q (F.other_line n (F.match_line form w p)) = tt
    suite_full q (F.case_alone w p) = tt
    suite_full q (F.case_suite {ts = ts} {us = us} w p c) = simples_full (given.rest ts us _ (case_closes p) (λ o. refl) q) c

    head_is : {inside : Bool} {ts : List Terminal} {h : Header} {suite : Option (List Stmt)} → Q ts
        → F.FormAt profile inside ts (header_form h suite)
        → H h
    head_is q (F.other_line n (F.header_line {ts = ts} p)) = given.header (given.front ts _ q) (other_head p)
    head_is q (F.other_line n (F.header_suite {ts = ts} p c)) = given.header (given.front ts _ q) (other_head p)
    head_is q (F.other_line n (F.match_line {ts = ts} form w p)) =
        given.header (given.front (F.match_word form ∷ ts) _ q) (match_head form w p)
    head_is q (F.case_alone {ts = ts} w p) = given.header (given.front ts _ q) (case_head w p)
    head_is q (F.case_suite {ts = ts} w p c) = given.header (given.front ts _ q) (case_head w p)

    elif_is : {inside : Bool} {ts : List Terminal} {e : Expr} {suite : Option (List Stmt)} → Q ts
        → F.FormAt profile inside ts (header_form (if_header e) suite) → H (elif_header e)
    elif_is q (F.other_line n (F.header_line {ts = ts} p)) = given.elif_too (given.front ts _ q) p
    elif_is q (F.other_line n (F.header_suite {ts = ts} p c)) = given.elif_too (given.front ts _ q) p
    elif_is q (F.case_alone w p) = absurd (let z = case_is p in cc)
    elif_is q (F.case_suite w p c) = absurd (let z = case_is p in cc)

    if_is : {inside : Bool} {ts : List Terminal} {e : Expr} {suite : Option (List Stmt)} → Q ts
        → F.FormAt profile inside ts (header_form (elif_header e) suite) → H (if_header e)
    if_is q (F.other_line n (F.header_line {ts = ts} p)) = given.if_too (given.front ts _ q) p
    if_is q (F.other_line n (F.header_suite {ts = ts} p c)) = given.if_too (given.front ts _ q) p
    if_is q (F.case_alone w p) = absurd (let z = case_is p in cc)
    if_is q (F.case_suite w p c) = absurd (let z = case_is p in cc)

    definition_full : {l : ℕ} (head : DefHead) {suite : Option (List Stmt)} {xs : List Line} {es : List Expr} {body : List Stmt}
        → Decorated es
        → (FullSuite suite → Formed xs → Full body) → Formed (line l (header_form (def_header head) suite) ∷ xs)
        → Full (definition es head body ∷ [])
    definition_full head d p (one_formed q f a) = full (well_definition head d (head_is q f) (p (suite_full q f) a)) none

    clause_full : {l : ℕ} {h : Header} {suite : Option (List Stmt)} {xs : List Line} {body : List Stmt}
        → (FullSuite suite → Formed xs → Full body)
        → Formed (line l (header_form h suite) ∷ xs) → Full body
    clause_full p (one_formed q f a) = p (suite_full q f) a

    mutual
      block_found : {l : ℕ} {xs : List Line} {ss : List Stmt} → B.Block l xs ss → Formed xs → Found xs ss
      block_found B.nothing a = record { wells = none; some = λ h. absurd (h refl) }
      block_found (B.and_then {xs = xs} p q) a = let w = cut xs a in let u = append_full (statement_full p w.0) (block_found q w.1).wells in
          record { wells = wells_of u; some = λ h. u }

      statement_full : {l : ℕ} {xs : List Line} {ss : List Stmt} → B.Statement l xs ss → Formed xs → Full ss
      statement_full B.simple_line (one_formed q f a) = line_full q f
      statement_full (B.if_statement {xs = xs} p r) (one_formed q f a) = let w = cut xs a in
          full (well_if (head_is q f) (elif_is q f) (body_full p (suite_full q f) w.0) (alternative_wells r w.1)) none
      statement_full (B.loop_statement {head = head} {xs = xs} p r) (one_formed q f a) = let w = cut xs a in
          full (well_loop head (head_is q f) (body_full p (suite_full q f) w.0) (otherwise_wells r w.1)) none
      statement_full (B.with_statement {is_async = b} {items = items} p) (one_formed q f a) =
          full (well_with b items (head_is q f) (body_full p (suite_full q f) a)) none
      statement_full (B.try_finally {xs = xs} p r) (one_formed q f a) = let w = cut xs a in
          full (well_finally (body_full p (suite_full q f) w.0) (clause_full (λ s b. body_full r s b) w.1)) none
      statement_full (B.try_except {star = star} {xs = xs} {ys = ys} {zs = zs} p c r t) (one_formed q f a) = let u = cut xs a in let v =
          cut ys u.1 in let w = cut zs v.1 in
          full (well_except star (body_full p (suite_full q f) u.0) (excepts_handled c v.0) (otherwise_wells r w.0) (ending_wells t w.1))
          none
      statement_full (B.definition_of head {ds = ds} d p) a = let w = cut ds a in
          definition_full head (decorators_decorated d w.0) (λ s b. body_full p s b) w.1
      statement_full (B.match_statement (B.case_clause {xs = xs} p c)) (one_formed q f (one_formed r g a)) = let w = cut xs a in
          full (well_match (head_is q f) (one_cased (head_is r g) (body_full p (suite_full r g) w.0) (cases_cased c w.1))) none

      body_full : {l : ℕ} {suite : Option (List Stmt)} {xs : List Line} {ss : List Stmt} → B.Body l suite xs ss
          → FullSuite suite → Formed xs
          → Full ss
      body_full B.inline s a = s
      body_full (B.indented p) s a = (block_found p a).some (λ h. absurd (cc))

      alternative_wells : {l : ℕ} {xs : List Line} {ss : List Stmt} → B.Alternative l xs ss → Formed xs → Wells ss
      alternative_wells (B.an_else p) a = otherwise_wells p a
      alternative_wells (B.an_elif {xs = xs} p r) (one_formed q f a) = let w = cut xs a in
          one (well_if (if_is q f) (head_is q f) (body_full p (suite_full q f) w.0) (alternative_wells r w.1)) none

      otherwise_wells : {l : ℕ} {xs : List Line} {ss : List Stmt} → B.Otherwise l xs ss → Formed xs → Wells ss
      otherwise_wells B.no_else a = none
      otherwise_wells (B.else_clause p) (one_formed q f a) = wells_of (body_full p (suite_full q f) a)

      ending_wells : {l : ℕ} {xs : List Line} {ss : List Stmt} → B.Ending l xs ss → Formed xs → Wells ss
      ending_wells B.no_finally a = none
      ending_wells (B.finally_clause p) (one_formed q f a) = wells_of (body_full p (suite_full q f) a)

      excepts_handled : {l : ℕ} {star : Bool} {xs : List Line} {hs : List Handler} → B.Excepts l star xs hs → Formed xs → Handled star hs
      excepts_handled B.no_except a = none_handled
      excepts_handled (B.except_clause {xs = xs} p r) (one_formed q f a) = let w = cut xs a in
          one_handled (head_is q f) (body_full p (suite_full q f) w.0) (excepts_handled r w.1)

      cases_cased : {l : ℕ} {xs : List Line} {cs : List Case} → B.Cases l xs cs → Formed xs → Cased cs
      cases_cased B.no_case a = none_cased
      cases_cased (B.case_clause {xs = xs} p r) (one_formed q f a) = let w = cut xs a in
          one_cased (head_is q f) (body_full p (suite_full q f) w.0) (cases_cased r w.1)

      decorators_decorated : {l : ℕ} {xs : List Line} {es : List Expr} → B.Decorators l xs es → Formed xs → Decorated es
      decorators_decorated B.no_decorator a = none_decorated
      decorators_decorated (B.decorator p) (one_formed q f a) = one_decorated (decorator_is q f) (decorators_decorated p a)

    pub block_wells : {l : ℕ} {xs : List Line} {ss : List Stmt} → B.Block l xs ss → Formed xs → Wells ss
    block_wells p a = (block_found p a).wells
