-- The reading of blocks refuses a line exactly where it is faulty.
--
-- Carries: is_marked, is_decorator, not_marked, no_decorator_header and 16 more, for Settling,
-- Law. On: Standing, Growing, Nested.
use Rattle.std.proofs.Common.{◌≡◌, List, [], ◌∷◌, Option, Some, None, Bool, true, false, cond, refl, sym, ap, ◌∙◌}
use Rattle.pytree_node.specs.Trees.{Expr, Identifier, Pattern, Stmt, Handler}
use Rattle.pygrammar.specs.Lines.{Line, Header, if_header, elif_header, else_header, loop_header, with_header, try_header, except_header}
use Rattle.pygrammar.specs.Lines.{finally_header, def_header, match_header, case_header, DefHead}
use Rattle.pygrammar.specs.Blocks.{Kind, DecoratorLine, IfLine, LoopLine, WithLine, TryLine, DefLine, MatchLine, header_kind, kind_of}
use Rattle.pygrammar.specs.Blocks.{same_bool, is_try_clause, is_decorated, is_case}
use Rattle.pygrammar.specs.Reading.{Group, Idle, Marked, Choice, Loop, Trial, Caught, Settled, Matching, closes, PartialBlock, part, ended}
use Rattle.pygrammar.specs.Reading.{meets}
use Rattle.pygrammar.specs.Reading.{grows, decorated, first_group}
use Rattle.pygrammar.proofs.Block.Growing.{ended_of}
use Rattle.pygrammar.proofs.Block.Nested.{is_matching}
use Rattle.pygrammar.proofs.Block.Standing.{Standing, Free, AfterIf, AfterLoop, AfterTry, AfterExcept, AfterSettled, AfterDecorator, after}
use Rattle.pygrammar.proofs.Block.Standing.{stand, admits}

-- ---- What groups take.

abbrev pub is_marked : Group → Bool
is_marked (Marked _) = true
is_marked _ = false

abbrev pub is_decorator : Kind → Bool
is_decorator DecoratorLine = true
is_decorator _ = false

abbrev pub last_decorator : List Line → Bool
last_decorator [] = false
last_decorator (x ∷ _) = is_decorator (kind_of x.form)

unmarked_elif : (g : Group) (t : Expr) (body : List Stmt) → is_marked (grows g (elif_header t) body).group ≡ false
unmarked_elif Idle t body = refl
unmarked_elif _ t body = refl

unmarked_else : (g : Group) (body : List Stmt) → is_marked (grows g else_header body).group ≡ false
unmarked_else Idle body = refl
unmarked_else _ body = refl

unmarked_except : (g : Group) (s : Bool) (m : Option Expr) (n : Option Identifier) (body : List Stmt)
    → is_marked (grows g (except_header s m n) body).group ≡ false
unmarked_except Idle s m n body = refl
unmarked_except _ s m n body = refl

unmarked_finally : (g : Group) (body : List Stmt) → is_marked (grows g finally_header body).group ≡ false
unmarked_finally Idle body = refl
unmarked_finally _ body = refl

unmarked_def : (g : Group) (t : DefHead) (body : List Stmt) → is_marked (grows g (def_header t) body).group ≡ false
unmarked_def Idle t body = refl
unmarked_def _ t body = refl

unmarked_case : (g : Group) (q : Pattern) (guard : Option Expr) (body : List Stmt)
    → is_marked (grows g (case_header q guard) body).group ≡ false
unmarked_case Idle q guard body = refl
unmarked_case _ q guard body = refl

pub not_marked : (g : Group) (h : Header) (body : List Stmt) → is_marked (grows g h body).group ≡ false
not_marked g (if_header _) body = refl
not_marked g (elif_header t) body = unmarked_elif g t body
not_marked g else_header body = unmarked_else g body
not_marked g (loop_header _) body = refl
not_marked g (with_header _ _) body = refl
not_marked g try_header body = refl
not_marked g (except_header s m n) body = unmarked_except g s m n body
not_marked g finally_header body = unmarked_finally g body
not_marked g (def_header t) body = unmarked_def g t body
not_marked g (match_header _) body = refl
not_marked g (case_header q guard) body = unmarked_case g q guard body

pub first_unmarked : (h : Header) → is_marked (first_group h) ≡ false
first_unmarked (match_header _) = refl
first_unmarked _ = refl

pub first_stands : (h : Header) → stand (first_group h) ≡ Free
first_stands (match_header _) = refl
first_stands _ = refl

pub no_decorator_header : (h : Header) → is_decorator (header_kind h) ≡ false
no_decorator_header (if_header _) = refl
no_decorator_header _ = refl

stands_new : (g : Group) (h : Header) (p : PartialBlock) (body : List Stmt) (s : Standing) → ended g ≡ Some p
    → stand (grows Idle h body).group ≡ s
    → stand (grows p.group h body).group ≡ s
stands_new g h p body s e k =
    let n = ended_of g p (closes g) refl e in
    let i : part n.more Idle ≡ p = cc (n.is) in
    ap (λ z. stand (grows z.group h body).group) (sym i) ∙ k

stands_on : (g : Group) (h : Header) (p : PartialBlock) (body : List Stmt) (s : Standing) → Some (part [] g) ≡ Some p
    → stand (grows g h body).group ≡ s → stand (grows p.group h body).group ≡ s
stands_on g h p body s e k = let i : part [] g ≡ p = cc in ap (λ z. stand (grows z.group h body).group) (sym i) ∙ k

stands_except : (other star : Bool) (first : List Stmt) (hs : List Handler) (m : Option Expr) (name : Option Identifier)
    (p : PartialBlock) (body : List Stmt) →
    cond (same_bool other star) (Some (part [] (Caught star first hs))) None ≡ Some p
    → stand (grows p.group (except_header other m name) body).group ≡ AfterExcept other
stands_except true true first hs m name p body e = stands_on (Caught true first hs) (except_header true m name) p body
    (AfterExcept true) e refl
stands_except false false first hs m name p body e = stands_on (Caught false first hs) (except_header false m name) p body
    (AfterExcept false) e refl
stands_except true false first hs m name p body e = cc
stands_except false true first hs m name p body e = cc

pub grows_stands : (g : Group) (h : Header) (p : PartialBlock) (body : List Stmt) → meets g h ≡ Some p
    → stand (grows p.group h body).group ≡ after (header_kind h) (stand g)
grows_stands g (if_header t) p body e = stands_new g (if_header t) p body AfterIf e refl
grows_stands g (loop_header t) p body e = stands_new g (loop_header t) p body AfterLoop e refl
grows_stands g (with_header a t) p body e = stands_new g (with_header a t) p body Free e refl
grows_stands g try_header p body e = stands_new g try_header p body AfterTry e refl
grows_stands g (match_header t) p body e = stands_new g (match_header t) p body Free e refl
grows_stands (Choice arms) (elif_header t) p body e = stands_on (Choice arms) (elif_header t) p body AfterIf e refl
grows_stands (Choice arms) else_header p body e = stands_on (Choice arms) else_header p body Free e refl
grows_stands (Loop h b) else_header p body e = stands_on (Loop h b) else_header p body Free e refl
grows_stands (Caught s b hs) else_header p body e = stands_on (Caught s b hs) else_header p body AfterSettled e refl
grows_stands (Trial b) (except_header s m n) p body e = stands_on (Trial b) (except_header s m n) p body (AfterExcept s) e refl
grows_stands (Caught s b hs) (except_header other m n) p body e = stands_except other s b hs m n p body e
grows_stands (Trial b) finally_header p body e = stands_on (Trial b) finally_header p body Free e refl
grows_stands (Caught s b hs) finally_header p body e = stands_on (Caught s b hs) finally_header p body Free e refl
grows_stands (Settled s b hs o) finally_header p body e = stands_on (Settled s b hs o) finally_header p body Free e refl
grows_stands (Marked es) (def_header t) p body e = stands_on (Marked es) (def_header t) p body Free e refl
grows_stands g (def_header t) p body e = stands_new g (def_header t) p body Free e refl
grows_stands (Matching cs) (case_header q c) p body e = stands_on (Matching cs) (case_header q c) p body Free e refl
grows_stands g h p body e = cc

-- a line of this kind may stand here
pub record Fits (k : Kind) (g : Group) : Type 0 where
  pub follows : admits k (stand g) ≡ true
  pub tries : stand g ≡ AfterTry → is_try_clause k ≡ true
  pub decorates : stand g ≡ AfterDecorator → is_decorated k ≡ true
  pub placed : same_bool (is_matching g) (is_case k) ≡ true

-- or may not
pub data Wrong (k : Kind) (g : Group) : Type 0 where
  wrong_follow : admits k (stand g) ≡ false → Wrong k g
  wrong_try : stand g ≡ AfterTry → is_try_clause k ≡ false → Wrong k g
  wrong_decorator : stand g ≡ AfterDecorator → is_decorated k ≡ false → Wrong k g
  wrong_place : same_bool (is_matching g) (is_case k) ≡ false → Wrong k g

pub fits_closed : (g : Group) (more : List Stmt) (k : Kind) → closes g ≡ Some more → admits k (stand g) ≡ true
    → is_case k ≡ false → Fits k g
fits_closed (Marked es) more k e h c = cc
fits_closed (Trial b) more k e h c = cc
fits_closed (Matching cs) more k e h c = cc
fits_closed g more k e h c = record { follows = h; tries = λ i. cc; decorates = λ i. cc; placed = ap (same_bool false) c }

fits_ended : (g : Group) (p : PartialBlock) (k : Kind) → ended g ≡ Some p → admits k (stand g) ≡ true → is_case k ≡ false → Fits k g
fits_ended g p k e h c = let n = ended_of g p (closes g) refl e in fits_closed g n.more k n.closed h c

pub wrong_closed : (g : Group) (k : Kind) → closes g ≡ None → is_try_clause k ≡ false → is_decorated k ≡ false
    → is_case k ≡ false → Wrong k g
wrong_closed (Marked es) k e t d c = wrong_decorator refl d
wrong_closed (Trial b) k e t d c = wrong_try refl t
wrong_closed (Matching cs) k e t d c = wrong_place (ap (same_bool true) c)
wrong_closed g k e t d c = cc

not_ended : (g : Group) (o : Option (List Stmt)) → closes g ≡ o
    → ◌≡◌ {A = Option PartialBlock} (elim o [ None ↦ None | Some ss ↦ Some (part ss Idle) ]) None → closes g ≡ None
not_ended g None c e = c
not_ended g (Some ss) c e = cc

wrong_ended : (g : Group) (k : Kind) → ended g ≡ None → is_try_clause k ≡ false → is_decorated k ≡ false → is_case k ≡ false → Wrong k g
wrong_ended g k e t d c = wrong_closed g k (not_ended g (closes g) refl e) t d c

wrong_kind : (other star : Bool) (p : PartialBlock) → cond (same_bool other star) (Some p) None ≡ None → same_bool other star ≡ false
wrong_kind true true p e = cc
wrong_kind false false p e = cc
wrong_kind true false p e = refl
wrong_kind false true p e = refl

right_kind : (other star : Bool) (p q : PartialBlock) → cond (same_bool other star) (Some p) None ≡ Some q → same_bool other star ≡ true
right_kind true true p q e = refl
right_kind false false p q e = refl
right_kind true false p q e = cc
right_kind false true p q e = cc

pub fits_header : (g : Group) (h : Header) (p : PartialBlock) → meets g h ≡ Some p → Fits (header_kind h) g
fits_header g (if_header t) p e = fits_ended g p IfLine e refl refl
fits_header g (loop_header t) p e = fits_ended g p LoopLine e refl refl
fits_header g (with_header a t) p e = fits_ended g p WithLine e refl refl
fits_header g try_header p e = fits_ended g p TryLine e refl refl
fits_header g (match_header t) p e = fits_ended g p MatchLine e refl refl
fits_header (Choice arms) (elif_header t) p e = record { follows = refl; tries = λ i. cc; decorates = λ i. cc; placed = refl }
fits_header (Choice arms) else_header p e = record { follows = refl; tries = λ i. cc; decorates = λ i. cc; placed = refl }
fits_header (Loop h b) else_header p e = record { follows = refl; tries = λ i. cc; decorates = λ i. cc; placed = refl }
fits_header (Caught s b hs) else_header p e = record { follows = refl; tries = λ i. cc; decorates = λ i. cc; placed = refl }
fits_header (Trial b) (except_header s m n) p e = record { follows = refl; tries = λ i. refl; decorates = λ i. cc; placed = refl }
fits_header (Caught s b hs) (except_header other m n) p e = record {
  follows = right_kind other s (part [] (Caught s b hs)) p e;
  tries =
      λ i. refl;
  decorates = λ i. cc;
  placed = refl;
}
fits_header (Trial b) finally_header p e = record { follows = refl; tries = λ i. refl; decorates = λ i. cc; placed = refl }
fits_header (Caught s b hs) finally_header p e = record { follows = refl; tries = λ i. refl; decorates = λ i. cc; placed = refl }
fits_header (Settled s b hs o) finally_header p e = record { follows = refl; tries = λ i. refl; decorates = λ i. cc; placed = refl }
fits_header (Marked es) (def_header t) p e = record { follows = refl; tries = λ i. cc; decorates = λ i. refl; placed = refl }
fits_header g (def_header t) p e = fits_ended g p DefLine e refl refl
fits_header (Matching cs) (case_header q c) p e = record { follows = refl; tries = λ i. cc; decorates = λ i. cc; placed = refl }
fits_header g h p e = cc

pub wrong_header : (g : Group) (h : Header) → meets g h ≡ None → Wrong (header_kind h) g
wrong_header g (if_header t) e = wrong_ended g IfLine e refl refl refl
wrong_header g (loop_header t) e = wrong_ended g LoopLine e refl refl refl
wrong_header g (with_header a t) e = wrong_ended g WithLine e refl refl refl
wrong_header g try_header e = wrong_ended g TryLine e refl refl refl
wrong_header g (match_header t) e = wrong_ended g MatchLine e refl refl refl
wrong_header (Caught s b hs) (except_header other m n) e = wrong_follow (wrong_kind other s (part [] (Caught s b hs)) e)
wrong_header (Trial b) (def_header t) e = wrong_try refl refl
wrong_header (Matching cs) (def_header t) e = wrong_place refl
wrong_header (Choice arms) (elif_header t) e = cc
wrong_header g (elif_header t) e = wrong_follow refl
wrong_header (Choice arms) else_header e = cc
wrong_header (Loop h b) else_header e = cc
wrong_header (Caught s b hs) else_header e = cc
wrong_header g else_header e = wrong_follow refl
wrong_header (Trial b) (except_header s m n) e = cc
wrong_header g (except_header s m n) e = wrong_follow refl
wrong_header (Trial b) finally_header e = cc
wrong_header (Caught s b hs) finally_header e = cc
wrong_header (Settled s b hs o) finally_header e = cc
wrong_header g finally_header e = wrong_follow refl
wrong_header g (def_header t) e = cc
wrong_header (Matching cs) (case_header q c) e = cc
wrong_header g (case_header q c) e = wrong_place refl

pub fits_decorator : (g : Group) (x : Expr) (p : PartialBlock) → decorated g x ≡ Some p → Fits DecoratorLine g
fits_decorator (Marked es) x p e = record { follows = refl; tries = λ i. cc; decorates = λ i. refl; placed = refl }
fits_decorator (Trial b) x p e = cc
fits_decorator (Matching cs) x p e = cc
fits_decorator g x p e = record { follows = refl; tries = λ i. cc; decorates = λ i. cc; placed = refl }

pub wrong_decorator_line : (g : Group) (x : Expr) → decorated g x ≡ None → Wrong DecoratorLine g
wrong_decorator_line (Trial b) x e = wrong_try refl refl
wrong_decorator_line (Matching cs) x e = wrong_place refl
wrong_decorator_line g x e = cc
