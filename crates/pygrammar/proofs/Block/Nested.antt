-- How levels come to their end: a level has the group of a `match`'s block exactly where the level below waits with a `match`.
--
-- Carries: is_matching, in_match, AreNested, Ends and 10 more, for Sound, Fitting, Settling,
-- Law. On: Growing.
use Rattle.std.proofs.Common.{◌≡◌, List, [], ◌∷◌, ◌++◌, Option, Some, None, Bool, true, false, cond, refl, sym, ap, ◌∙◌, subst}
use Rattle.pytree_node.specs.Trees.{Expr, Identifier, Stmt, Case, Handler}
use Rattle.pygrammar.specs.Lines.{Header, if_header, elif_header, else_header, loop_header, with_header, try_header, except_header}
use Rattle.pygrammar.specs.Lines.{finally_header, def_header, match_header, case_header, header_form, is_proper}
use Rattle.pygrammar.specs.Blocks.{header_kind, is_match, same_bool}
use Rattle.pygrammar.specs.Reading.{Group, Idle, Marked, Choice, Loop, Trial, Caught, Settled, Matching, closes, PartialBlock, part, ended}
use Rattle.pygrammar.specs.Reading.{meets}
use Rattle.pygrammar.specs.Reading.{grows, decorated, Waiting, waiting, joined, first_group, matched, above}
use Rattle.pygrammar.proofs.Block.Growing.{ended_of}

-- ---- A level ends.

-- a block of cases, or one of statements
pub data Ends (w : Waiting) (d : List Stmt) : Group → PartialBlock → Type 0 where
  ends_cases : (cs : List Case) → Ends w d (Matching cs) (part (w.done ++ matched w.header cs) Idle)
  ends_block : {g : Group} (ss : List Stmt) → closes g ≡ Some ss → Ends w d g (joined w.done w.group w.header (d ++ ss))

pub ends_of : (w : Waiting) (d : List Stmt) (g : Group) (p : PartialBlock) → above w d g ≡ Some p → Ends w d g p
ends_of w d (Matching cs) p e = let P : PartialBlock → Type 0 = λ z. Ends w d (Matching cs) z in
    let i : part (w.done ++ matched w.header cs) Idle ≡
    p = cc in subst P i (ends_cases cs)
ends_of w d g p e = elim (closes g) as (λ o. closes g ≡ o
    → elim o [ None ↦ None | Some ss ↦ Some (joined w.done w.group w.header (d ++ ss)) ] ≡ Some p → Ends w d g p) [
      | None ↦ λ c k. cc
      | Some ss ↦ λ c k. let P : PartialBlock → Type 0 = λ z. Ends w d g z in let i : joined w.done w.group w.header (d ++ ss) ≡ p = cc in
          subst P i (ends_block ss c)
    ] refl e

-- ---- Groups in the block of a `match`.

abbrev pub is_matching : Group → Bool
is_matching (Matching _) = true
is_matching _ = false

pub closed_unmatched : (g : Group) (ss : List Stmt) → closes g ≡ Some ss → is_matching g ≡ false
closed_unmatched (Matching cs) ss e = cc
closed_unmatched _ ss e = refl

decorated_unmatched : (g : Group) (x : Expr) (p : PartialBlock) → decorated g x ≡ Some p → is_matching g ≡ false
decorated_unmatched (Matching cs) x p e = cc
decorated_unmatched _ x p e = refl

-- what is left is decorators
pub decorated_same : (g : Group) (x : Expr) (p : PartialBlock) → decorated g x ≡ Some p → is_matching p.group ≡ is_matching g
decorated_same (Marked es) x p e = let i : part [] (Marked (es ++ x ∷ [])) ≡ p = cc in ap (λ z. is_matching z.group) (sym i)
decorated_same g x p e = marked (closes g) e ∙ sym (decorated_unmatched g x p e)
  where
    marked : (o : Option (List Stmt)) → elim o [ None ↦ None | Some ss ↦ Some (part ss (Marked (x ∷ []))) ] ≡ Some p
        → is_matching p.group ≡ false
    marked None e = cc
    marked (Some ss) e = let i : part ss (Marked (x ∷ [])) ≡ p = cc in ap (λ z. is_matching z.group) (sym i)

same_new : (g : Group) (h : Header) (p : PartialBlock) (body : List Stmt) → ended g ≡ Some p → is_matching (grows Idle h body).group ≡ false
    → is_matching (grows p.group h body).group ≡ is_matching g
same_new g h p body e k =
    let n = ended_of g p (closes g) refl e in
    let i : part n.more Idle ≡ p = cc (n.is) in
    ap (λ z. is_matching (grows z.group h body).group) (sym i) ∙ k ∙ sym (closed_unmatched g n.more n.closed)

same_on : (g : Group) (h : Header) (p : PartialBlock) (body : List Stmt) → Some (part [] g) ≡ Some p
    → is_matching (grows g h body).group ≡ is_matching g → is_matching (grows p.group h body).group ≡ is_matching g
same_on g h p body e k = let i : part [] g ≡ p = cc in ap (λ z. is_matching (grows z.group h body).group) (sym i) ∙ k

same_except : (other star : Bool) (first : List Stmt) (hs : List Handler) (m : Option Expr) (name : Option Identifier)
    (p : PartialBlock) (body : List Stmt) →
    cond (same_bool other star) (Some (part [] (Caught star first hs))) None ≡ Some p
    → is_matching (grows p.group (except_header other m name) body).group ≡ false
same_except true true first hs m name p body e = same_on (Caught true first hs) (except_header true m name) p body e refl
same_except false false first hs m name p body e = same_on (Caught false first hs) (except_header false m name) p body e refl
same_except true false first hs m name p body e = cc
same_except false true first hs m name p body e = cc

-- a header and its block don't change whether it is such a group
pub grows_same : (g : Group) (h : Header) (p : PartialBlock) (body : List Stmt) → meets g h ≡ Some p
    → is_matching (grows p.group h body).group ≡ is_matching g
grows_same g (if_header t) p body e = same_new g (if_header t) p body e refl
grows_same g (loop_header t) p body e = same_new g (loop_header t) p body e refl
grows_same g (with_header a t) p body e = same_new g (with_header a t) p body e refl
grows_same g try_header p body e = same_new g try_header p body e refl
grows_same g (match_header t) p body e = same_new g (match_header t) p body e refl
grows_same (Choice arms) (elif_header t) p body e = same_on (Choice arms) (elif_header t) p body e refl
grows_same (Choice arms) else_header p body e = same_on (Choice arms) else_header p body e refl
grows_same (Loop h b) else_header p body e = same_on (Loop h b) else_header p body e refl
grows_same (Caught s b hs) else_header p body e = same_on (Caught s b hs) else_header p body e refl
grows_same (Trial b) (except_header s m n) p body e = same_on (Trial b) (except_header s m n) p body e refl
grows_same (Caught s b hs) (except_header other m n) p body e = same_except other s b hs m n p body e
grows_same (Trial b) finally_header p body e = same_on (Trial b) finally_header p body e refl
grows_same (Caught s b hs) finally_header p body e = same_on (Caught s b hs) finally_header p body e refl
grows_same (Settled s b hs o) finally_header p body e = same_on (Settled s b hs o) finally_header p body e refl
grows_same (Marked es) (def_header t) p body e = same_on (Marked es) (def_header t) p body e refl
grows_same g (def_header t) p body e = same_new g (def_header t) p body e refl
grows_same (Matching cs) (case_header q c) p body e = same_on (Matching cs) (case_header q c) p body e refl
grows_same g h p body e = cc

-- ---- Levels.

-- whether the deepest level is the block of a `match`
abbrev pub in_match : List Waiting → Bool
in_match [] = false
in_match (w ∷ _) = is_match (header_kind w.header)

-- each level, whatever blocks end above it
abbrev pub AreNested : Group → List Waiting → Type 0
AreNested g [] = is_matching g ≡ false
AreNested g (w ∷ below) = (is_matching g ≡ is_match (header_kind w.header)) × ((body : List Stmt)
    → AreNested (grows w.group w.header body).group below)

pub nested_is : (g : Group) (below : List Waiting) → AreNested g below → is_matching g ≡ in_match below
nested_is g [] n = n
nested_is g (w ∷ below) n = n.0

pub nested_on : (g g' : Group) (below : List Waiting) → is_matching g' ≡ is_matching g → AreNested g below → AreNested g' below
nested_on g g' [] e n = e ∙ n
nested_on g g' (w ∷ below) e n = (e ∙ n.0, n.1)

first_matching : (h : Header) → is_matching (first_group h) ≡ is_match (header_kind h)
first_matching (match_header t) = refl
first_matching _ = refl

-- a header opens a level
pub nested_deeper : (g : Group) (below : List Waiting) (d : List Stmt) (h : Header) (p : PartialBlock)
    → meets g h ≡ Some p → AreNested g below
    → AreNested (first_group h) (waiting d p.group h ∷ below)
nested_deeper g below d h p e n = (first_matching h, λ body. nested_on g (grows p.group h body).group below (grows_same g h p body e) n)

pub grows_match : (g : Group) (h : Header) (body : List Stmt) → is_match (header_kind h) ≡ true → (grows g h body).group ≡ Idle
grows_match g (match_header t) body e = refl
grows_match g h body e = cc

-- and a level ends
pub nested_pop : (w : Waiting) (d : List Stmt) (g : Group) (p : PartialBlock) (below : List Waiting) → Ends w d g p
    → AreNested g (w ∷ below)
    → AreNested p.group below
nested_pop w d g p below (ends_cases cs) n = let P : Group → Type 0 = λ z. AreNested z below in
    subst P (grows_match w.group w.header [] (sym n.0)) (n.1 [])
nested_pop w d g p below (ends_block ss c) n = n.1 (d ++ ss)

-- no other header than that of a `match` has an inline suite
pub proper_no_match : (h : Header) (suite : List Stmt) → is_proper (header_form h (Some suite)) ≡ true → is_match (header_kind h) ≡ false
proper_no_match (match_header t) suite e = cc
proper_no_match _ suite e = refl
