-- What a header and its block make of a group is what the relation makes of them.
--
-- Carries: ended_of, Prefix, block_to, closed_prefix and 6 more, for Sound, Nested, Fitting. On:
-- Leads.
use Rattle.std.proofs.Common.{◌≡◌, ℕ, suc, List, [], ◌∷◌, ◌++◌, Option, Some, None, Bool, true, false, cond, refl, sym, ap, ◌∙◌, subst}
use Rattle.std.proofs.Common.{append_assoc, append-nil}
use Rattle.pytree_node.specs.Trees.{Expr, Identifier, Pattern, Stmt, Case, Handler, If, Match, cases, stmts}
use Rattle.pygrammar.specs.Lines.{Line, line, header_form, Header, if_header, elif_header, else_header, loop_header, with_header}
use Rattle.pygrammar.specs.Lines.{try_header, except_header, finally_header, def_header, match_header, case_header, loop, with_of}
use Rattle.pygrammar.specs.Lines.{definition, try_of}
use Rattle.pygrammar.specs.Blocks.{handler, case_of, same_bool, header_kind, is_match, Block, Statement, Body, Alternative, Otherwise}
use Rattle.pygrammar.specs.Blocks.{Excepts, Cases, Ending, Decorators, nothing, and_then, if_statement, loop_statement, with_statement}
use Rattle.pygrammar.specs.Blocks.{try_finally, try_except, definition_of, match_statement, an_else, an_elif, no_else, else_clause}
use Rattle.pygrammar.specs.Blocks.{no_except, except_clause, no_case, case_clause, no_finally, finally_clause, no_decorator}
use Rattle.pygrammar.specs.Reading.{arm, Group, Idle, Marked, Choice, Loop, Trial, Caught, Settled, Matching, choice, closes, PartialBlock}
use Rattle.pygrammar.specs.Reading.{part}
use Rattle.pygrammar.specs.Reading.{ended, meets, grows, joined, matched}
use Rattle.pygrammar.proofs.Block.Leads.{choice-append, no_gap}

-- lines of a group, whose statement the clauses to come make whole; in the block of a `match` no lines stand before its cases
abbrev pub Grown : ℕ → List Line → List Line → Group → Type 0
Grown l front xs Idle = xs ≡ []
Grown l front xs (Marked es) = Decorators l xs es
Grown l front xs (Choice arms) = (ys : List Line) (orelse : List Stmt) → Alternative l ys orelse
    → Statement l (xs ++ ys) (choice arms orelse)
Grown l front xs (Loop head body) = (ys : List Line) (orelse : List Stmt) → Otherwise l ys orelse
    → Statement l (xs ++ ys) (loop head body orelse ∷ [])
Grown l front xs (Trial body) = (suite : Option (List Stmt)) × (ys : List Line) ×
    (xs ≡ line l (header_form try_header suite) ∷ ys) × Body l suite ys body
Grown l front xs (Caught star body hs) =
    (ys : List Line) (more : List Handler) (zs : List Line) (orelse : List Stmt) (ws : List Line) (final : List Stmt) →
    Excepts l star ys more → Otherwise l zs orelse → Ending l ws final
    → Statement l (xs ++ (ys ++ (zs ++ ws))) (try_of star body (hs ++ more) orelse final ∷ [])
Grown l front xs (Settled star body hs orelse) =
    (ws : List Line) (final : List Stmt) → Ending l ws final → Statement l (xs ++ ws) (try_of star body hs orelse final ∷ [])
Grown l front xs (Matching cs) = (front ≡ []) × Cases l xs cs

-- lines of a level so far
pub record Prefix (l : ℕ) (xs : List Line) (d : List Stmt) (g : Group) : Type 0 where
  pub front : List Line
  pub back : List Line
  pub is : xs ≡ front ++ back
  pub block : Block l front d
  pub grown : Grown l front back g

block-append : {l : ℕ} {xs ys : List Line} {a b : List Stmt} → Block l xs a → Block l ys b → Block l (xs ++ ys) (a ++ b)
block-append nothing q = q
block-append {l} {ys = ys} {b = b} (and_then {xs = xs} {ys = zs} {ss = ss} {more = more} p r) q =
    let P : List Line → Type 0 = λ z. Block l z ((ss ++ more) ++ b) in
    let Q : List Stmt → Type 0 = λ z. Block l (xs ++ (zs ++ ys)) z in
    subst P (sym (append_assoc xs zs ys)) (subst Q (sym (append_assoc ss more b)) (and_then p (block-append r q)))

one_block : {l : ℕ} {xs : List Line} {ss : List Stmt} → Statement l xs ss → Block l xs ss
one_block {l} {xs} {ss} p =
    let P : List Line → Type 0 = λ z. Block l z ss in
    let Q : List Stmt → Type 0 = λ z. Block l (xs ++ []) z in
    subst P (append-nil xs) (subst Q (append-nil ss) (and_then p nothing))

lines_to : {l : ℕ} {xs ys : List Line} {ss : List Stmt} → xs ≡ ys → Statement l xs ss → Statement l ys ss
lines_to {l} {xs} {ys} {ss} e p = let P : List Line → Type 0 = λ z. Statement l z ss in subst P e p

tree_to : {l : ℕ} {xs : List Line} {a b : List Stmt} → a ≡ b → Statement l xs a → Statement l xs b
tree_to {l} {xs} e p = let P : List Stmt → Type 0 = λ z. Statement l xs z in subst P e p

pub block_to : {l : ℕ} {xs ys : List Line} {a b : List Stmt} → xs ≡ ys → a ≡ b → Block l xs a → Block l ys b
block_to {l} {xs} {ys} {a} {b} e k p = let P : List Line → Type 0 = λ z. Block l z b in let Q : List Stmt → Type 0 =
    λ z. Block l xs z in subst P e (subst Q k p)

-- a group that ends
grown_block : (l : ℕ) (front xs : List Line) (g : Group) (ss : List Stmt) → closes g ≡ Some ss → Grown l front xs g → Block l xs ss
grown_block l front xs Idle ss e k = let h : [] ≡ ss = cc in block_to (sym k) h nothing
grown_block l front xs (Marked es) ss e k = cc
grown_block l front xs (Choice arms) ss e k = let h : choice arms [] ≡ ss = cc in
    block_to (append-nil xs) h (one_block (k [] [] (an_else no_else)))
grown_block l front xs (Loop head body) ss e k = let h : loop head body [] ∷ [] ≡ ss = cc in
    block_to (append-nil xs) h (one_block (k [] [] no_else))
grown_block l front xs (Trial body) ss e k = cc
grown_block l front xs (Caught star body hs) ss e k =
    let h : try_of star body hs [] [] ∷ [] ≡ ss = cc in
    block_to (append-nil xs) (ap (λ z. try_of star body z [] [] ∷ []) (append-nil hs) ∙ h)
    (one_block (k [] [] [] [] [] [] no_except no_else no_finally))
grown_block l front xs (Settled star body hs orelse) ss e k = let h : try_of star body hs orelse [] ∷ [] ≡ ss = cc in
    block_to (append-nil xs) h (one_block (k [] [] no_finally))
grown_block l front xs (Matching cs) ss e k = cc

pub closed_prefix : {l : ℕ} {xs : List Line} {d : List Stmt} {g : Group} (ss : List Stmt) → closes g ≡ Some ss
    → Prefix l xs d g → Block l xs (d ++ ss)
closed_prefix {l} {xs} {d} {g} ss e p = block_to (sym p.is) refl (block-append p.block (grown_block l p.front p.back g ss e p.grown))

pub prefix_to : {l : ℕ} {xs : List Line} {d e : List Stmt} {g : Group} → d ≡ e → Prefix l xs d g → Prefix l xs e g
prefix_to {l} {xs} {d} {e} {g} h p = let P : List Stmt → Type 0 = λ z. Prefix l xs z g in subst P h p

-- lines that begin a statement, and those that are a whole one
pub begins : {l : ℕ} {xs : List Line} {d : List Stmt} {g : Group} (zs : List Line) (more : List Stmt) (g' : Group) → closes g ≡ Some more
    → Prefix l xs d g → Grown l xs zs g' → Prefix l (xs ++ zs) (d ++ more) g'
begins {l} {xs} {d} {g} zs more g' e p k = record { front = xs; back = zs; is = refl; block = closed_prefix more e p; grown = k }

pub whole : {l : ℕ} {xs : List Line} {d : List Stmt} {g : Group} (zs : List Line) (more ss : List Stmt) → closes g ≡ Some more
    → Prefix l xs d g → Statement l zs ss → Prefix l (xs ++ zs) ((d ++ more) ++ ss) Idle
whole {l} {xs} {d} {g} zs more ss e p k =
    record {
      front = xs ++ zs;
      back = [];
      is = sym (append-nil (xs ++ zs));
      block =
          block-append (closed_prefix more e p) (one_block k);
      grown = refl;
    }

-- lines that go on with a group, and those that make it whole
pub extends : {l : ℕ} {xs : List Line} {d : List Stmt} {g : Group} (zs : List Line) (g' : Group) → Prefix l xs d g
    → ((front ys : List Line) → Grown l front ys g → Grown l front (ys ++ zs) g') → Prefix l (xs ++ zs) d g'
extends {l} {xs} {d} {g} zs g' p k =
    record {
      front = p.front;
      back = p.back ++ zs;
      is = ap (λ y. y ++ zs) p.is ∙ append_assoc p.front p.back zs;
      block = p.block;
      grown =
          k p.front p.back p.grown;
    }

completes : {l : ℕ} {xs : List Line} {d : List Stmt} {g : Group} (zs : List Line) (ss : List Stmt) → Prefix l xs d g
    → ((front ys : List Line) → Grown l front ys g → Statement l (ys ++ zs) ss) → Prefix l (xs ++ zs) (d ++ ss) Idle
completes {l} {xs} {d} {g} zs ss p k =
    record {
      front = xs ++ zs;
      back = [];
      is = sym (append-nil (xs ++ zs));
      block = block_to (sym (ap (λ y. y ++ zs) p.is ∙ append_assoc p.front p.back zs)) refl
          (block-append p.block (one_block (k p.front p.back p.grown)));
      grown = refl;
    }

-- what a header and its block make of a level
pub record GrowsBy (l : ℕ) (xs : List Line) (suite : Option (List Stmt)) (ys : List Line) (body : List Stmt) (h : Header) (d : List Stmt)
    (p : PartialBlock) : Type 0 where
  pub prefix : Prefix l (xs ++ (line l (header_form h suite) ∷ ys)) (joined (d ++ p.done) p.group h body).done
      (joined (d ++ p.done) p.group h body).group

from_part : {l : ℕ} {xs ys : List Line} {suite : Option (List Stmt)} {body d : List Stmt} {h : Header} (q p : PartialBlock)
    → Some q ≡ Some p
    → GrowsBy l xs suite ys body h d q → GrowsBy l xs suite ys body h d p
from_part {l} {xs} {ys} {suite} {body} {d} {h} q p e k = let i : q ≡ p = cc in let P : PartialBlock → Type 0 =
    λ z. GrowsBy l xs suite ys body h d z in subst P i k

pub record Ended (g : Group) (p : PartialBlock) : Type 0 where
  pub more : List Stmt
  pub closed : closes g ≡ Some more
  pub is : Some (part more Idle) ≡ Some p

pub ended_of : (g : Group) (p : PartialBlock) (o : Option (List Stmt)) → closes g ≡ o
    → elim o [ None ↦ None | Some ss ↦ Some (part ss Idle) ] ≡ Some p → Ended g p
ended_of g p None c e = cc
ended_of g p (Some more) c e = record { more = more; closed = c; is = e }

-- a header that begins a statement which goes on, and one whose statement is whole
opens_group : {l : ℕ} {xs ys : List Line} {suite : Option (List Stmt)} {body d : List Stmt} {g : Group} {h : Header}
    (p : PartialBlock) (g' : Group) →
    ended g ≡ Some p → Prefix l xs d g → grows Idle h body ≡ part [] g' → Grown l xs (line l (header_form h suite) ∷ ys) g'
    → GrowsBy l xs suite ys body h d p
opens_group {l} {xs} {ys} {suite} {body} {d} {g} {h} p g' e k r b =
    let n = ended_of g p (closes g) refl e in
    from_part (part n.more Idle) p n.is (record {
      prefix =
          let P : PartialBlock → Type 0 = λ z. Prefix l (xs ++ (line l (header_form h suite) ∷ ys)) ((d ++ n.more) ++ z.done) z.group in
          subst P (sym r) (prefix_to (sym (append-nil (d ++ n.more))) (begins (line l (header_form h suite) ∷ ys) n.more g' n.closed k b));
    })

opens_whole : {l : ℕ} {xs ys : List Line} {suite : Option (List Stmt)} {body d : List Stmt} {g : Group} {h : Header}
    (p : PartialBlock) (ss : List Stmt) →
    ended g ≡ Some p → Prefix l xs d g → grows Idle h body ≡ part ss Idle → Statement l (line l (header_form h suite) ∷ ys) ss
    → GrowsBy l xs suite ys body h d p
opens_whole {l} {xs} {ys} {suite} {body} {d} {g} {h} p ss e k r b =
    let n = ended_of g p (closes g) refl e in
    from_part (part n.more Idle) p n.is (record {
      prefix =
          let P : PartialBlock → Type 0 = λ z. Prefix l (xs ++ (line l (header_form h suite) ∷ ys)) ((d ++ n.more) ++ z.done) z.group in
          subst P (sym r) (whole (line l (header_form h suite) ∷ ys) n.more ss n.closed k b);
    })

-- a clause after which the statement goes on, and one that makes it whole
goes_on : {l : ℕ} {xs ys : List Line} {suite : Option (List Stmt)} {body d : List Stmt} {g : Group} {h : Header}
    (p : PartialBlock) (g' : Group) →
    Some (part [] g) ≡ Some p → Prefix l xs d g → grows g h body ≡ part [] g'
    → ((front zs : List Line) → Grown l front zs g → Grown l front (zs ++ (line l (header_form h suite) ∷ ys)) g')
    → GrowsBy l xs suite ys body h d p
goes_on {l} {xs} {ys} {suite} {body} {d} {g} {h} p g' e k r b =
    from_part (part [] g) p e (record {
      prefix =
          let P : PartialBlock → Type 0 = λ z. Prefix l (xs ++ (line l (header_form h suite) ∷ ys)) ((d ++ []) ++ z.done) z.group in
          subst P (sym r) (prefix_to (sym (append-nil (d ++ []) ∙ append-nil d)) (extends (line l (header_form h suite) ∷ ys) g' k b));
    })

makes_whole : {l : ℕ} {xs ys : List Line} {suite : Option (List Stmt)} {body d : List Stmt} {g : Group} {h : Header}
    (p : PartialBlock) (ss : List Stmt) →
    Some (part [] g) ≡ Some p → Prefix l xs d g → grows g h body ≡ part ss Idle
    → ((front zs : List Line) → Grown l front zs g → Statement l (zs ++ (line l (header_form h suite) ∷ ys)) ss)
    → GrowsBy l xs suite ys body h d p
makes_whole {l} {xs} {ys} {suite} {body} {d} {g} {h} p ss e k r b =
    from_part (part [] g) p e (record {
      prefix =
          let P : PartialBlock → Type 0 = λ z. Prefix l (xs ++ (line l (header_form h suite) ∷ ys)) ((d ++ []) ++ z.done) z.group in
          subst P (sym r) (prefix_to (sym (no_gap d ss)) (completes (line l (header_form h suite) ∷ ys) ss k b));
    })

pub following : {l : ℕ} (zs : List Line) (x : Line) (ys ws : List Line) (ss : List Stmt) → Statement l (zs ++ (x ∷ (ys ++ ws))) ss
    → Statement l ((zs ++ (x ∷ ys)) ++ ws) ss
following zs x ys ws ss p = lines_to (sym (append_assoc zs (x ∷ ys) ws)) p

-- a `try` with its block, and what follows
tried : {l : ℕ} {zs ws : List Line} {first ss : List Stmt} → Grown l [] zs (Trial first) →
    ((suite : Option (List Stmt)) (ys : List Line) → Body l suite ys first
    → Statement l (line l (header_form try_header suite) ∷ (ys ++ ws)) ss) → Statement l (zs ++ ws) ss
tried {l} {zs} {ws} {first} {ss} (suite, ys, e, b) k = lines_to (ap (λ z. z ++ ws) (sym e)) (k suite ys b)

more_excepts : {l : ℕ} {xs ys : List Line} {suite : Option (List Stmt)} {body d : List Stmt} (star : Bool) (m : Option Expr)
    (name : Option Identifier) (p : PartialBlock) (first : List Stmt) (hs : List Handler) →
    Some (part [] (Caught star first hs)) ≡ Some p → Prefix l xs d (Caught star first hs) → Body l suite ys body
    → GrowsBy l xs suite ys body (except_header star m name) d p
more_excepts {l} {ys = ys} {suite = suite} {body = body} star m name p first hs e k b =
    goes_on p (Caught star first (hs ++ handler m name body ∷ [])) e k refl
    (λ front zs n us more vs orelse ws final q o f.
    following zs (line l (header_form (except_header star m name) suite)) ys (us ++ (vs ++ ws))
    (try_of star first ((hs ++ handler m name body ∷ []) ++ more) orelse final ∷ [])
    (tree_to (ap (λ z. try_of star first z orelse final ∷ []) (sym (append_assoc hs (handler m name body ∷ []) more)))
    (lines_to (ap (λ z. zs ++ (line l (header_form (except_header star m name) suite) ∷ z)) (append_assoc ys us (vs ++ ws)))
    (n (line l (header_form (except_header star m name) suite) ∷ (ys ++ us)) (handler m name body ∷ more) vs orelse ws final
    (except_clause b q) o f))))

-- a further `except`, which is of the kind of those before it
one_kind : {l : ℕ} {xs ys : List Line} {suite : Option (List Stmt)} {body d : List Stmt} (other star : Bool) (m : Option Expr)
    (name : Option Identifier) (p : PartialBlock) (first : List Stmt) (hs : List Handler) →
    cond (same_bool other star) (Some (part [] (Caught star first hs))) None ≡ Some p → Prefix l xs d (Caught star first hs)
    → Body l suite ys body → GrowsBy l xs suite ys body (except_header other m name) d p
one_kind {l} {ys = ys} {suite = suite} {body = body} true true m name p first hs e k b = more_excepts true m name p first hs e k b
one_kind {l} {ys = ys} {suite = suite} {body = body} false false m name p first hs e k b = more_excepts false m name p first hs e k b
one_kind true false m name p first hs e k b = cc
one_kind false true m name p first hs e k b = cc

-- one case more
cases_more : {l : ℕ} {zs ys : List Line} {cs : List Case} (pattern : Pattern) (guard : Option Expr)
    {suite : Option (List Stmt)} {body : List Stmt} →
    Cases l zs cs → Body l suite ys body → Cases l (zs ++ (line l (header_form (case_header pattern guard) suite) ∷ ys))
    (cs ++ case_of pattern guard body ∷ [])
cases_more {l} {ys = ys} pattern guard {suite = suite} {body = body} no_case b =
    let P : List Line → Type 0 = λ z. Cases l (line l (header_form (case_header pattern guard) suite) ∷ z)
    (case_of pattern guard body ∷ []) in
    subst P (append-nil ys) (case_clause b no_case)
cases_more {l} {ys = ys} pattern guard {suite = suite} {body = body} (case_clause {pattern = q} {guard = r} {suite = s} {xs = us} {ys = vs}
    {body = first} {cs = cs} a c) b =
    let P : List Line → Type 0 = λ z. Cases l (line l (header_form (case_header q r) s) ∷ z)
    (case_of q r first ∷ (cs ++ case_of pattern guard body ∷ [])) in
    subst P (sym (append_assoc us vs (line l (header_form (case_header pattern guard) suite) ∷ ys)))
    (case_clause a (cases_more pattern guard c b))

-- a header that is no `match`
pub grows_by : {l : ℕ} {xs ys : List Line} {suite : Option (List Stmt)} {body d : List Stmt} (g : Group) (h : Header) (p : PartialBlock) →
    is_match (header_kind h) ≡ false → meets g h ≡ Some p → Prefix l xs d g → Body l suite ys body → GrowsBy l xs suite ys body h d p
grows_by {body = body} g (if_header test) p i e k b = opens_group p (Choice (arm test body ∷ [])) e k refl (λ zs orelse q. if_statement b q)
grows_by {body = body} g (loop_header head) p i e k b = opens_group p (Loop head body) e k refl (λ zs orelse q. loop_statement b q)
grows_by {body = body} g (with_header a items) p i e k b = opens_whole p (with_of a items body ∷ []) e k refl (with_statement b)
grows_by {ys = ys} {suite = suite} {body = body} g try_header p i e k b = opens_group p (Trial body) e k refl (suite, ys, refl, b)
grows_by {l} {ys = ys} {suite = suite} {body = body} (Choice arms) (elif_header test) p i e k b =
    goes_on p (Choice (arms ++ arm test body ∷ [])) e k refl
    (λ front zs n ws orelse q. tree_to (sym (choice-append arms (arm test body) orelse))
    (following zs (line l (header_form (elif_header test) suite)) ys ws (choice arms (If test (stmts body) (stmts orelse) ∷ []))
    (n (line l (header_form (elif_header test) suite) ∷ (ys ++ ws)) (If test (stmts body) (stmts orelse) ∷ []) (an_elif b q))))
grows_by {l} {ys = ys} {suite = suite} {body = body} (Choice arms) else_header p i e k b =
    makes_whole p (choice arms body) e k refl (λ front zs n. n (line l (header_form else_header suite) ∷ ys) body (an_else (else_clause b)))
grows_by {l} {ys = ys} {suite = suite} {body = body} (Loop head first) else_header p i e k b =
    makes_whole p (loop head first body ∷ []) e k refl (λ front zs n. n (line l (header_form else_header suite) ∷ ys) body (else_clause b))
grows_by {l} {ys = ys} {suite = suite} {body = body} (Caught star first hs) else_header p i e k b =
    goes_on p (Settled star first hs body) e k refl
    (λ front zs n ws final q. following zs (line l (header_form else_header suite)) ys ws (try_of star first hs body final ∷ [])
    (tree_to (ap (λ z. try_of star first z body final ∷ []) (append-nil hs))
    (n [] [] (line l (header_form else_header suite) ∷ ys) body ws final no_except (else_clause b) q)))
grows_by {l} {ys = ys} {suite = suite} {body = body} (Trial first) (except_header star m name) p i e k b =
    goes_on p (Caught star first (handler m name body ∷ [])) e k refl
    (λ front zs n us more vs orelse ws final q o f.
    following zs (line l (header_form (except_header star m name) suite)) ys (us ++ (vs ++ ws))
    (try_of star first (handler m name body ∷ more) orelse final ∷ [])
    (tried n (λ suite2 ys2 b2. lines_to
    (ap (λ z. line l (header_form try_header suite2) ∷ (ys2 ++ (line l (header_form (except_header star m name) suite) ∷ z)))
    (append_assoc ys us (vs ++ ws)))
    (try_except b2 (except_clause b q) o f))))
grows_by {l} {ys = ys} {suite = suite} {body = body} (Trial first) finally_header p i e k b =
    makes_whole p (try_of false first [] [] body ∷ []) e k refl (λ front zs n. tried n (λ suite2 ys2 b2. try_finally b2 b))
grows_by {l} {ys = ys} {suite = suite} {body = body} (Caught star first hs) finally_header p i e k b =
    makes_whole p (try_of star first hs [] body ∷ []) e k refl
    (λ front zs n. tree_to (ap (λ z. try_of star first z [] body ∷ []) (append-nil hs))
    (n [] [] [] [] (line l (header_form finally_header suite) ∷ ys) body no_except no_else (finally_clause b)))
grows_by {l} {ys = ys} {suite = suite} {body = body} (Settled star first hs orelse) finally_header p i e k b =
    makes_whole p (try_of star first hs orelse body ∷ []) e k refl (λ front zs n. n (line l (header_form finally_header suite) ∷ ys)
    body (finally_clause b))
grows_by {l} {ys = ys} {suite = suite} {body = body} (Marked es) (def_header head) p i e k b =
    makes_whole p (definition es head body ∷ []) e k refl (λ front zs n. definition_of head n b)
grows_by {l} {xs} {ys} {suite} {body} {d} (Caught star first hs) (except_header other m name) p i e k b =
    one_kind other star m name p first hs e k b
grows_by {body = body} g (def_header head) p i e k b = opens_whole p (definition [] head body ∷ []) e k refl
    (definition_of head no_decorator b)
grows_by {ys = ys} {suite = suite} {body = body} (Matching cs) (case_header pattern guard) p i e k b =
    goes_on p (Matching (cs ++ case_of pattern guard body ∷ [])) e k refl (λ front zs n. (n.0, cases_more pattern guard n.1 b))
grows_by g h p i e k b = cc

-- and one that is, with its cases
pub gathers : {l : ℕ} {xs : List Line} {d : List Stmt} (g : Group) (h : Header) (p : PartialBlock) → is_match (header_kind h) ≡ true
    → meets g h ≡ Some p → Prefix l xs d g →
    (x : Line) (ys : List Line) (cs : List Case) → Cases (suc l) (x ∷ ys) cs → Prefix l (xs ++ (line l (header_form h None) ∷ (x ∷ ys)))
    ((d ++ p.done) ++ matched h cs) Idle
gathers {l} {xs} {d} g (match_header subject) p i e k x ys cs c =
    let n = ended_of g p (closes g) refl e in
    let j : part n.more Idle ≡ p = cc (n.is) in
    let Q : PartialBlock → Type 0 = λ z. Prefix l (xs ++ (line l (header_form (match_header subject) None) ∷ (x ∷ ys)))
    ((d ++ z.done) ++ (Match subject (cases cs) ∷ [])) Idle in
    subst Q j (whole (line l (header_form (match_header subject) None) ∷ (x ∷ ys)) n.more (Match subject (cases cs) ∷ [])
    n.closed k (match_statement c))
gathers g h p i e k x ys cs c = cc
