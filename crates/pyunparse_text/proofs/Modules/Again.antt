-- Carries: the law of modules. On: the written lines of such statements give them, at every level.
use Rattle.std.proofs.Common.{◌≡◌, refl, sym, subst, ℕ, suc, List, [], ◌∷◌, ◌++◌, None, Bool, true, false, ◌&&◌}
use Rattle.pytree_node.specs.declared.profiles.Profile.{Profile}
use Rattle.pytree_node.specs.Trees.{Expr, Stmt, stmts, Case, cases, Handler, handlers, Match}
use Rattle.pylex_lexeme.specs.declared.kinds.Exact.TheVariants.{Colon, At}
use Rattle.pytoken.specs.Terminals.{Terminal, Op}
use Rattle.pygrammar.specs.Lines.{Header, Line, line, if_header, elif_header, else_header, loop_header, with_header, try_header}
use Rattle.pygrammar.specs.Lines.{except_header}
use Rattle.pygrammar.specs.Lines.{finally_header, def_header, match_header, case_header, simple_form, decorator_form, header_form, loop}
use Rattle.pygrammar.specs.Lines.{with_of}
use Rattle.pygrammar.specs.Lines.{definition, try_of}
use Rattle.pyunparse_text.specs.Terminals.{terminal}
use Rattle.pyunparse_text.specs.Statements.{simple_tokens, header_tokens}
use Rattle.pyunparse_text.specs.Modules.{WrittenLine, header, decorators, lines_of, statement_lines, alternative, clause, case_lines}
use Rattle.pyunparse_text.specs.Modules.{handler_lines}
use Rattle.pygrammar.specs.declared.levels.Level.TheVariants.{Named}
use Rattle.pygrammar.specs.Grammar as G
use Rattle.pygrammar.specs.Forms as F
use Rattle.pyunparse_text.specs.Written.{written}
use Rattle.pygrammar.specs.Blocks as B
use Rattle.pyunparse_text.proofs.Modules.Wells.{HeadOf, case_is, other_head, match_head, case_head, Well, well_simple, well_if, well_loop}
use Rattle.pyunparse_text.proofs.Modules.Wells.{well_with}
use Rattle.pyunparse_text.proofs.Modules.Wells.{well_finally, well_except, well_definition, well_match, Wells, none, one, Full, full}
use Rattle.pyunparse_text.proofs.Modules.Wells.{Handled}
use Rattle.pyunparse_text.proofs.Modules.Wells.{none_handled, one_handled, Cased, none_cased, one_cased, Decorated, none_decorated}
use Rattle.pyunparse_text.proofs.Modules.Wells.{one_decorated}
use Rattle.pyunparse_text.proofs.Modules.Places.{OwnForm, OwnForms, no_own, an_own}
use Rattle.pyunparse_text.proofs.Modules.Shapes.{lone_if, not_lone, simple_lines, loop_lines, with_lines, try_lines, definition_lines}
use Rattle.pyunparse_text.proofs.Modules.Shapes.{else_lines}

-- what comes back of each line
abbrev pub Simple : Profile → Stmt → Type 0
Simple profile s = F.Simple profile (simple_tokens terminal s) s

abbrev pub Head : Profile → Header → Type 0
Head profile h = HeadOf profile (header_tokens terminal h) h

abbrev pub Test : Expr → Type 0
Test e = G.Derives Named (written terminal Named e) e

module _ (profile : Profile) where
  -- the lines have forms that are something
  pub record Again (P : List Line → Type 0) (ws : List (WrittenLine Terminal)) : Type 0 where
    pub lines : List Line
    pub formed : OwnForms profile ws lines
    pub is : P lines

  both : {ws vs : List (WrittenLine Terminal)} {xs ys : List Line} → OwnForms profile ws xs → OwnForms profile vs ys
      → OwnForms profile (ws ++ vs) (xs ++ ys)
  both no_own d = d
  both (an_own p c) d = an_own p (both c d)

  -- what begins with no `case`, or stands in no `match`
  no_place : (ts : List Terminal) → F.is_case_line profile false ts ≡ false
  no_place ts = by (F.is_whole profile.extent)
    where
      by : (b : Bool) → (b && false) ≡ false
      by true = refl
      by false = refl

  no_case : {ts : List Terminal} {h : Header} → F.HeaderOf profile ts h → B.is_case (B.header_kind h) ≡ false
  no_case (F.if_line p) = refl
  no_case (F.elif_line p) = refl
  no_case F.else_line = refl
  no_case (F.while_line p) = refl
  no_case (F.for_line a p q) = refl
  no_case (F.with_line a p) = refl
  no_case F.try_line = refl
  no_case F.finally_line = refl
  no_case F.except_all = refl
  no_case (F.except_line p q) = refl
  no_case (F.except_star p q) = refl
  no_case (F.def_line x a t c h q) = refl
  no_case (F.class_line t b) = refl

  own_head : {ts : List Terminal} {h : Header} → HeadOf profile ts h → OwnForm profile (ts ++ (Op Colon ∷ [])) (header_form h None)
  own_head (other_head {ts = ts} {h = h} p) =
      subst (λ b. F.FormAt profile b (ts ++ (Op Colon ∷ [])) (header_form h None)) (sym (no_case p))
      (F.other_line (no_place (ts ++ (Op Colon ∷ []))) (F.header_line p))
  own_head (match_head {ts = ts} form w p) = F.other_line (no_place (F.match_word form ∷ (ts ++ (Op Colon ∷ [])))) (F.match_line form w p)
  own_head (case_head {ts = ts} {h = h} w p) =
      subst (λ b. F.FormAt profile b (ts ++ (Op Colon ∷ [])) (header_form h None)) (sym (case_is p)) (F.case_alone w p)

  header_formed : {l : ℕ} {h : Header} {ws : List (WrittenLine Terminal)} {xs : List Line} → Head profile h → OwnForms profile ws xs
      → OwnForms profile (header terminal l h ∷ ws) (line l (header_form h None) ∷ xs)
  header_formed p c = an_own (own_head p) c

  -- a statement has a line
  some_line : {l : ℕ} {xs : List Line} {ss : List Stmt} → B.Statement l xs ss → xs ≡ [] → ⊥
  some_line B.simple_line h = absurd (cc)
  some_line (B.if_statement p q) h = absurd (cc)
  some_line (B.loop_statement p q) h = absurd (cc)
  some_line (B.with_statement p) h = absurd (cc)
  some_line (B.try_finally p q) h = absurd (cc)
  some_line (B.try_except p c q r) h = absurd (cc)
  some_line (B.match_statement c) h = absurd (cc)
  some_line (B.definition_of head {suite = suite} {ds = ds} {xs = xs} d p) h = by ds (line _ (header_form (def_header head) suite)) xs h
    where
      by : (ds : List Line) (y : Line) (ys : List Line) → ds ++ (y ∷ ys) ≡ [] → ⊥
      by [] y ys h = absurd (cc)
      by (x ∷ ds) y ys h = absurd (cc)

  indented : {l : ℕ} {s : Stmt} {ss : List Stmt} (xs : List Line) {ys : List Line} → B.Statement (suc l) xs (s ∷ []) → B.Block (suc l) ys ss
      → B.Body l None (xs ++ ys) (s ∷ ss)
  indented [] p q = absurd (some_line p refl)
  indented (x ∷ xs) p q = B.indented (B.and_then p q)

  -- a `match` of its cases, of which there is one
  matched : {l : ℕ} {subject : Expr} {c : Case} {cs : List Case} {xs : List Line} → B.Cases (suc l) xs (c ∷ cs)
      → B.Statement l (line l (header_form (match_header subject) None) ∷ xs) (Match subject (cases (c ∷ cs)) ∷ [])
  matched (B.case_clause p q) = B.match_statement (B.case_clause p q)

  -- a block of one statement and more
  joined : {l : ℕ} {s : Stmt} {ss : List Stmt} {ws vs : List (WrittenLine Terminal)} → Again (λ xs. B.Statement (suc l) xs (s ∷ [])) ws
      → Again (λ ys. B.Block (suc l) ys ss) vs → Again (λ xs. B.Body l None xs (s ∷ ss)) (ws ++ vs)
  joined p q = record { lines = p.lines ++ q.lines; formed = both p.formed q.formed; is = indented p.lines p.is q.is }

  as_else : (l : ℕ) (s : Stmt) (ss : List Stmt) → lone_if s (stmts ss) ≡ false
      → Again (λ xs. B.Body l None xs (s ∷ ss)) (lines_of terminal (suc l) (stmts (s ∷ ss)))
      → Again (λ xs. B.Alternative l xs (s ∷ ss)) (alternative terminal l (stmts (s ∷ ss)))
  as_else l s ss h w =
      subst (Again (λ xs. B.Alternative l xs (s ∷ ss))) (sym (else_lines terminal l s (stmts ss) h))
      (record {
        lines = line l (header_form else_header None) ∷ w.lines;
        formed = header_formed (other_head F.else_line) w.formed;
        is =
            B.an_else (B.else_clause w.is);
      })

  mutual
    unfolding lines_of statement_lines alternative clause case_lines handler_lines

    pub wells_again : {ss : List Stmt} → Wells (Simple profile) (Head profile) Test ss → (l : ℕ)
        → Again (λ xs. B.Block l xs ss) (lines_of terminal l (stmts ss))
    wells_again none l = record { lines = []; formed = no_own; is = B.nothing }
    wells_again (one p c) l = let u = well_again p l in let v = wells_again c l in
        record { lines = u.lines ++ v.lines; formed = both u.formed v.formed; is = B.and_then u.is v.is }

    full_again : {ss : List Stmt} → Full (Simple profile) (Head profile) Test ss → (l : ℕ)
        → Again (λ xs. B.Body l None xs ss) (lines_of terminal (suc l) (stmts ss))
    full_again (full p c) l = joined (well_again p (suc l)) (wells_again c (suc l))

    otherwise_again : {ss : List Stmt} → Wells (Simple profile) (Head profile) Test ss → (l : ℕ)
        → Again (λ xs. B.Otherwise l xs ss) (clause terminal l else_header (stmts ss))
    otherwise_again none l = record { lines = []; formed = no_own; is = B.no_else }
    otherwise_again (one p c) l = let w = joined (well_again p (suc l)) (wells_again c (suc l)) in
        record {
          lines = line l (header_form else_header None) ∷ w.lines;
          formed = header_formed (other_head F.else_line) w.formed;
          is = B.else_clause w.is;
        }

    ending_again : {ss : List Stmt} → Wells (Simple profile) (Head profile) Test ss → (l : ℕ)
        → Again (λ xs. B.Ending l xs ss) (clause terminal l finally_header (stmts ss))
    ending_again none l = record { lines = []; formed = no_own; is = B.no_finally }
    ending_again (one p c) l = let w = joined (well_again p (suc l)) (wells_again c (suc l)) in
        record {
          lines = line l (header_form finally_header None) ∷ w.lines;
          formed = header_formed (other_head F.finally_line) w.formed;
          is = B.finally_clause w.is;
        }

    alternative_again : {ss : List Stmt} → Wells (Simple profile) (Head profile) Test ss → (l : ℕ)
        → Again (λ xs. B.Alternative l xs ss) (alternative terminal l (stmts ss))
    alternative_again none l = record { lines = []; formed = no_own; is = B.an_else B.no_else }
    alternative_again (one (well_if {test = test} p q b c) none) l = let u = full_again b l in let v = alternative_again c l in
        record {
          lines = line l (header_form (elif_header test) None) ∷ (u.lines ++ v.lines);
          formed =
              header_formed q (both u.formed v.formed);
          is = B.an_elif u.is v.is;
        }
    alternative_again (one {s = s} {ss = ss} p c) l =
        as_else l s ss (not_lone p c tt) (joined (well_again p (suc l)) (wells_again c (suc l)))

    well_again : {s : Stmt} → Well (Simple profile) (Head profile) Test s → (l : ℕ)
        → Again (λ xs. B.Statement l xs (s ∷ [])) (statement_lines terminal l s)
    well_again (well_simple {s = s} p q) l =
        subst (Again (λ xs. B.Statement l xs (s ∷ []))) (sym (simple_lines terminal l s p))
        (record {
          lines = line l (simple_form (s ∷ [])) ∷ [];
          formed =
              an_own (F.other_line (no_place (simple_tokens terminal s)) (F.simple_statements (F.last_simple q)))
              no_own;
          is = B.simple_line;
        })
    well_again (well_if {test = test} p q b c) l = let u = full_again b l in let v = alternative_again c l in
        record {
          lines = line l (header_form (if_header test) None) ∷ (u.lines ++ v.lines);
          formed =
              header_formed p (both u.formed v.formed);
          is = B.if_statement u.is v.is;
        }
    well_again (well_loop head {body = body} {orelse = orelse} p b c) l = let u = full_again b l in let v = otherwise_again c l in
        subst (Again (λ xs. B.Statement l xs (loop head body orelse ∷ []))) (sym (loop_lines terminal l head body orelse))
        (record {
          lines = line l (header_form (loop_header head) None) ∷ (u.lines ++ v.lines);
          formed =
              header_formed p (both u.formed v.formed);
          is = B.loop_statement u.is v.is;
        })
    well_again (well_with b is {body = body} p c) l = let u = full_again c l in
        subst (Again (λ xs. B.Statement l xs (with_of b is body ∷ []))) (sym (with_lines terminal l b is body))
        (record {
          lines = line l (header_form (with_header b is) None) ∷ u.lines;
          formed = header_formed p u.formed;
          is =
              B.with_statement u.is;
        })
    well_again (well_finally {body = body} {final = final} b (full p c)) l = let u = full_again b l in let v =
        joined (well_again p (suc l)) (wells_again c (suc l)) in subst (Again (λ xs. B.Statement l xs (try_of false body [] [] final ∷ [])))
        (sym (try_lines terminal l false body [] [] final))
        (record {
          lines = line l (header_form try_header None) ∷ (u.lines ++ (line l (header_form finally_header None) ∷ v.lines));
          formed =
              header_formed (other_head F.try_line) (both u.formed (header_formed (other_head F.finally_line) v.formed));
          is =
              B.try_finally u.is v.is;
        })
    well_again (well_except star {body = body} {orelse = orelse} {final = final} {h = h} {hs = hs} b c d e) l =
        let u = full_again b l in let v = handled_again c l in let w = otherwise_again d l in let x = ending_again e l in
        subst (Again (λ xs. B.Statement l xs (try_of star body (h ∷ hs) orelse final ∷ [])))
        (sym (try_lines terminal l star body (h ∷ hs) orelse final))
        (record {
          lines = line l (header_form try_header None) ∷ (u.lines ++ (v.lines ++ (w.lines ++ x.lines)));
          formed =
              header_formed (other_head F.try_line) (both u.formed (both v.formed (both w.formed x.formed)));
          is =
              B.try_except u.is v.is w.is x.is;
        })
    well_again (well_definition head {es = es} {body = body} d p b) l = let u = decorated_again d l in let v = full_again b l in
        subst (Again (λ xs. B.Statement l xs (definition es head body ∷ []))) (sym (definition_lines terminal l es head body))
        (record {
          lines = u.lines ++ (line l (header_form (def_header head) None) ∷ v.lines);
          formed =
              both u.formed (header_formed p v.formed);
          is = B.definition_of head u.is v.is;
        })
    well_again (well_match {subject = subject} p c) l = let u = cased_again c (suc l) in
        record { lines = line l (header_form (match_header subject) None) ∷ u.lines; formed = header_formed p u.formed; is = matched u.is }

    cased_again : {cs : List Case} → Cased (Simple profile) (Head profile) Test cs → (l : ℕ)
        → Again (λ xs. B.Cases l xs cs) (case_lines terminal l (cases cs))
    cased_again none_cased l = record { lines = []; formed = no_own; is = B.no_case }
    cased_again (one_cased {p = p} {g = g} h b c) l = let u = full_again b l in let v = cased_again c l in
        record {
          lines = line l (header_form (case_header p g) None) ∷ (u.lines ++ v.lines);
          formed =
              header_formed h (both u.formed v.formed);
          is = B.case_clause u.is v.is;
        }

    handled_again : {star : Bool} {hs : List Handler} → Handled (Simple profile) (Head profile) Test star hs → (l : ℕ)
        → Again (λ xs. B.Excepts l star xs hs) (handler_lines terminal l star (handlers hs))
    handled_again none_handled l = record { lines = []; formed = no_own; is = B.no_except }
    handled_again (one_handled {star = star} {e = e} {x = x} p b c) l = let u = full_again b l in let v = handled_again c l in
        record {
          lines = line l (header_form (except_header star e x) None) ∷ (u.lines ++ v.lines);
          formed =
              header_formed p (both u.formed v.formed);
          is = B.except_clause u.is v.is;
        }

    decorated_again : {es : List Expr} → Decorated (Simple profile) (Head profile) Test es → (l : ℕ)
        → Again (λ xs. B.Decorators l xs es) (decorators terminal l es)
    decorated_again none_decorated l = record { lines = []; formed = no_own; is = B.no_decorator }
    decorated_again (one_decorated {e = e} p c) l = let u = decorated_again c l in record {
      lines = line l (decorator_form e) ∷ u.lines;
      formed = an_own (F.other_line (no_place (Op At ∷ written terminal Named e)) (F.decorator_line p)) u.formed;
      is = B.decorator u.is;
    }
