-- What holds of each block that stands inside a block, of its statements and of their spans: by recursion on the derivation, as the places
-- are given. (Each line has its places, so that a list of lines that begins with a header is not empty here.)
use Rattle.std.specs.Prelude.{ℕ, ◌≤◌, Bool, Option, List, [], ◌∷◌, ◌++◌, length, take, drop}
use Rattle.pytree_node.specs.Trees.{Stmt, Handler, Case, If, stmts}
use Rattle.pygrammar.specs.Lines.{Line}
use Rattle.pygrammar.specs.Blocks as B
use Rattle.pyparse_marks.specs.Spans.{Span}
use Rattle.pyplaces.specs.BlockPlaces.{LinePlaces, ending, block_places, body_places, alternative_places}
use Rattle.pyplaces.specs.Spans.{AllLieBetween}

-- what is said of the statements of a block and their spans
abbrev pub Law : Type 1
Law = List Stmt → List Span → Type 0

-- the span of a handler holds those of what is in it, and ends before the next begins
abbrev pub HandlersLie : {l : ℕ} {star : Bool} {xs : List Line} {hs : List Handler} → ℕ → List LinePlaces → B.Excepts l star xs hs → ℕ
    → Type 0
HandlersLie lo zs B.no_except hi = lo ≤ hi
HandlersLie lo [] (B.except_clause b h) hi = lo ≤ hi
HandlersLie lo (z ∷ zs) (B.except_clause {xs = xs} b h) hi =
    let own = ending z.whole.start (z ∷ take (length xs) zs) in
    (lo ≤ own.start) × (own.start ≤ own.stop) × AllLieBetween own.start own.stop (z.before ++ body_places z (take (length xs) zs) b)
    × HandlersLie own.stop (drop (length xs) zs) h hi

-- A case has no span: what is in it stands between where its line begins and where its last line ends, and the next begins after that.
abbrev pub CasesLie : {l : ℕ} {xs : List Line} {cs : List Case} → ℕ → List LinePlaces → B.Cases l xs cs → ℕ → Type 0
CasesLie lo zs B.no_case hi = lo ≤ hi
CasesLie lo [] (B.case_clause b c) hi = lo ≤ hi
CasesLie lo (z ∷ zs) (B.case_clause {xs = xs} b c) hi =
    let all = ending z.whole.start (z ∷ take (length xs) zs) in
    (lo ≤ all.start) × (all.start ≤ all.stop) × AllLieBetween all.start all.stop (z.before ++ body_places z (take (length xs) zs) b)
    × CasesLie all.stop (drop (length xs) zs) c hi

abbrev mutual
  pub InBlock : {l : ℕ} {xs : List Line} {ss : List Stmt} → Law → List LinePlaces → B.Block l xs ss → Type 0
  InBlock P zs B.nothing = Unit {0}
  InBlock P zs (B.and_then {xs = xs} s b) = InStatement P (take (length xs) zs) s × InBlock P (drop (length xs) zs) b

  pub InStatement : {l : ℕ} {xs : List Line} {ss : List Stmt} → Law → List LinePlaces → B.Statement l xs ss → Type 0
  InStatement P [] s = Unit {0}
  InStatement P (z ∷ zs) B.simple_line = Unit {0}
  InStatement P (z ∷ zs) (B.if_statement {xs = xs} b a) = OfBody P z (take (length xs) zs) b × OfAlternative P (drop (length xs) zs) a
  InStatement P (z ∷ zs) (B.loop_statement {xs = xs} b o) = OfBody P z (take (length xs) zs) b × OfOtherwise P (drop (length xs) zs) o
  InStatement P (z ∷ zs) (B.with_statement b) = OfBody P z zs b
  InStatement P (z ∷ zs) (B.try_finally {xs = xs} b f) = OfBody P z (take (length xs) zs) b × OfHeaded P (drop (length xs) zs) f
  InStatement P (z ∷ zs) (B.try_except {xs = xs} {ys = ys} {zs = more} b h o f) =
      let following = drop (length xs) zs in
      let last = drop (length ys) following in
      OfBody P z (take (length xs) zs) b × OfHandlers P (take (length ys) following) h
      × ((lo : ℕ) × (hi : ℕ) × HandlersLie lo (take (length ys) following) h hi)
      × OfOtherwise P (take (length more) last) o × OfEnding P (drop (length more) last) f
  InStatement P (z ∷ zs) (B.definition_of head {ds = ds} d b) = OfHeaded P (drop (length ds) (z ∷ zs)) b
  InStatement P (z ∷ zs) (B.match_statement c) = OfCases P zs c × ((lo : ℕ) × (hi : ℕ) × CasesLie lo zs c hi)

  -- of a body, and of the blocks inside it
  pub OfBody : {l : ℕ} {suite : Option (List Stmt)} {xs : List Line} {ss : List Stmt} → Law → LinePlaces → List LinePlaces
      → B.Body l suite xs ss → Type 0
  OfBody P z zs (B.inline {ss = ss}) = P ss z.suite
  OfBody P z zs (B.indented {ss = ss} b) = P ss (block_places zs b) × InBlock P zs b

  -- the first of the lines is the header
  pub OfHeaded : {l : ℕ} {suite : Option (List Stmt)} {xs : List Line} {ss : List Stmt} → Law → List LinePlaces
      → B.Body l suite xs ss → Type 0
  OfHeaded P [] b = Unit {0}
  OfHeaded P (z ∷ zs) (B.inline {ss = ss}) = P ss z.suite
  OfHeaded P (z ∷ zs) (B.indented {ss = ss} b) = P ss (block_places zs b) × InBlock P zs b

  -- an `elif` is a block of one If
  pub OfAlternative : {l : ℕ} {xs : List Line} {ss : List Stmt} → Law → List LinePlaces → B.Alternative l xs ss → Type 0
  OfAlternative P zs (B.an_else o) = OfOtherwise P zs o
  OfAlternative P [] (B.an_elif b a) = Unit {0}
  OfAlternative P (z ∷ zs) (B.an_elif {test = test} {xs = xs} {body = body} {orelse = orelse} b a) =
      P (If test (stmts body) (stmts orelse) ∷ []) (alternative_places (z ∷ zs) (B.an_elif {test = test} b a))
      × OfBody P z (take (length xs) zs) b × OfAlternative P (drop (length xs) zs) a

  pub OfOtherwise : {l : ℕ} {xs : List Line} {ss : List Stmt} → Law → List LinePlaces → B.Otherwise l xs ss → Type 0
  OfOtherwise P zs B.no_else = Unit {0}
  OfOtherwise P [] (B.else_clause b) = Unit {0}
  OfOtherwise P (z ∷ zs) (B.else_clause b) = OfBody P z zs b

  pub OfHandlers : {l : ℕ} {star : Bool} {xs : List Line} {hs : List Handler} → Law → List LinePlaces → B.Excepts l star xs hs → Type 0
  OfHandlers P zs B.no_except = Unit {0}
  OfHandlers P [] (B.except_clause b h) = Unit {0}
  OfHandlers P (z ∷ zs) (B.except_clause {xs = xs} b h) = OfBody P z (take (length xs) zs) b × OfHandlers P (drop (length xs) zs) h

  pub OfCases : {l : ℕ} {xs : List Line} {cs : List Case} → Law → List LinePlaces → B.Cases l xs cs → Type 0
  OfCases P zs B.no_case = Unit {0}
  OfCases P [] (B.case_clause b c) = Unit {0}
  OfCases P (z ∷ zs) (B.case_clause {xs = xs} b c) = OfBody P z (take (length xs) zs) b × OfCases P (drop (length xs) zs) c

  pub OfEnding : {l : ℕ} {xs : List Line} {ss : List Stmt} → Law → List LinePlaces → B.Ending l xs ss → Type 0
  OfEnding P zs B.no_finally = Unit {0}
  OfEnding P [] (B.finally_clause b) = Unit {0}
  OfEnding P (z ∷ zs) (B.finally_clause b) = OfBody P z zs b
