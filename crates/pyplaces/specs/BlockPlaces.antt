-- The places of the statements of some lines: by recursion on their block, over what each line gives.
use Rattle.std.specs.Prelude.{ℕ, Bool, Option, List, [], ◌∷◌, ◌++◌, length, take, drop}
use Rattle.pytree_node.specs.Trees.{Stmt, Handler, Case}
use Rattle.pygrammar.specs.Lines.{Line}
use Rattle.pygrammar.specs.Blocks as B
use Rattle.pyplaces.specs.Stretches.{Span, span, spans_of}
use Rattle.pyplaces.specs.FormPlaces.{FormPlaces}

-- a line's bytes, from its first token to its last, and the spans of its parts
pub record LinePlaces : Type 0 where
  pub whole : Span
  pub before : List Span
  pub following : List Span
  pub suite : List Span

abbrev pub whole_of : List Span → Span
whole_of [] = span 0 0
whole_of (s ∷ []) = s
whole_of (s ∷ (t ∷ ss)) = span s.start (whole_of (t ∷ ss)).stop

-- those of a line whose terminals have these spans
abbrev pub line_of : List Span → FormPlaces → LinePlaces
line_of ss f = record { whole = whole_of ss; before = spans_of ss f.before; following = spans_of ss f.following; suite = spans_of ss f.suite }

-- a compound statement: from where it begins to the end of the last of its lines
abbrev pub ending : ℕ → List LinePlaces → Span
ending start [] = span start start
ending start (z ∷ []) = span start z.whole.stop
ending start (z ∷ (w ∷ zs)) = ending start (w ∷ zs)

abbrev pub own : LinePlaces → List LinePlaces → List Span
own z zs = ending z.whole.start (z ∷ zs) ∷ []

abbrev pub decorator_places : List LinePlaces → List Span
decorator_places [] = []
decorator_places (z ∷ zs) = z.before ++ decorator_places zs

abbrev mutual
  pub block_places : {l : ℕ} {xs : List Line} {ss : List Stmt} → List LinePlaces → B.Block l xs ss → List Span
  block_places zs B.nothing = []
  block_places zs (B.and_then {xs = xs} s b) = statement_places (take (length xs) zs) s ++ block_places (drop (length xs) zs) b

  pub statement_places : {l : ℕ} {xs : List Line} {ss : List Stmt} → List LinePlaces → B.Statement l xs ss → List Span
  statement_places [] s = []
  statement_places (z ∷ zs) B.simple_line = z.suite
  statement_places (z ∷ zs) (B.if_statement {xs = xs} b a) =
      z.before ++ (body_places z (take (length xs) zs) b ++ (alternative_places (drop (length xs) zs) a ++ own z zs))
  statement_places (z ∷ zs) (B.loop_statement {xs = xs} b a) =
      z.before ++ (body_places z (take (length xs) zs) b ++ (otherwise_places (drop (length xs) zs) a ++ own z zs))
  statement_places (z ∷ zs) (B.with_statement b) = z.before ++ (body_places z zs b ++ own z zs)
  statement_places (z ∷ zs) (B.try_finally {xs = xs} b f) =
      body_places z (take (length xs) zs) b ++ (final_places (drop (length xs) zs) f ++ own z zs)
  statement_places (z ∷ zs) (B.try_except {xs = xs} {ys = ys} {zs = more} b h o f) =
      let following = drop (length xs) zs in
      let last = drop (length ys) following in
      body_places z (take (length xs) zs) b ++ (handlers_places (take (length ys) following) h ++
      (otherwise_places (take (length more) last) o ++ (ending_places (drop (length more) last) f ++ own z zs)))
  -- a statement begins after its decorators
  statement_places (z ∷ zs) (B.definition_of head {ds = ds} d b) =
      definition_places (take (length ds) (z ∷ zs)) (drop (length ds) (z ∷ zs)) b
  statement_places (z ∷ zs) (B.match_statement c) = z.before ++ (cases_places zs c ++ own z zs)

  -- fields before the body, body, decorators, fields after
  pub definition_places : {l : ℕ} {suite : Option (List Stmt)} {xs : List Line} {ss : List Stmt} → List LinePlaces → List LinePlaces
      → B.Body l suite xs ss → List Span
  definition_places ds [] b = []
  definition_places ds (z ∷ zs) B.inline = z.before ++ (z.suite ++ (decorator_places ds ++ (z.following ++ own z zs)))
  definition_places ds (z ∷ zs) (B.indented b) = z.before ++ (block_places zs b ++ (decorator_places ds ++ (z.following ++ own z zs)))

  -- the last clause of a `try` without handlers
  pub final_places : {l : ℕ} {suite : Option (List Stmt)} {xs : List Line} {ss : List Stmt} → List LinePlaces
      → B.Body l suite xs ss → List Span
  final_places [] b = []
  final_places (z ∷ zs) B.inline = z.suite
  final_places (z ∷ zs) (B.indented b) = block_places zs b

  pub body_places : {l : ℕ} {suite : Option (List Stmt)} {xs : List Line} {ss : List Stmt} → LinePlaces → List LinePlaces
      → B.Body l suite xs ss → List Span
  body_places z zs B.inline = z.suite
  body_places z zs (B.indented b) = block_places zs b

  -- an `elif` is an If from its own word on
  pub alternative_places : {l : ℕ} {xs : List Line} {ss : List Stmt} → List LinePlaces → B.Alternative l xs ss → List Span
  alternative_places zs (B.an_else o) = otherwise_places zs o
  alternative_places [] (B.an_elif b a) = []
  alternative_places (z ∷ zs) (B.an_elif {xs = xs} b a) =
      z.before ++ (body_places z (take (length xs) zs) b ++ (alternative_places (drop (length xs) zs) a ++ own z zs))

  pub otherwise_places : {l : ℕ} {xs : List Line} {ss : List Stmt} → List LinePlaces → B.Otherwise l xs ss → List Span
  otherwise_places zs B.no_else = []
  otherwise_places [] (B.else_clause b) = []
  otherwise_places (z ∷ zs) (B.else_clause b) = body_places z zs b

  pub handlers_places : {l : ℕ} {star : Bool} {xs : List Line} {hs : List Handler} → List LinePlaces → B.Excepts l star xs hs → List Span
  handlers_places zs B.no_except = []
  handlers_places [] (B.except_clause b h) = []
  handlers_places (z ∷ zs) (B.except_clause {xs = xs} b h) =
      z.before ++ (body_places z (take (length xs) zs) b ++ (own z (take (length xs) zs) ++ handlers_places (drop (length xs) zs) h))

  -- a `match_case` has no span of its own
  pub cases_places : {l : ℕ} {xs : List Line} {cs : List Case} → List LinePlaces → B.Cases l xs cs → List Span
  cases_places zs B.no_case = []
  cases_places [] (B.case_clause b c) = []
  cases_places (z ∷ zs) (B.case_clause {xs = xs} b c) =
      z.before ++ (body_places z (take (length xs) zs) b ++ cases_places (drop (length xs) zs) c)

  pub ending_places : {l : ℕ} {xs : List Line} {ss : List Stmt} → List LinePlaces → B.Ending l xs ss → List Span
  ending_places zs B.no_finally = []
  ending_places [] (B.finally_clause b) = []
  ending_places (z ∷ zs) (B.finally_clause b) = body_places z zs b
