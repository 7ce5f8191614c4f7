-- The spans of blocks whose lines have spans that are clear of each other: by recursion on the derivation.
--
-- Carries: LinesLaminar, laminar_block, for Law. On: Laminar, Together.
use Rattle.std.proofs.Common.{◌≡◌, ◌⊎◌, inl, inr, refl, ℕ, arith, Bool, List, [], ◌∷◌, ◌++◌, append_assoc, length}
use Rattle.std.proofs.Common.{take, drop, zero, suc, Option}
use Rattle.pytree_node.specs.declared.profiles.Profile.{Profile}
use Rattle.pytree_node.specs.Trees.{Stmt, Handler, Case}
use Rattle.pygrammar.specs.Lines.{Line, line, Form, header_form, Header, finally_header, def_header}
use Rattle.pygrammar.specs.Blocks as B
use Rattle.pyplaces.specs.Stretches.{Span}
use Rattle.pyplaces.specs.BlockPlaces.{LinePlaces, ending, own, block_places, statement_places, definition_places, final_places}
use Rattle.pyplaces.specs.BlockPlaces.{body_places, alternative_places, otherwise_places, handlers_places, cases_places, ending_places}
use Rattle.pyplaces.specs.BlockPlaces.{decorator_places}
use Rattle.pyplaces.proofs.Laws.Blocks.{definition_is}
use Rattle.pyplaces.specs.Laminar.{IsAmong, AreClearSpans}
use Rattle.pyplaces.proofs.Order.Lines.{LineLies, LinesLie, no_more, one_more}
use Rattle.pyplaces.proofs.Order.Together.{In, ◌⊕◌, Given, split, reaches, Head, head, before_in, suite_lies}
use Rattle.pyplaces.proofs.Order.Blocks.{two, four, some_line, clause}
use Rattle.pyplaces.proofs.Order.Laminar.{spans_in_line, Laminar, none, wider, as_those, among, both, held, in_both, in_front, in_back}

-- ---- Lists.

in_turn : (as_ bs cs ds : List Span) → as_ ++ (bs ++ (cs ++ ds)) ≡ ((as_ ++ bs) ++ cs) ++ ds
in_turn as_ bs cs ds = simp append_assoc refl

-- the spans of a definition: of its header, its body, its decorators, and its own
in_definition : (as_ bs cs ds es : List Span) {s : Span} → IsAmong s (as_ ++ (bs ++ (cs ++ (ds ++ es))))
    → IsAmong s (cs ++ (((as_ ++ ds) ++ bs) ++ es))
in_definition as_ bs cs ds es {s} c = first (in_both as_ (bs ++ (cs ++ (ds ++ es))) c)
  where
    header : IsAmong s (as_ ++ ds) → IsAmong s (cs ++ (((as_ ++ ds) ++ bs) ++ es))
    header x = in_back cs (((as_ ++ ds) ++ bs) ++ es) (in_front ((as_ ++ ds) ++ bs) es (in_front (as_ ++ ds) bs x))

    fourth : IsAmong s ds ⊎ IsAmong s es → IsAmong s (cs ++ (((as_ ++ ds) ++ bs) ++ es))
    fourth (inl x) = header (in_back as_ ds x)
    fourth (inr x) = in_back cs (((as_ ++ ds) ++ bs) ++ es) (in_back ((as_ ++ ds) ++ bs) es x)

    third : IsAmong s cs ⊎ IsAmong s (ds ++ es) → IsAmong s (cs ++ (((as_ ++ ds) ++ bs) ++ es))
    third (inl x) = in_front cs (((as_ ++ ds) ++ bs) ++ es) x
    third (inr x) = fourth (in_both ds es x)

    second : IsAmong s bs ⊎ IsAmong s (cs ++ (ds ++ es)) → IsAmong s (cs ++ (((as_ ++ ds) ++ bs) ++ es))
    second (inl x) = in_back cs (((as_ ++ ds) ++ bs) ++ es) (in_front ((as_ ++ ds) ++ bs) es (in_back (as_ ++ ds) bs x))
    second (inr x) = third (in_both cs (ds ++ es) x)

    first : IsAmong s as_ ⊎ IsAmong s (bs ++ (cs ++ (ds ++ es))) → IsAmong s (cs ++ (((as_ ++ ds) ++ bs) ++ es))
    first (inl x) = header (in_front as_ ds x)
    first (inr x) = second (in_both bs (cs ++ (ds ++ es)) x)

without : (as_ bs cs : List Span) {s : Span} → IsAmong s (as_ ++ cs) → IsAmong s ((as_ ++ bs) ++ cs)
without as_ bs cs {s} c = by (in_both as_ cs c)
  where
    by : IsAmong s as_ ⊎ IsAmong s cs → IsAmong s ((as_ ++ bs) ++ cs)
    by (inl x) = in_front (as_ ++ bs) cs (in_front as_ bs x)
    by (inr x) = in_back (as_ ++ bs) cs x

module _ (R : Span → Span → Type 0) (clear : (s t : Span) → AreClearSpans s t → R s t) where
  -- so it is with the spans in each line
  abbrev pub LineLaminar : LinePlaces → Type 0
  LineLaminar z = (s t : Span) → IsAmong s (spans_in_line z) → IsAmong t (spans_in_line z) → R s t

  abbrev pub LinesLaminar : List LinePlaces → Type 0
  LinesLaminar [] = Unit {0}
  LinesLaminar (z ∷ zs) = LineLaminar z × LinesLaminar zs

  in_first : (n : ℕ) (zs : List LinePlaces) → LinesLaminar zs → LinesLaminar (take n zs)
  in_first zero zs k = tt
  in_first (suc n) [] k = tt
  in_first (suc n) (z ∷ zs) k = (k.0, in_first n zs k.1)

  in_others : (n : ℕ) (zs : List LinePlaces) → LinesLaminar zs → LinesLaminar (drop n zs)
  in_others zero zs k = k
  in_others (suc n) [] k = tt
  in_others (suc n) (z ∷ zs) k = in_others n zs k.1

  -- ---- The first line.

  abbrev Apart : ℕ → ℕ → List Span → Type 0
  Apart lo hi ps = Laminar R clear lo hi ps

  line_apart : {profile : Profile} {f : Form} {z : LinePlaces} → LineLies profile f z → LineLaminar z
      → Apart z.whole.start z.whole.stop (spans_in_line z)
  line_apart {z = z} l k =
      let following : In z.whole.start z.whole.stop z.following = record { are = l.following } in
      record { ordered = l.forward; lie = (before_in l ⊕ following) ⊕ suite_lies l; are = k }

  before_apart : {profile : Profile} {f : Form} {z : LinePlaces} → LineLies profile f z → LineLaminar z
      → Apart z.whole.start z.whole.stop z.before
  before_apart {z = z} l k =
      among R clear (spans_in_line z) z.before (λ s c. in_front (z.before ++ z.following) z.suite (in_front z.before z.following c))
      (line_apart l k)

  header_apart : {profile : Profile} {f : Form} {z : LinePlaces} → LineLies profile f z → LineLaminar z
      → Apart z.whole.start z.whole.stop (z.before ++ z.following)
  header_apart {z = z} l k =
      among R clear (spans_in_line z) (z.before ++ z.following) (λ s c. in_front (z.before ++ z.following) z.suite c) (line_apart l k)

  suite_apart : {profile : Profile} {f : Form} {z : LinePlaces} → LineLies profile f z → LineLaminar z
      → Apart z.whole.start z.whole.stop z.suite
  suite_apart {z = z} l k = among R clear (spans_in_line z) z.suite (λ s c. in_back (z.before ++ z.following) z.suite c) (line_apart l k)

  -- of a header and its body
  top_of : {lo hi : ℕ} (z : LinePlaces) (body : List Span) → Apart lo hi ((z.before ++ z.following) ++ body) → Apart lo hi (z.before ++ body)
  top_of z body l =
      among R clear ((z.before ++ z.following) ++ body) (z.before ++ body) (λ s c. without z.before z.following body c) l

  body_of : {lo hi : ℕ} (z : LinePlaces) (body : List Span) → Apart lo hi ((z.before ++ z.following) ++ body) → Apart lo hi body
  body_of z body l = among R clear ((z.before ++ z.following) ++ body) body (λ s c. in_back (z.before ++ z.following) body c) l

  -- with the own span of a compound statement
  with_own : {profile : Profile} {lo hi : ℕ} {f : Form} {xs : List Line} {z : LinePlaces} {zs : List LinePlaces} {ps : List Span}
      → Head profile lo f xs z zs hi → Apart z.whole.start (ending z.whole.start (z ∷ zs)).stop ps → Apart lo hi (ps ++ own z zs)
  with_own {z = z} {zs = zs} h l =
      wider R clear (held R clear (ending z.whole.start (z ∷ zs)) l (omega (arith, h.start)) (omega arith))
      (omega (arith, h.start, h.begins))
      h.ends

  decorators_apart : {profile : Profile} {lo hi : ℕ} {xs : List Line} {zs : List LinePlaces} → LinesLie profile lo xs zs hi
      → LinesLaminar zs → Apart lo hi (decorator_places zs)
  decorators_apart (no_more h) k = none R clear h
  decorators_apart (one_more a l o) k =
      wider R clear (both R clear (before_apart l k.0) (decorators_apart o k.1) (omega arith)) a (omega arith)

  -- after its decorators
  definition_apart : {profile : Profile} {lo mid hi l : ℕ} {x : Header} {suite : Option (List Stmt)} {ds xs : List Line}
      {body : List Stmt} {dz : List LinePlaces} (b : B.Body l suite xs body) → Given profile lo ds dz mid → LinesLaminar dz
      → (zs : List LinePlaces) → Given profile mid (line l (header_form x suite) ∷ xs) zs hi → LinesLaminar zs
      → ((w : LinePlaces) (ws : List LinePlaces) → LineLies profile (header_form x suite) w
      → Given profile w.whole.stop xs ws (ending w.whole.start (w ∷ ws)).stop → LinesLaminar (w ∷ ws)
      → Apart w.whole.start (ending w.whole.start (w ∷ ws)).stop ((w.before ++ w.following) ++ body_places w ws b))
      → Apart lo hi (definition_places dz zs b)
  definition_apart b g j [] k m p = elim k.lie [ ]
  definition_apart {dz = dz} b g j (w ∷ ws) k m p =
      let h = head k in
      let body = body_places w ws b in
      let above = decorator_places dz in
      as_those R clear (definition_is dz w ws b)
      (among R clear (above ++ (((w.before ++ w.following) ++ body) ++ own w ws))
      (w.before ++ (body ++ (above ++ (w.following ++ own w ws)))) (λ s c. in_definition w.before body above w.following (own w ws) c)
      (both R clear (decorators_apart g.lie j) (with_own h (p w ws h.line_lies h.others m)) (omega arith)))

  -- ---- All of them.

  mutual
    pub laminar_block : {profile : Profile} {l lo hi : ℕ} {xs : List Line} {ss : List Stmt} {zs : List LinePlaces} (b : B.Block l xs ss)
        → Given profile lo xs zs hi → LinesLaminar zs → Apart lo hi (block_places zs b)
    laminar_block B.nothing g k = none R clear (reaches g.lie)
    laminar_block {zs = zs} (B.and_then {xs = xs} {ys = ys} s b) g k =
        let r = split xs ys g in
        both R clear (laminar_statement s r.first (in_first (length xs) zs k))
        (laminar_block b r.others (in_others (length xs) zs k)) (omega arith)

    laminar_statement : {profile : Profile} {l lo hi : ℕ} {xs : List Line} {ss : List Stmt} {zs : List LinePlaces}
        (s : B.Statement l xs ss) → Given profile lo xs zs hi → LinesLaminar zs → Apart lo hi (statement_places zs s)
    laminar_statement {zs = []} B.simple_line g k = elim g.lie [ ]
    laminar_statement {zs = z ∷ zs} B.simple_line g k =
        let h = head g in
        let a = h.all in
        wider R clear (suite_apart h.line_lies k.0) h.begins (reaches a.lie)
    laminar_statement {zs = []} (B.if_statement b a) g k = elim g.lie [ ]
    laminar_statement {zs = z ∷ zs} (B.if_statement {xs = xs} {ys = ys} b a) g k =
        let h = head g in
        let r = split xs ys h.others in
        let p = top_of z (body_places z (take (length xs) zs) b)
        (laminar_whole b z (take (length xs) zs) h.line_lies r.first (k.0, in_first (length xs) zs k.1)) in
        let q = laminar_alternative a r.others (in_others (length xs) zs k.1) in
        as_those R clear
        (in_turn z.before (body_places z (take (length xs) zs) b) (alternative_places (drop (length xs) zs) a) (own z zs))
        (with_own h (both R clear p q (omega arith)))
    laminar_statement {zs = []} (B.loop_statement b a) g k = elim g.lie [ ]
    laminar_statement {zs = z ∷ zs} (B.loop_statement {xs = xs} {ys = ys} b a) g k =
        let h = head g in
        let r = split xs ys h.others in
        let p = top_of z (body_places z (take (length xs) zs) b)
        (laminar_whole b z (take (length xs) zs) h.line_lies r.first (k.0, in_first (length xs) zs k.1)) in
        let q = laminar_otherwise a r.others (in_others (length xs) zs k.1) in
        as_those R clear
        (in_turn z.before (body_places z (take (length xs) zs) b) (otherwise_places (drop (length xs) zs) a) (own z zs))
        (with_own h (both R clear p q (omega arith)))
    laminar_statement {zs = []} (B.with_statement b) g k = elim g.lie [ ]
    laminar_statement {zs = z ∷ zs} (B.with_statement b) g k =
        let h = head g in
        as_those R clear (two z.before (body_places z zs b) (own z zs))
        (with_own h (top_of z (body_places z zs b) (laminar_whole b z zs h.line_lies h.others k)))
    laminar_statement {zs = []} (B.try_finally b f) g k = elim g.lie [ ]
    laminar_statement {l = l} {zs = z ∷ zs} (B.try_finally {last = last} {xs = xs} {ys = ys} b f) g k =
        let h = head g in
        let r = split xs (line l (header_form finally_header last) ∷ ys) h.others in
        let p = body_of z (body_places z (take (length xs) zs) b)
        (laminar_whole b z (take (length xs) zs) h.line_lies r.first (k.0, in_first (length xs) zs k.1)) in
        let q = laminar_final f r.others (in_others (length xs) zs k.1) in
        as_those R clear (two (body_places z (take (length xs) zs) b) (final_places (drop (length xs) zs) f) (own z zs))
        (with_own h (both R clear p q (omega arith)))
    laminar_statement {zs = []} (B.try_except b e o f) g k = elim g.lie [ ]
    laminar_statement {zs = z ∷ zs} (B.try_except {xs = xs} {ys = ys} {zs = others} {ws = ws} b e o f) g k =
        let h = head g in
        let following = drop (length xs) zs in
        let last = drop (length ys) following in
        let r = split xs (ys ++ (others ++ ws)) h.others in
        let t = split ys (others ++ ws) r.others in
        let u = split others ws t.others in
        let k2 = in_others (length xs) zs k.1 in
        let k3 = in_others (length ys) following k2 in
        let p = body_of z (body_places z (take (length xs) zs) b)
        (laminar_whole b z (take (length xs) zs) h.line_lies r.first (k.0, in_first (length xs) zs k.1)) in
        let q = laminar_handlers e t.first (in_first (length ys) following k2) in
        let v = laminar_otherwise o u.first (in_first (length others) last k3) in
        let w = laminar_ending f u.others (in_others (length others) last k3) in
        as_those R clear
        (four (body_places z (take (length xs) zs) b) (handlers_places (take (length ys) following) e)
        (otherwise_places (take (length others) last) o) (ending_places (drop (length others) last) f) (own z zs))
        (with_own h (both R clear p (both R clear q (both R clear v w (omega arith)) (omega arith)) (omega arith)))
    laminar_statement {l = l} {zs = []} (B.definition_of top {suite = suite} {ds = ds} {xs = xs} d b) g k =
        elim (some_line ds (line l (header_form (def_header top) suite)) xs g.lie) [ ]
    laminar_statement {l = l} {zs = z ∷ zs} (B.definition_of top {suite = suite} {ds = ds} {xs = xs} d b) g k =
        let r = split ds (line l (header_form (def_header top) suite) ∷ xs) g in
        definition_apart b r.first (in_first (length ds) (z ∷ zs) k) (drop (length ds) (z ∷ zs)) r.others
        (in_others (length ds) (z ∷ zs) k) (λ w ws a j m. laminar_whole b w ws a j m)
    laminar_statement {zs = []} (B.match_statement e) g k = elim g.lie [ ]
    laminar_statement {zs = z ∷ zs} (B.match_statement e) g k =
        let h = head g in
        let p = before_apart h.line_lies k.0 in
        let q = laminar_cases e h.others k.1 in
        as_those R clear (two z.before (cases_places zs e) (own z zs)) (with_own h (both R clear p q (omega arith)))

    -- a header and its body
    laminar_whole : {profile : Profile} {l hi : ℕ} {x : Header} {suite : Option (List Stmt)} {xs : List Line} {ss : List Stmt}
        (b : B.Body l suite xs ss) (z : LinePlaces) (zs : List LinePlaces) → LineLies profile (header_form x suite) z
        → Given profile z.whole.stop xs zs hi → LinesLaminar (z ∷ zs)
        → Apart z.whole.start hi ((z.before ++ z.following) ++ body_places z zs b)
    laminar_whole B.inline z zs a g k = wider R clear (line_apart a k.0) (omega arith) (reaches g.lie)
    laminar_whole (B.indented b) z zs a g k = both R clear (header_apart a k.0) (laminar_block b g k.1) (omega arith)

    laminar_final : {profile : Profile} {l lo hi : ℕ} {x : Header} {suite : Option (List Stmt)} {xs : List Line} {ss : List Stmt}
        {zs : List LinePlaces} (b : B.Body l suite xs ss) → Given profile lo (line l (header_form x suite) ∷ xs) zs hi
        → LinesLaminar zs → Apart lo hi (final_places zs b)
    laminar_final {zs = []} b g k = elim g.lie [ ]
    laminar_final {zs = z ∷ zs} B.inline g k =
        let h = head g in
        let a = h.all in
        wider R clear (suite_apart h.line_lies k.0) h.begins (reaches a.lie)
    laminar_final {zs = z ∷ zs} (B.indented b) g k =
        let h = head g in
        let a = h.line_lies in
        wider R clear (laminar_block b h.all k.1) (omega (arith, h.begins, a.forward)) (omega arith)

    laminar_alternative : {profile : Profile} {l lo hi : ℕ} {xs : List Line} {ss : List Stmt} {zs : List LinePlaces}
        (a : B.Alternative l xs ss) → Given profile lo xs zs hi → LinesLaminar zs → Apart lo hi (alternative_places zs a)
    laminar_alternative (B.an_else o) g k = laminar_otherwise o g k
    laminar_alternative {zs = []} (B.an_elif b a) g k = elim g.lie [ ]
    laminar_alternative {zs = z ∷ zs} (B.an_elif {xs = xs} {ys = ys} b a) g k =
        let h = head g in
        let r = split xs ys h.others in
        let p = top_of z (body_places z (take (length xs) zs) b)
        (laminar_whole b z (take (length xs) zs) h.line_lies r.first (k.0, in_first (length xs) zs k.1)) in
        let q = laminar_alternative a r.others (in_others (length xs) zs k.1) in
        as_those R clear
        (in_turn z.before (body_places z (take (length xs) zs) b) (alternative_places (drop (length xs) zs) a) (own z zs))
        (with_own h (both R clear p q (omega arith)))

    laminar_otherwise : {profile : Profile} {l lo hi : ℕ} {xs : List Line} {ss : List Stmt} {zs : List LinePlaces}
        (o : B.Otherwise l xs ss) → Given profile lo xs zs hi → LinesLaminar zs → Apart lo hi (otherwise_places zs o)
    laminar_otherwise B.no_else g k = none R clear (reaches g.lie)
    laminar_otherwise {zs = []} (B.else_clause b) g k = elim g.lie [ ]
    laminar_otherwise {zs = z ∷ zs} (B.else_clause b) g k =
        let h = head g in
        wider R clear (body_of z (body_places z zs b) (laminar_whole b z zs h.line_lies h.all k)) h.begins (omega arith)

    laminar_handlers : {profile : Profile} {l lo hi : ℕ} {star : Bool} {xs : List Line} {hs : List Handler} {zs : List LinePlaces}
        (e : B.Excepts l star xs hs) → Given profile lo xs zs hi → LinesLaminar zs → Apart lo hi (handlers_places zs e)
    laminar_handlers B.no_except g k = none R clear (reaches g.lie)
    laminar_handlers {zs = []} (B.except_clause b e) g k = elim g.lie [ ]
    laminar_handlers {zs = z ∷ zs} (B.except_clause {xs = xs} {ys = ys} b e) g k =
        let h = head g in
        let r = split xs ys h.all in
        let one = clause h r.first in
        let p = with_own one (top_of z (body_places z (take (length xs) zs) b)
        (laminar_whole b z (take (length xs) zs) one.line_lies one.others (k.0, in_first (length xs) zs k.1))) in
        let q = laminar_handlers e r.others (in_others (length xs) zs k.1) in
        as_those R clear
        (in_turn z.before (body_places z (take (length xs) zs) b) (own z (take (length xs) zs))
        (handlers_places (drop (length xs) zs) e))
        (both R clear p q (omega arith))

    laminar_cases : {profile : Profile} {l lo hi : ℕ} {xs : List Line} {cs : List Case} {zs : List LinePlaces} (e : B.Cases l xs cs)
        → Given profile lo xs zs hi → LinesLaminar zs → Apart lo hi (cases_places zs e)
    laminar_cases B.no_case g k = none R clear (reaches g.lie)
    laminar_cases {zs = []} (B.case_clause b e) g k = elim g.lie [ ]
    laminar_cases {zs = z ∷ zs} (B.case_clause {xs = xs} {ys = ys} b e) g k =
        let h = head g in
        let r = split xs ys h.all in
        let p = top_of z (body_places z (take (length xs) zs) b)
        (laminar_whole b z (take (length xs) zs) h.line_lies r.first (k.0, in_first (length xs) zs k.1)) in
        let q = laminar_cases e r.others (in_others (length xs) zs k.1) in
        as_those R clear
        (two z.before (body_places z (take (length xs) zs) b) (cases_places (drop (length xs) zs) e))
        (wider R clear (both R clear p q (omega arith)) h.begins (omega arith))

    laminar_ending : {profile : Profile} {l lo hi : ℕ} {xs : List Line} {ss : List Stmt} {zs : List LinePlaces} (f : B.Ending l xs ss)
        → Given profile lo xs zs hi → LinesLaminar zs → Apart lo hi (ending_places zs f)
    laminar_ending B.no_finally g k = none R clear (reaches g.lie)
    laminar_ending {zs = []} (B.finally_clause b) g k = elim g.lie [ ]
    laminar_ending {zs = z ∷ zs} (B.finally_clause b) g k =
        let h = head g in
        wider R clear (body_of z (body_places z zs b) (laminar_whole b z zs h.line_lies h.all k)) h.begins (omega arith)
