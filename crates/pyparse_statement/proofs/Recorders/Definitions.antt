-- The headers of `def` and `class`: the places of parameters of types are set aside, and taken back after the others.
--
-- Carries: definitions.rt. On: Looks; Asides and Headers of pyplaces.
use Rattle.std.proofs.Common.{◌≡◌, refl, sym, ap, subst, ◌∙◌, ℕ, ◌+◌, List, [], ◌∷◌, ◌++◌, map, Some, Bool, Result, Ok, Err}
use Rattle.std.proofs.Common.{append_assoc, append-nil}
use Rattle.std.specs.Prelude.{IfOk, MatchResult}
use Rattle.pylex_lexeme.specs.declared.kinds.Exact.TheVariants.{LPar, RArrow, RPar}
use Rattle.pytree_node.specs.declared.profiles.Profile.{Profile}
use Rattle.pytree_node.specs.Trees
use Rattle.pytree_node.specs.Trees.{Identifier, exprs, no_keyword}
use Rattle.pytree_node.specs.TreeOf.{arguments_of, boxed_of, keyword_of, tree_of, type_param_of}
use Rattle.pytoken.specs.declared.keywords.Keyword.TheVariants as Key
use Rattle.pytoken.specs.Terminals.{Ident, Op, Terminal, Word}
use Rattle.pytoken.specs.declared.values.terminals.Terminal as given
use Rattle.pygrammar.specs.declared.levels.Level.TheVariants.{Expression}
use Rattle.pygrammar.specs.Arguments.{positional}
use Rattle.pygrammar.specs.FormOf.{header_of}
use Rattle.pygrammar.specs.Forms as F
use Rattle.pygrammar.specs.Forms.{listed}
use Rattle.pygrammar.specs.Lines.{class_head, def_header, function_head}
use Rattle.pygrammar.specs.Looks.{name_in}
use Rattle.pyparse_nodes.specs.declared.found.Optional.{Optional}
use Rattle.pyparse_nodes.specs.declared.stop.Stop.{Stop}
use Rattle.pyparse_nodes.specs.declared.stop.Stop.TheVariants as stop
use Rattle.pyparse_nodes.specs.Views.{Stands, first_is, seen}
use Rattle.pyparse_reads.specs.declared.parts.ReadArguments.{ReadArguments}
use Rattle.pyparse_reads.specs.declared.parts.ReadParameters.{ReadParameters}
use Rattle.pyparse_reads.specs.PlacedParts.{BasesPlaced, ParametersPlaced}
use Rattle.pyplaces.specs.EntryPlaces as E
use Rattle.pyplaces.specs.FormPlaces.{form_places}
use Rattle.pyplaces.specs.PlacedForms.{Bare, PlacedBases, PlacedHeader, PlacedTypeParams}
use Rattle.pyplaces.specs.Recording.{Kept, Moves, Records, afters}
use Rattle.pyplaces.specs.Stretches.{Stretch}
use Rattle.pyplaces.proofs.Asides.{Apart, Still, count_still, kept_aside, kept_back, kept_more, kept_records}
use Rattle.pyplaces.proofs.Answers.{records_none}
use Rattle.pyplaces.proofs.Forms.Headers.{placed_bases, placed_class_line, placed_def_line, placed_no_bases}
use Rattle.pyparse_statement.specs.declared.headers.found.ReadHeader.{ReadHeader}
use Rattle.pyparse_statement.specs.declared.statements.found.ReadTypeParams.{ReadTypeParams}
use Rattle.pyparse_statement.specs.PlacedHeaders.{ClassPlaced, FunctionPlaced, HeaderPlaced}
use Rattle.pyparse_statement.specs.PlacedParts.{AfterPlaced, TypeParamsPlaced}
use Rattle.pyparse_statement.proofs.headers.DefinitionSteps.{listed_all}
use Rattle.pyparse_statement.proofs.Callers.Looks.{begun, moved, name_stands}

-- places in front of those that are set aside
kept_front : {S : Type 0} {after beside : S → Stretch → S} {u v w : S} {ps qs : List Stretch} → Apart after beside
    → Kept after beside u [] qs v → Records after v ps w → Kept after beside u ps qs w
kept_front {after = after} {beside = beside} {u = u} {w = w} {ps = ps} {qs = qs} a k r =
    subst (λ l. Kept after beside u ps l w) (append-nil qs) (kept_more a k (kept_records r))

module _ {S : Type 0} {after beside : S → Stretch → S} (count aside_count : S → ℕ) (ts : List given.Terminal)
    (apart : Apart after beside) (still : Still after aside_count) (kept : Still beside count) where
  -- how many are recorded, of those that aren't set aside
  counted : {u v : S} {ps qs : List Stretch} → Kept after beside u ps qs v → count v ≡ count (afters after u ps)
  counted {u} {ps = ps} {qs = qs} k = ap count k.is ∙ count_still kept (afters after u ps) qs

  -- a header that is this one, of its parts
  header_as : {prof : Profile} {from : ℕ} {r : ReadHeader} {ps qs : List Stretch} {start old new : S} {tail : List Stretch} {aside : ℕ}
      {x : S} → PlacedHeader prof (seen ts from) from (header_of r.header) (seen ts r.next) r.next (form_places ps (qs ++ tail) [])
      → Kept after beside start ps tail x → r.before ≡ count x → Records after x qs old → Moves after beside aside_count aside old new
      → aside ≡ aside_count start → HeaderPlaced after count prof ts from start new r
  header_as {r = r} {ps} {qs} {start} {old} {new} {tail} p k b q m a = record {
    before = ps;
    following = qs ++ tail;
    header = λ z e. p;
    before_is = b ∙ counted k;
    records = subst (λ l. Records after start l new) (append_assoc ps qs tail)
        (kept_back aside_count apart still (all (kept_more apart k (kept_records q))) a m);
  }
    where
      all : Kept after beside start (ps ++ qs) (tail ++ []) old → Kept after beside start (ps ++ qs) tail old
      all h = subst (λ l. Kept after beside start (ps ++ qs) l old) (append-nil tail) h

  -- ---- `def`.
  pub function_placed : {is_async : Bool} {name : Identifier} {at : ℕ} {u v w x : S} (types : ReadTypeParams) (aside : ℕ)
      (parameters : ReadParameters) (returns : Optional) (before : ℕ) (z : Result ReadHeader Stop) → at ≡ types.next + 1
      → ParametersPlaced after ts at (arguments_of parameters.arguments) parameters.next u v
      → Stands (Op RPar) ts parameters.next → before ≡ count v
      → AfterPlaced after (Op RArrow) Expression ts (parameters.next + 1) v w returns → Moves after beside aside_count aside w x
      → MatchResult z (λ r. header_of r.header ≡ def_header (function_head is_async name (map type_param_of types.params.items)
      (arguments_of parameters.arguments) (boxed_of returns.expr))) (λ s. s ≡ stop.Memory)
      → MatchResult z (λ r. r.next ≡ returns.next) (λ s. s ≡ stop.Memory) → MatchResult z (λ r. r.before ≡ before) (λ s. s ≡ stop.Memory)
      → Stands (Op LPar) ts types.next → FunctionPlaced after beside count aside_count is_async ts name types aside u x z
  function_placed {is_async} {u = u} {v} types aside parameters returns before (Ok r) e q c b o m h n i lead prof from middle name tps start
      d s f t k a =
      let p = subst (λ j. ParametersPlaced after ts j (arguments_of parameters.arguments) parameters.next u v) e q in
      let k2 = kept_front apart k p.records in
      header_as (moved (seen ts)
      (λ y l j. PlacedHeader prof (seen ts from) from y l j (form_places (E.arranged p.places) (o.places ++ tps) []))
      (h ∙ ap (λ g. def_header (function_head is_async g (map type_param_of types.params.items) (arguments_of parameters.arguments)
      (boxed_of returns.expr))) (sym f)) n
      (placed_def_line d s refl t lead.is p.listing p.parameters c.is o.part)) k2 (i ∙ b) o.records m a
  function_placed types aside parameters returns before (Err s) e p c b o m h n i lead prof from middle name tps start d w f t k a = tt

  -- ---- `class`.
  pub class_placed : {name : Identifier} {at : ℕ} {u v x : S} {r : ReadHeader} (types : ReadTypeParams) (aside : ℕ)
      (arguments : ReadArguments) (before : ℕ) → at ≡ types.next + 1 → BasesPlaced after ts at (exprs (map tree_of arguments.args.items))
      (Trees.keywords (map keyword_of arguments.keywords.items)) arguments.next u v → Stands (Op RPar) ts arguments.next
      → before ≡ count v → Moves after beside aside_count aside v x
      → header_of r.header ≡ def_header (class_head name (map type_param_of types.params.items) (map tree_of arguments.args.items)
      (Trees.keywords (map keyword_of arguments.keywords.items))) → r.next ≡ arguments.next + 1 → r.before ≡ before
      → Stands (Op LPar) ts types.next → ClassPlaced after beside count aside_count ts name types aside u x (Ok r)
  class_placed {u = u} {v} {r = r} types aside arguments before e q c b m h n i lead prof from name tps start s f t k a =
      let xs = map tree_of arguments.args.items in
      let ks = Trees.keywords (map keyword_of arguments.keywords.items) in
      let p = subst (λ j. BasesPlaced after ts j (exprs xs) ks arguments.next u v) e q in
      let tys = map type_param_of types.params.items in
      let bases : PlacedBases (seen ts types.next) types.next xs ks (seen ts (arguments.next + 1)) (arguments.next + 1)
      (E.positional p.places ++ E.keywords p.places) =
      subst (λ y. PlacedBases (seen ts types.next) types.next y ks (seen ts (arguments.next + 1)) (arguments.next + 1)
      (E.positional p.places ++ E.keywords p.places)) (ap listed p.bases ∙ listed_all xs)
      (subst (λ y. PlacedBases (seen ts types.next) types.next (listed (positional p.es)) y
      (seen ts (arguments.next + 1)) (arguments.next + 1)
      (E.positional p.places ++ E.keywords p.places)) p.named (placed_bases lead.is p.listing p.order c.is)) in
      header_as {qs = []} (moved (seen ts)
      (λ y l j. PlacedHeader prof (seen ts from) from y l j (form_places (E.positional p.places ++ E.keywords p.places) tps []))
      (h ∙ ap (λ g. def_header (class_head g tys xs ks)) (sym f)) n (placed_class_line s refl t bases))
      (kept_front apart k p.records) (i ∙ b) records_none m a

  pub bare_class_placed : {name : Identifier} {u x : S} {r : ReadHeader} (types : ReadTypeParams) (aside before : ℕ) → before ≡ count u
      → Moves after beside aside_count aside u x
      → header_of r.header ≡ def_header (class_head name (map type_param_of types.params.items) [] no_keyword) → r.next ≡ types.next
      → r.before ≡ before → ClassPlaced after beside count aside_count ts name types aside u x (Ok r)
  bare_class_placed types aside before b m h n i prof from name tps start s f t k a =
      header_as {qs = []} (moved (seen ts) (λ y l j. PlacedHeader prof (seen ts from) from y l j (form_places [] tps []))
      (h ∙ ap (λ g. def_header (class_head g (map type_param_of types.params.items) [] no_keyword)) (sym f)) n
      (placed_class_line s refl t placed_no_bases)) k (i ∙ b) records_none m a

-- ---- After the word: the NAME, and the parameters of types, which are set aside.
module _ {S : Type 0} {after beside : S → Stretch → S} {count : S → ℕ} {ts : List given.Terminal} {at : ℕ} {u v w : S}
    (aside_count : S → ℕ) (x : S) (name : Identifier) (n : Some name ≡ first_is name_in (seen ts at))
    (types : ReadTypeParams) (aside recorded : ℕ)
    (prof : Profile) (p : TypeParamsPlaced after prof ts (at + 1) u v types) (a : aside ≡ aside_count u) (r : recorded ≡ count u)
    (m : Moves beside after count recorded v w) (z : Result ReadHeader Stop) where
  pub def_placed : {is_async : Bool} {given : Identifier} → given ≡ name
      → FunctionPlaced after beside count aside_count is_async ts given types aside w x z → (from middle : ℕ)
      → Bare (λ us. F.Async us is_async) (seen ts from) from (seen ts middle) middle → at ≡ middle + 1 → Stands (Word Key.Def) ts middle
      → IfOk z (HeaderPlaced after count prof ts from u x)
  def_placed {given = given} g f from middle d q s =
      let y = name_stands name ts at n in
      let e : at + 1 ≡ middle + 1 + 1 = ap (λ k. k + 1) q in
      f prof from middle y.name p.places u d
      (begun q s ∙ (ap (λ i. Word Key.Def ∷ i) y.is ∙ ap (λ k. Word Key.Def ∷ (Ident y.name ∷ seen ts k)) e)) (y.form ∙ sym g)
      (subst (λ k. PlacedTypeParams prof (seen ts k) k (map type_param_of types.params.items) (seen ts types.next) types.next p.places) e
      p.part) (kept_aside count p.records r m) a

  pub class_rest_placed : {given : Identifier} → given ≡ name → ClassPlaced after beside count aside_count ts given types aside w x z
      → (from : ℕ) → at ≡ from + 1 → Stands (Word Key.Class) ts from → IfOk z (HeaderPlaced after count prof ts from u x)
  class_rest_placed {given = given} g f from q s =
      let y = name_stands name ts at n in
      let e : at + 1 ≡ from + 1 + 1 = ap (λ k. k + 1) q in
      f prof from y.name p.places u
      (begun q s ∙ (ap (λ i. Word Key.Class ∷ i) y.is ∙ ap (λ k. Word Key.Class ∷ (Ident y.name ∷ seen ts k)) e)) (y.form ∙ sym g)
      (subst (λ k. PlacedTypeParams prof (seen ts k) k (map type_param_of types.params.items) (seen ts types.next) types.next p.places) e
      p.part) (kept_aside count p.records r m) a
