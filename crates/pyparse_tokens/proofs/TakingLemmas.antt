-- Carries: take_token, take_operator, take_line_end, take_lexeme, begin_token, begin_operator. On: what is kept of a lexeme of the line
-- that is open is what is kept of its entry.
use Rattle.std.proofs.Common.{◌≡◌, ℕ, ◌-◌, ◌<◌, Bool, true, false, not, List, [], ◌∷◌, ◌++◌, length, map, refl, sym, ap, subst, ◌∙◌}
use Rattle.std.proofs.Common.{append-nil, arith, length-append, Option, Some, None}
use Rattle.std.proofs.lemmas.List.{length-map}
use Rattle.std.specs.Prelude.{if◌then◌else◌, Result, Ok, Err, OnOk}
use Rattle.std.specs.Option.{option_or}
use Rattle.std.specs.Str.{chars}
use Rattle.pysource.specs.declared.places.Place.{Place}
use Rattle.pylex_lexeme.specs.declared.kinds.Exact.{Exact}
use Rattle.pylex_lexeme.specs.declared.lexeme.Class.{Class}
use Rattle.pylex_lexeme.specs.declared.lexeme.Class.TheVariants.{Name, Number, String, Operator, Comment, Blanks, LineEnd, Join}
use Rattle.pylex_listing.specs.declared.kind.Kind.{Kind}
use Rattle.pylex_listing.specs.declared.kind.Kind.TheVariants as kinds
use Rattle.pylex_listing.specs.declared.entries.Entry.{Entry}
use Rattle.pylex.specs.declared.spots.Spot.{Spot}
use Rattle.pylex.specs.Spots.{is_silent}
use Rattle.pylex_listing.specs.EntryKinds.{kind_of}
use Rattle.pytree_node.specs.declared.profiles.Extent.{Extent}
use Rattle.pytoken.specs.declared.refusals.Refusal.{Refusal}
use Rattle.pytoken.specs.declared.refusals.Refusal.TheVariants.{TooDeep}
use Rattle.pytoken.specs.declared.values.terminals.Terminal.{Terminal}
use Rattle.pytoken.specs.Indentation.{Margin}
use Rattle.pytoken.specs.Terminals
use Rattle.pytoken.specs.Terminals.{single_fault, terminals_of, fault_of}
use Rattle.pytoken.specs.TerminalOf.{terminal}
use Rattle.pytoken.specs.Tokens.{text_of}
use Rattle.pytoken.specs.Refusals.{entry_refusal}
use Rattle.pyparse_tokens.specs.declared.indents.Indents.{Indents}
use Rattle.pyparse_tokens.specs.declared.pass.Pass.{Pass}
use Rattle.pyparse_tokens.specs.declared.open_line.OpenLine.{OpenLine}
use Rattle.pyparse_tokens.specs.declared.line_gather.LineGather.{LineGather}
use Rattle.pyparse_tokens.specs.Inner.Indenting.{Measured, Measures}
use Rattle.pyparse_tokens.specs.Inner.Passing.{still_open, line_ends, exceeding, Gains}
use Rattle.pyparse_tokens.specs.Inner.OpenLines.{of_first, Pushes}
use Rattle.pyparse_tokens.specs.Inner.LineGathering.{stands_in_line, ends_open_line, is_indent, is_dedent, marker_after, own_terminals}
use Rattle.pyparse_tokens.specs.Inner.LineGathering.{Adds, TakesEntry}
use Rattle.pyparse_tokens.specs.Inner.LineBeginning.{TakesStart}
use Rattle.pyparse_tokens.specs.Inner.Walking.{IsEntry, Takes, line_end_kind, TakesLineEnd, TakesLexeme, PassesOperator}
use Rattle.pyparse_tokens.specs.Inner.Walking.{PassesLineEnd}
use Rattle.pytoken.proofs.Callers.Singles.{of_single}
use Rattle.pyparse_tokens.proofs.TerminalLemmas.{no_refusal}
use Rattle.pyparse_tokens.proofs.OperatorLemmas.{operator_faultless, operator_adds}

-- an entry of this type and exact type
abbrev as_entry : Entry → Kind → Option Exact → Entry
as_entry e k x = record e { kind = k; exact = x }

entry_as : (e : Entry) (k : Kind) (x : Option Exact) → e.kind ≡ k → e.exact ≡ x → as_entry e k x ≡ e
entry_as e k x a b = sym (ap (λ (j : Kind). record e { kind = j }) a ∙ ap (λ (y : Option Exact). record e { kind = k; exact = y }) b)

or_none : (r : Option Refusal) → r ≡ option_or r None
or_none None = refl
or_none (Some x) = refl

none_measured : (i : Indents) → Measures [] i i
none_measured i ms had = subst (λ (xs : List Margin). Measured xs i) (sym (append-nil ms)) had

-- ---- What is kept of faults.

operator_gains : (text : List ℕ) (e : Entry) (x : Exact) (old new : Pass) → old.begun ≡ true → PassesOperator x old new
    → Gains text (as_entry e kinds.Op (Some x)) None old new
operator_gains text e x old new b passes =
    let few : exceeding (as_entry e kinds.Op (Some x)) old.opened old.closed ≡ None =
    ap (λ (d : Bool). if d then Some (TooDeep e.start) else None) passes.few in
    subst (Gains text (as_entry e kinds.Op (Some x)) None old) (sym passes.rest)
    record {
      extent = refl;
      begun = b;
      opened = refl;
      closed = refl;
      faulty = or_none old.faulty;
      deep = or_none old.deep ∙ ap (option_or old.deep) (sym few);
      indents = none_measured old.indents;
    }

-- a type of tokens that stand in a line and are no operators
record IsWithin (k : Kind) : Type 0 where
  pub stands : stands_in_line k ≡ true
  pub goes : ends_open_line k ≡ false
  pub stays : still_open k true ≡ true
  pub inner : (opened closed : ℕ) → line_ends k opened closed ≡ false
  pub indent : is_indent k ≡ false
  pub dedent : is_dedent k ≡ false
  pub marker : (e : Entry) (p : Place) → e.kind ≡ k → marker_after e p ≡ p

-- ---- What is kept of the line.

of_first_some : {A : Type 0} (ts : List Terminal) (p q : A) → 0 < length ts → of_first ts p q ≡ p
of_first_some [] p q some = absurd (omega (arith, some))
of_first_some (t ∷ ts) p q some = refl

-- after the first token no place counts
later : (p q : Place) (own mine : List ℕ) (ts : List Terminals.Terminal) (old new : OpenLine)
    → 0 < length old.terminals.items → own ≡ mine →
    Pushes p own ts old new → Pushes q mine ts old new
later p q own mine ts old new some same pushes = record {
  terminals = pushes.terminals;
  start = pushes.start ∙ of_first_some old.terminals.items old.start p some ∙ sym (of_first_some old.terminals.items old.start q some);
  first = pushes.first ∙ ap (of_first old.terminals.items (chars old.first.now)) same;
  last = pushes.last ∙ same;
}

-- what is no token adds nothing
none_adds : (text : List ℕ) (e : Entry) (k : Kind) (line : OpenLine) → stands_in_line k ≡ false → e.kind ≡ k → Adds text e line line
none_adds text e k line beside kind =
    let here : stands_in_line e.kind ≡ false = ap stands_in_line kind ∙ beside in
    let mine : own_terminals text e ≡ [] = ap (λ (b : Bool). if b then terminals_of e.kind (text_of text e) else []) here in
    record {
      terminals =
          sym (append-nil (map terminal line.terminals.items))
          ∙ ap (λ (ts : List Terminals.Terminal). map terminal line.terminals.items ++ ts) (sym mine);
      start = ap (λ (b : Bool). if b then of_first line.terminals.items line.start e.start else line.start) (sym here);
      first = ap (λ (b : Bool). if b then of_first line.terminals.items (chars line.first.now) (text_of text e) else chars
          line.first.now) (sym here);
      last = ap (λ (b : Bool). if b then text_of text e else chars line.last.now) (sym here);
    }

-- ---- The entries.

-- an operator: the brackets are counted, and its terminal is kept
pub operator_takes : (x : Exact) (own : List ℕ) (old new : LineGather) → old.pass.begun ≡ true → 0 < length old.line.terminals.items
    → PassesOperator x old.pass new.pass → Pushes old.line.start own (Terminals.Op x ∷ []) old.line new.line
    → new ≡ record old { pass = new.pass; line = new.line } → Takes kinds.Op (Some x) own old new
operator_takes x own old new begun some passes pushes rest text e is =
    let none : entry_refusal old.pass.extent text e ≡ None = operator_faultless old.pass.extent text e x is.has is.exact in
    let gains : Gains text e None old.pass new.pass =
    subst (λ (d : Entry). Gains text d None old.pass new.pass) (entry_as e kinds.Op (Some x) is.kind is.exact)
    (operator_gains text e x old.pass new.pass begun passes) in
    record {
      pass = subst (λ (r : Option Refusal). Gains text e r old.pass new.pass) (sym none) gains;
      level = λ ends. let n : false ≡ true = rw is.kind at ends in absurd cc;
      indents = ap (λ (g : LineGather). g.indents) rest ∙ rw is.kind refl;
      dedents = ap (λ (g : LineGather). g.dedents) rest ∙ rw is.kind refl;
      marker = ap (λ (g : LineGather). g.marker) rest ∙ rw is.kind refl;
      line = λ _.
          operator_adds text e x old.line new.line is.has is.exact
          (later old.line.start e.start own (text_of text e) (Terminals.Op x ∷ []) old.line new.line some (sym is.own_text) pushes);
    }

-- ---- The token that begins a line.

pushes_as : (p q : Place) (own mine : List ℕ) (ts us : List Terminals.Terminal) (old new : OpenLine) → p ≡ q → own ≡ mine → ts ≡ us
    → Pushes p own ts old new → Pushes q mine us old new
pushes_as p q own mine ts us old new place text same pushes =
    subst (λ (r : Place). Pushes r mine us old new) place
    (subst (λ (t : List ℕ). Pushes p t us old new) text (subst (λ (vs : List Terminals.Terminal). Pushes p own vs old new) same pushes))

-- whatever stood before it, the line has begun after it
start_gains : (text : List ℕ) (e : Entry) (x : Exact) (old mid : Pass) → PassesOperator x old mid
    → Gains text (as_entry e kinds.Op (Some x)) None old (record mid { begun = true })
start_gains text e x old mid passes =
    let few : exceeding (as_entry e kinds.Op (Some x)) old.opened old.closed ≡ None =
    ap (λ (d : Bool). if d then Some (TooDeep e.start) else None) passes.few in
    subst (λ (m : Pass). Gains text (as_entry e kinds.Op (Some x)) None old (record m { begun = true })) (sym passes.rest)
    record {
      extent = refl;
      begun = refl;
      opened = refl;
      closed = refl;
      faulty = or_none old.faulty;
      deep = or_none old.deep ∙ ap (option_or old.deep) (sym few);
      indents = none_measured old.indents;
    }

pub operator_begins : (x : Exact) (own : List ℕ) (start : Place) (old new : LineGather) (mid : Pass) → PassesOperator x old.pass mid
    → Pushes start own (Terminals.Op x ∷ []) old.line new.line
    → new ≡ record old { pass = record mid { begun = true }; line = new.line } → TakesStart kinds.Op (Some x) own start old new
operator_begins x own start old new mid passes pushes rest text e is at =
    let pass : new.pass ≡ record mid { begun = true } = ap (λ (g : LineGather). g.pass) rest in
    let none : entry_refusal old.pass.extent text e ≡ None = operator_faultless old.pass.extent text e x is.has is.exact in
    let gains : Gains text e None old.pass (record mid { begun = true }) =
    subst (λ (d : Entry). Gains text d None old.pass (record mid { begun = true })) (entry_as e kinds.Op (Some x) is.kind is.exact)
    (start_gains text e x old.pass mid passes) in
    record {
      pass = subst (λ (r : Option Refusal). Gains text e r old.pass new.pass) (sym none)
          (subst (Gains text e None old.pass) (sym pass) gains);
      level = λ ends. let n : false ≡ true = rw is.kind at ends in absurd cc;
      indents = ap (λ (g : LineGather). g.indents) rest ∙ rw is.kind refl;
      dedents = ap (λ (g : LineGather). g.dedents) rest ∙ rw is.kind refl;
      marker = ap (λ (g : LineGather). g.marker) rest ∙ rw is.kind refl;
      line = λ _.
          operator_adds text e x old.line new.line is.has is.exact
          (pushes_as start e.start own (text_of text e) (Terminals.Op x ∷ []) (Terminals.Op x ∷ []) old.line new.line (sym at)
          (sym is.own_text) refl pushes);
    }

-- of what was appended something is kept
pub some_pushed : (p : Place) (own : List ℕ) (ts : List Terminals.Terminal) (old new : OpenLine) → Pushes p own ts old new
    → 0 < length ts → 0 < length new.terminals.items
some_pushed p own ts old new pushes some =
    let size = sym (length-map new.terminals.items terminal) ∙ ap length pushes.terminals
    ∙ length-append (map terminal old.terminals.items) ts in
    omega (arith, size, some)

line_end_faultless : (extent : Extent) (text : List ℕ) (e : Entry) (b : Bool) → e.kind ≡ line_end_kind b
    → entry_refusal extent text e ≡ None
unfolding single_fault
line_end_faultless extent text e true kind =
    no_refusal extent text e (ap (λ (k : Kind). fault_of extent k (text_of text e)) kind
    ∙ of_single extent kinds.Newline (text_of text e) refl)
line_end_faultless extent text e false kind =
    no_refusal extent text e (ap (λ (k : Kind). fault_of extent k (text_of text e)) kind ∙ of_single extent kinds.Nl (text_of text e) refl)

-- a line end within brackets, and one that ends the logical line
pub line_end_takes : (text : List ℕ) (ends : Bool) (to : ℕ) (old new : LineGather) → (ends ≡ true → new.level ≡ old.indents - old.dedents)
    → PassesLineEnd text ends to old.pass new.pass → new ≡ record old { pass = new.pass; level = new.level }
    → TakesLineEnd text ends to old new
line_end_takes text ends to old new level passes rest own e is there =
    let none : entry_refusal old.pass.extent text e ≡ None = line_end_faultless old.pass.extent text e ends is.kind in
    let pass : Gains text e (entry_refusal old.pass.extent text e) old.pass new.pass =
    subst (λ (r : Option Refusal). Gains text e r old.pass new.pass) (sym none) (passes e is.kind is.exact there) in
    let beside : stands_in_line (line_end_kind ends) ≡ false = aside ends in
    let indents : new.indents ≡ old.indents = ap (λ (g : LineGather). g.indents) rest in
    let dedents : new.dedents ≡ old.dedents = ap (λ (g : LineGather). g.dedents) rest in
    let marker : new.marker ≡ old.marker = ap (λ (g : LineGather). g.marker) rest in
    let line : new.line ≡ old.line = ap (λ (g : LineGather). g.line) rest in
    let adds : Adds text e old.line new.line =
    subst (Adds text e old.line) (sym line) (none_adds text e (line_end_kind ends) old.line beside is.kind) in
    taken ends level is.kind pass indents dedents marker adds
  where
    aside : (b : Bool) → stands_in_line (line_end_kind b) ≡ false
    aside true = refl
    aside false = refl

    taken : (b : Bool) → (b ≡ true → new.level ≡ old.indents - old.dedents) → e.kind ≡ line_end_kind b
        → Gains text e (entry_refusal old.pass.extent text e) old.pass new.pass
        → new.indents ≡ old.indents → new.dedents ≡ old.dedents → new.marker ≡ old.marker → Adds text e old.line new.line
        → TakesEntry text e old new
    taken true level kind pass indents dedents marker adds = record {
      pass = pass;
      level = λ _. level refl;
      indents = indents
          ∙ rw kind refl;
      dedents = dedents ∙ rw kind refl;
      marker = marker ∙ rw kind refl;
      line = λ _. adds;
    }
    taken false level kind pass indents dedents marker adds = record {
      pass = pass;
      level = λ ends. let n : false ≡ true =
          rw kind at ends in absurd cc;
      indents = indents ∙ rw kind refl;
      dedents = dedents ∙ rw kind refl;
      marker = marker
          ∙ rw kind refl;
      line = λ _. adds;
    }

-- a line end, by what its pass answers
pub line_end_kept : {E : Type 0} (answer : Result (Unit {0}) E) (text : List ℕ) (ends : Bool) (to : ℕ) (old mid : LineGather) (pass : Pass)
    → (ends ≡ true → mid.level ≡ old.indents - old.dedents)
    → mid ≡ record old { level = mid.level } → OnOk answer (PassesLineEnd text ends to mid.pass pass)
    → OnOk answer (TakesLineEnd text ends to old (record mid { pass = pass }))
line_end_kept (Ok u) text ends to old mid pass level rest passes =
    let was : mid.pass ≡ old.pass = ap (λ (g : LineGather). g.pass) rest in
    line_end_takes text ends to old (record mid { pass = pass }) level (subst (λ (p : Pass). PassesLineEnd text ends to p pass) was passes)
    (ap (λ (g : LineGather). record g { pass = pass }) rest)
line_end_kept (Err fault) text ends to old mid pass level rest passes = tt

-- what is no other lexeme that gives an entry is a line end
pub end_takes : (text own : List ℕ) (k : Class) (t : Spot) (old new : LineGather) → (k ≡ Name → ⊥) → (k ≡ Number → ⊥) → (k ≡ String → ⊥)
    → ((x : Exact) → k ≡ Operator x → ⊥)
    → (k ≡ Comment → ⊥) → is_silent k ≡ false → TakesLineEnd text (not t.begun) t.offset old new → TakesLexeme text k own t old new
end_takes text own LineEnd t old new name number string operator comment gives takes e is there = takes own e (as_end t.begun is) there
  where
    as_end : (b : Bool) → IsEntry text (kind_of LineEnd b) None own e → IsEntry text (line_end_kind (not b)) None own e
    as_end true is = is
    as_end false is = is
end_takes text own Name t old new name number string operator comment gives takes e is there = absurd (name refl)
end_takes text own Number t old new name number string operator comment gives takes e is there = absurd (number refl)
end_takes text own String t old new name number string operator comment gives takes e is there = absurd (string refl)
end_takes text own (Operator x) t old new name number string operator comment gives takes e is there = absurd (operator x refl)
end_takes text own Comment t old new name number string operator comment gives takes e is there = absurd (comment refl)
end_takes text own Blanks t old new name number string operator comment gives takes e is there = absurd cc
end_takes text own Join t old new name number string operator comment gives takes e is there = absurd cc
