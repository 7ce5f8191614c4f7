-- What follows the NAME `case`: in a target of more than that name `.`, `[`, or round brackets and more of these; in the header of a case
-- a pattern, after whose round brackets none of these follows.
--
-- Carries: target_goes, pattern_begun, apart, for Law. On: Machine, Signs, Expressions, Patterns.
use Rattle.std.proofs.Common.{◌≡◌, ◌⊎◌, inl, inr, refl, sym, ap, ◌∙◌, subst, List, [], ◌∷◌, ◌++◌, Option, Some, None, Bool, true, false}
use Rattle.std.proofs.Common.{cond, append_assoc}
use Rattle.pylex_lexeme.specs.declared.kinds.Exact.TheVariants.{LPar, RPar, LSqb, RSqb, Colon, Comma, Dot, VBar}
use Rattle.pytoken.specs.declared.keywords.Keyword.TheVariants as Key
use Rattle.pytree_node.specs.declared.operators.Operator.{Operator}
use Rattle.pytree_node.specs.declared.operators.UnaryOperator.{UnaryOperator}
use Rattle.pytree_node.specs.declared.operators.BoolOperator.{BoolOperator}
use Rattle.pytree_node.specs.declared.operators.BoolOperator.TheVariants as Join
use Rattle.pytree_node.specs.declared.operators.Context.TheVariants.{Store}
use Rattle.pygrammar.specs.declared.levels.Level.{Level}
use Rattle.pygrammar.specs.declared.levels.Level.TheVariants.{Primary, Atom}
use Rattle.pygrammar.specs.declared.pattern_levels.PatternLevel.{PatternLevel}
use Rattle.pytree_node.specs.Trees
use Rattle.pytree_node.specs.Trees.{Expr, Exprs, Keywords, Identifier, Pattern}
use Rattle.pytree_node.specs.Values
use Rattle.pytoken.specs.Terminals.{Terminal, Op, Word, Ident}
use Rattle.pygrammar.specs.Operators.{below, left_operator, prefix_operator, chain_level}
use Rattle.pygrammar.specs.PatternOperators.{singleton_word}
use Rattle.pygrammar.specs.Constants.{constant_word}
use Rattle.pygrammar.specs.Arguments.{in_order, positional, keywords}
use Rattle.pygrammar.specs.Targets.{single_stored}
use Rattle.pygrammar.specs.FormattedStrings.{StringPart, has_formatted}
use Rattle.pygrammar.specs.Grammar as G
use Rattle.pygrammar.specs.PatternGrammar as P
use Rattle.pygrammar.specs.Forms.{is_name}
use Rattle.pyparse_block.proofs.CaseLines.Machine.{left_of, Takes, none, join, between}
use Rattle.pyparse_block.proofs.CaseLines.Signs.{no_some}
use Rattle.pyparse_block.proofs.CaseLines.Expressions.{expression, listing, comps}
use Rattle.pyparse_block.proofs.CaseLines.Patterns.{one_pattern, entries}

-- what holds of a list whose parts are bracketed to the right
regroup : (X : List Terminal → Type 0) (ts us vs : List Terminal) → X (ts ++ (us ++ vs)) → X ((ts ++ us) ++ vs)
regroup X ts us vs h = subst X (sym (append_assoc ts us vs)) h

-- ---- Targets.

-- what may follow the NAME of a target of more than that name
pub data Trailed : List Terminal → Type 0 where
  point : {us : List Terminal} → Trailed (Op Dot ∷ us)
  square : {us : List Terminal} → Trailed (Op LSqb ∷ us)
  round : {ts us : List Terminal} → Takes [] [] ts → Trailed us → Trailed (Op LPar ∷ (ts ++ (Op RPar ∷ us)))

-- a list that begins with a NAME goes on so
abbrev pub GoesOn : List Terminal → Type 0
GoesOn (Ident x ∷ us) = Trailed us
GoesOn _ = Unit {0}

-- the levels of what an Attribute or Subscript is of
abbrev inner : Level → Bool
inner Primary = true
inner Atom = true
inner _ = false

inner_below : (l : Level) → inner l ≡ true → inner (below l) ≡ true
inner_below Primary h = refl
inner_below Atom h = refl
inner_below _ h = absurd (cc)

no_chain : {C : Type 0} (o : BoolOperator) → inner (chain_level o) ≡ true → C
no_chain Join.And h = absurd (cc)
no_chain Join.Or h = absurd (cc)

no_prefix : {C : Type 0} (l : Level) (t : Terminal) {o : UnaryOperator} → inner l ≡ true → prefix_operator l t ≡ Some o → C
no_prefix Primary t h k = no_some k
no_prefix Atom t h k = no_some k
no_prefix _ t h k = absurd (cc)

no_left : {C : Type 0} (l : Level) (t : Terminal) {o : Operator} → inner l ≡ true → left_operator l t ≡ Some o → C
no_left Primary t h k = no_some k
no_left Atom t h k = no_some k
no_left _ t h k = absurd (cc)

abbrev is_part : Expr → Bool
is_part (Trees.Attribute e x c) = true
is_part (Trees.Subscript e s c) = true
is_part _ = false

target_part : (e : Expr) {t : Expr} → single_stored e ≡ Some t → is_name t ≡ false → is_part e ≡ true
target_part (Trees.Name x c) {t} h n = absurd (cc (ap is_name same))
  where
    same : Trees.Name x Store ≡ t
    same = cc
target_part (Trees.Attribute e x c) h n = refl
target_part (Trees.Subscript e s c) h n = refl
target_part _ h n = no_some h

no_call : {C : Type 0} (b : Bool) (f : Expr) (es : Exprs) (ks : Keywords) {e : Expr} →
    ◌≡◌ {A = Option Expr} (cond b (Some (Trees.Call f es ks)) None) (Some e) → is_part e ≡ true → C
no_call true f es ks {e} h n = absurd (cc (ap is_part same))
  where
    same : Trees.Call f es ks ≡ e
    same = cc
no_call false f es ks h n = no_some h

constant_goes : (t : Terminal) {v : Values.Value} (us : List Terminal) → constant_word t ≡ Some v → GoesOn (t ∷ us)
constant_goes (Ident x) us h = no_some h
constant_goes _ us h = tt

strings_go : {u : Bool} {ts : List Terminal} {ps : List StringPart} → G.Literals u ts ps → has_formatted ts ≡ true →
    (us : List Terminal) → GoesOn (ts ++ us)
strings_go G.no_literal h us = absurd (cc)
strings_go (G.text_literal p) h us = tt
strings_go (G.formatted_literal p q) h us = tt

-- where more of a target follows, or where the expression is an Attribute or Subscript itself
goes : {l : Level} {ts : List Terminal} {e : Expr} → inner l ≡ true → G.Derives l ts e →
    (us : List Terminal) → Trailed us ⊎ (is_part e ≡ true) → GoesOn (ts ++ us)
goes h (G.next {l = l} p) us k = goes (inner_below l h) p us k
goes h (G.chain {o = o} p c) us k = no_chain o h
goes h (G.unary {l = l} {t = t} q p) us k = no_prefix l t h q
goes h (G.binary {l = l} t q p r) us k = no_left l t h q
goes h (G.attribute {ts = ts} x p) us k =
    regroup GoesOn ts (Op Dot ∷ (Ident x ∷ [])) us (goes refl p (Op Dot ∷ (Ident x ∷ us)) (inl point))
goes h (G.subscript {ts = ts} {us = vs} p q) us k =
    let brackets = Op LSqb ∷ (vs ++ (Op RSqb ∷ [])) in
    regroup GoesOn ts brackets us (goes refl p (brackets ++ us) (inl square))
goes h (G.call {ts = ts} {us = vs} p c q) us (inl k) =
    let more : Trailed (Op LPar ∷ (vs ++ (Op RPar ∷ us))) = round (listing [] c) k in
    regroup GoesOn ts (Op LPar ∷ (vs ++ (Op RPar ∷ []))) us (regroup (λ z. GoesOn (ts ++ (Op LPar ∷ z))) vs (Op RPar ∷ []) us
    (goes refl p (Op LPar ∷ (vs ++ (Op RPar ∷ us))) (inl more)))
goes h (G.call {f = f} {es = es} p c q) us (inr n) = no_call (in_order false false es) f (positional es) (keywords es) q n
goes h (G.call_generator {ts = ts} {us = vs} {vs = ws} p q c) us (inl k) =
    let more : Trailed (Op LPar ∷ ((vs ++ ws) ++ (Op RPar ∷ us))) = round (join (expression [] q) (comps [] c)) k in
    simp append_assoc (simp append_assoc at (goes refl p (Op LPar ∷ ((vs ++ ws) ++ (Op RPar ∷ us))) (inl more)))
goes h (G.call_generator p q c) us (inr n) = absurd (cc)
goes h G.name us (inl k) = k
goes h G.name us (inr n) = absurd (cc)
goes h (G.constant {t = t} q) us k = constant_goes t us q
goes h (G.joined_string p b f) us k = strings_go p f us
goes h (G.star_tuple p c) us k = absurd (cc)
goes h (G.named p) us k = absurd (cc)
goes h (G.if_else p q r) us k = absurd (cc)
goes h (G.compare p c) us k = absurd (cc)
goes h (G.power p q) us k = absurd (cc)
goes h (G.subject_tuple p c) us k = absurd (cc)
goes h (G.parts p c) us k = absurd (cc)
goes h (G.slice p q) us k = absurd (cc)
goes h (G.slice_step p q r) us k = absurd (cc)
goes h _ us k = tt

pub target_goes : {ts : List Terminal} {t : Expr} → G.SingleTarget ts t → is_name t ≡ false → (us : List Terminal) → GoesOn (ts ++ us)
target_goes (G.single_target {e = e} p q) n us = goes refl p us (inr (target_part e q n))

-- ---- Patterns.

-- what may follow a pattern
abbrev pub stops : List Terminal → Bool
stops [] = true
stops (Op Comma ∷ us) = true
stops (Op VBar ∷ us) = true
stops (Op Colon ∷ us) = true
stops (Word Key.As ∷ us) = true
stops (Word Key.If ∷ us) = true
stops _ = false

-- after an opening bracket, where such follows the closing one
pub record IsClosed (ts : List Terminal) : Type 0 where
  pub inside : List Terminal
  pub following : List Terminal
  pub whole : ts ≡ inside ++ (Op RPar ∷ following)
  pub taken : Takes [] [] inside
  pub stopped : stops following ≡ true

-- a list that begins with a pattern
abbrev pub Begun : List Terminal → Type 0
Begun [] = ⊥
Begun (Op Colon ∷ us) = ⊥
Begun (Op Dot ∷ us) = ⊥
Begun (Op LPar ∷ us) = IsClosed us
Begun _ = Unit {0}

signed_begun : {v : Values.Value} {ts : List Terminal} {e : Expr} → P.SignedNumber v ts e → (us : List Terminal) → Begun (ts ++ us)
signed_begun P.unsigned us = tt
signed_begun P.negative us = tt

strings_begun : {u : Bool} {ts : List Terminal} {ps : List StringPart} → G.Literals u ts ps → has_formatted ts ≡ true →
    (us : List Terminal) → Begun (ts ++ us)
strings_begun G.no_literal h us = absurd (cc)
strings_begun (G.text_literal p) h us = tt
strings_begun (G.formatted_literal p q) h us = tt

literal_begun : {ts : List Terminal} {e : Expr} → P.LiteralOf ts e → (us : List Terminal) → Begun (ts ++ us)
literal_begun (P.number p) us = signed_begun p us
literal_begun (P.complex {ts = ts} t p r h i) us = regroup Begun ts (t ∷ _) us (signed_begun p _)
literal_begun (P.strings vs h) us = tt
literal_begun (P.joined_string p b f) us = strings_begun p f us

singleton_begun : (t : Terminal) {v : Values.Value} (us : List Terminal) → singleton_word t ≡ Some v → Begun (t ∷ us)
singleton_begun (Word k) us h = tt
singleton_begun _ us h = no_some h

dotted_begun : {f : Identifier} {ts : List Terminal} {e : Expr} → P.Dotted f ts e → (us : List Terminal) → Begun (ts ++ us)
dotted_begun P.first_name us = tt
dotted_begun (P.dot_name {ts = ts} x p) us = regroup Begun ts (Op Dot ∷ (Ident x ∷ [])) us (dotted_begun p (Op Dot ∷ (Ident x ∷ us)))

pub pattern_begun : {l : PatternLevel} {ts : List Terminal} {p : Pattern} → P.DerivesPattern l ts p →
    (us : List Terminal) → stops us ≡ true → Begun (ts ++ us)
pattern_begun (P.next p) us k = pattern_begun p us k
pattern_begun (P.open_sequence {ts = ts} {us = vs} p c) us k =
    regroup Begun ts (Op Comma ∷ vs) us (pattern_begun p (Op Comma ∷ (vs ++ us)) refl)
pattern_begun P.star us k = tt
pattern_begun (P.as_name {ts = ts} x p h) us k =
    regroup Begun ts (Word Key.As ∷ (Ident x ∷ [])) us (pattern_begun p (Word Key.As ∷ (Ident x ∷ us)) refl)
pattern_begun (P.alternatives {ts = ts} {us = vs} p c) us k =
    regroup Begun ts (Op VBar ∷ vs) us (pattern_begun p (Op VBar ∷ (vs ++ us)) refl)
pattern_begun (P.literal p) us k = literal_begun p us
pattern_begun (P.singleton {t = t} h) us k = singleton_begun t us h
pattern_begun P.capture us k = tt
pattern_begun (P.value {ts = ts} x (P.class_name d w)) us k =
    regroup Begun ts (Op Dot ∷ (Ident x ∷ [])) us (dotted_begun d (Op Dot ∷ (Ident x ∷ us)))
pattern_begun (P.group {ts = ts} p) us k = record {
  inside = ts;
  following = us;
  whole = append_assoc ts (Op RPar ∷ []) us;
  taken = one_pattern [] p;
  stopped = k;
}
pattern_begun P.empty_sequence us k = record { inside = []; following = us; whole = refl; taken = none; stopped = k }
pattern_begun (P.round_sequence {ts = ts} {us = vs} p c) us k = record {
  inside = ts ++ (Op Comma ∷ vs);
  following = us;
  whole = simp append_assoc;
  taken = between (Op Comma) refl (one_pattern [] p) (entries [] c);
  stopped = k;
}
pattern_begun (P.square_sequence c) us k = tt
pattern_begun (P.mapping c h) us k = tt
pattern_begun (P.class_pattern {ts = ts} {us = vs} (P.class_name d w) c h) us k =
    let brackets = Op LPar ∷ (vs ++ (Op RPar ∷ [])) in
    regroup Begun ts brackets us (dotted_begun d (brackets ++ us))

-- ---- Both.

never : {us : List Terminal} → Trailed us → stops us ≡ true → ⊥
never point h = absurd (cc)
never square h = absurd (cc)
never (round p k) h = absurd (cc)

-- what is both begins with `[`
pub apart : {us : List Terminal} → Trailed us → Begun us → (ws : List Terminal) × (us ≡ Op LSqb ∷ ws)
apart point b = absurd b
apart (square {us = us}) b = (us, refl)
apart (round {ts = ts} {us = us} p k) b = absurd (never (subst Trailed following k) b.stopped)
  where
    same : Op RPar ∷ us ≡ Op RPar ∷ b.following
    same = sym (p.goes (Op RPar ∷ us)) ∙ (ap (left_of []) b.whole ∙ b.taken.goes (Op RPar ∷ b.following))

    following : us ≡ b.following
    following = cc same
