-- What is read as a header or as a line is one, and the law.
--
-- Carries: read_gives, exactly, for Answered, Limit, SourceLaw. On: Says, SoundParts,
-- SoundLists, Whole, Pattern/Sound and 3 more.
use Rattle.std.proofs.Common.{◌≡◌, ◌↔◌, refl, sym, ap, subst, ◌∙◌, suc, List, [], ◌∷◌, ◌++◌, length, Some, None, Bool, true, false}
use Rattle.std.proofs.Common.{append_assoc}
use Rattle.std.specs.Prelude.{◌&&◌, cond}
use Rattle.std.proofs.lemmas.List.{append-nil}
use Rattle.std.proofs.lemmas.Slice.Eq.{bytes_eq-Decides}
use Rattle.pylex_lexeme.specs.declared.kinds.Exact.TheVariants as Sign
use Rattle.pytoken.specs.declared.keywords.Keyword.TheVariants as Key
use Rattle.pytree_node.specs.declared.profiles.Profile.{Profile}
use Rattle.pygrammar.specs.declared.levels.Level.TheVariants.{Stars, Named, Expression, Subject}
use Rattle.pygrammar.specs.declared.pattern_levels.PatternLevel.TheVariants.{Patterns}
use Rattle.pytree_node.specs.Trees.{Identifier, Stmt}
use Rattle.pytoken.specs.Terminals.{Terminal, Op, Word, Ident}
use Rattle.pygrammar.specs.Entries.{Of, Argument, Parameter}
use Rattle.pygrammar.specs.Arguments.{in_order}
use Rattle.pygrammar.specs.Parameters.{arranged}
use Rattle.pygrammar.specs.Targets.{stored}
use Rattle.pygrammar.specs.Grammar as G
use Rattle.pygrammar.specs.Reader.{Answer, Found, NoForm}
use Rattle.pygrammar.specs.Precedence.{starts}
use Rattle.pygrammar.proofs.Soundness.Says.{Says, found, no_form, says_found, says_then, says_op, says_word, says_name, says_cond}
use Rattle.pygrammar.proofs.Soundness.Says.{says_some, says_is}
use Rattle.pygrammar.proofs.Soundness.SoundLists.{says_if, target_sound, listing_of_sound}
use Rattle.pygrammar.proofs.Pattern.Sound.{capped_sound}
use Rattle.pygrammar.specs.Lines.{Form, Header, header_form, case_header}
use Rattle.pygrammar.specs.Forms as F
use Rattle.pygrammar.specs.Forms.{is_whole, match_name, match_word, case_name, case_word, begins_case, is_case_line}
use Rattle.pygrammar.specs.LineReader.{plain, plain_pattern, on_none, for_rest, with_rest, def_rest, class_rest, except_of, except_rest}
use Rattle.pygrammar.specs.LineReader.{read_header, suite, is_match, ends_in_colon, is_match_line, opening, line_of, match_rest, line_front}
use Rattle.pygrammar.specs.LineReader.{line, case_rest, case_whole, read_line, Decorates, Heads, States}
use Rattle.pygrammar.proofs.Line.SoundParts.{headed, joins, plain_sound, after_op_sound, after_word_sound, type_params_sound}
use Rattle.pygrammar.proofs.Line.SoundParts.{as_sound}
use Rattle.pygrammar.proofs.Line.SoundSimple.{statements_sound}
use Rattle.pygrammar.proofs.Line.With.{read_items_sound}
use Rattle.pygrammar.proofs.Line.Law.{read_goes}

header_at : {profile : Profile} {us vs : List Terminal} {h : Header} → us ≡ vs → F.HeaderOf profile vs h → F.HeaderOf profile us h
header_at {profile = profile} {h = h} q p = subst (λ k. F.HeaderOf profile k h) (sym q) p

form_at : {profile : Profile} {us vs : List Terminal} {f : Form} → us ≡ vs → F.FormOf profile vs f → F.FormOf profile us f
form_at {profile = profile} {f = f} q p = subst (λ k. F.FormOf profile k f) (sym q) p

-- a header in front of a colon
abbrev HeaderAt : Profile → List Terminal → Header → List Terminal → Type 0
HeaderAt profile i h r = (ts : List Terminal) × (i ≡ ts ++ r) × ((z : List Terminal) → r ≡ Op Sign.Colon ∷ z → F.HeaderOf profile ts h)

-- after the first words
abbrev RestAt : Profile → List Terminal → List Terminal → Header → List Terminal → Type 0
RestAt profile ws i h r = (ts : List Terminal) × (i ≡ ts ++ r) × ((z : List Terminal) → r ≡ Op Sign.Colon ∷ z
    → F.HeaderOf profile (ws ++ ts) h)

module _ (profile : Profile) (vs : List Terminal) (b : Bool) (a : F.Async vs b) where
  for_sound : (i : List Terminal) → Says (RestAt profile (vs ++ (Word Key.For ∷ [])) i) (for_rest plain b i)
  for_sound i = says_then _ _ (target_sound plain plain_sound i)
      (λ t r p. says_word Key.In r _ _
      (λ _ r1 q. says_then _ _ (plain_sound Stars r1)
      (λ e r2 y. says_some (stored t) _ _
      (λ s h. found (
        p.0 ++ (Word Key.In ∷ y.0),
        joins p.0 (Word Key.In ∷ y.0) r2 p.1 (headed (Word Key.In) q y.1),
        λ z w. header_at (append_assoc vs (Word Key.For ∷ []) (p.0 ++ (Word Key.In ∷ y.0))) (F.for_line a (G.target p.2 h) y.2),
      )) no_form))
      (λ _. no_form))

  with_sound : (i : List Terminal) → Says (RestAt profile (vs ++ (Word Key.With ∷ [])) i) (with_rest plain b i)
  with_sound i = says_then _ _ (read_items_sound i)
      (λ is r p. found (p.0, p.1, λ z w. header_at (append_assoc vs (Word Key.With ∷ []) p.0) (F.with_line a (p.2 z w))))

  def_sound : (i : List Terminal) → Says (RestAt profile (vs ++ (Word Key.Def ∷ [])) i) (def_rest profile plain b i)
  def_sound i = says_name i _ _ (λ x u q. says_then _ _ (type_params_sound profile u)
      (λ tps r g. says_op Sign.LPar r _ _ (λ _ r1 o. says_then _ _ (listing_of_sound plain plain_sound (Parameter true) r1)
      (λ ps r2 p. says_op Sign.RPar r2 _ _
      (λ _ r3 v. says_some (arranged ps) _ _ (λ c h. says_then _ _ (after_op_sound Sign.RArrow Expression r3) (λ e r4 y.
      let ws = Op Sign.LPar ∷ (p.0 ++ (Op Sign.RPar ∷ y.0)) in
      found (
        Ident x ∷ (g.0 ++ ws),
        headed (Ident x) q (joins g.0 ws r4 g.1
            (headed (Op Sign.LPar) o (joins p.0 (Op Sign.RPar ∷ y.0) r4 p.3 (headed (Op Sign.RPar) v y.1)))),
        λ z w. header_at (append_assoc vs (Word Key.Def ∷ []) (Ident x ∷ (g.0 ++ ws))) (F.def_line x a g.2 p.4 (ap arranged (sym p.2) ∙ h)
            y.2),
      ))) no_form) (λ _. no_form))) (λ _. no_form))) no_form

class_sound : (profile : Profile) (i : List Terminal) → Says (RestAt profile (Word Key.Class ∷ []) i) (class_rest profile plain i)
class_sound profile i = says_name i _ _ (λ x u q. says_then _ _ (type_params_sound profile u) (λ tps r g. says_op Sign.LPar r _ _
    (λ _ r1 v. says_then _ _ (listing_of_sound plain plain_sound Argument r1)
    (λ es r2 p. says_op Sign.RPar r2 _ _ (λ _ r3 w. says_if (in_order false false es) _ _ (λ h.
    let ws = Op Sign.LPar ∷ (p.0 ++ (Op Sign.RPar ∷ [])) in
    found (
      Ident x ∷ (g.0 ++ ws),
      headed (Ident x) q (joins g.0 ws r3 g.1 (headed (Op Sign.LPar) v (joins p.0 (Op Sign.RPar ∷ []) r3 p.3 w))),
      λ z k. F.class_line g.2 (F.bases (subst (λ k. G.Listing Argument p.0 k) (sym p.2) p.4) h),
    )) no_form) (λ _. no_form)))
    (λ _. found (Ident x ∷ (g.0 ++ []), headed (Ident x) q (joins g.0 [] r g.1 refl), λ z k. F.class_line g.2 F.no_bases)))) no_form

except_plain_sound : (profile : Profile) (i : List Terminal)
    → Says (λ h r. (ts : List Terminal) × (i ≡ ts ++ r) × F.HeaderOf profile (Word Key.Except ∷ ts) h) (except_of plain false i)
except_plain_sound profile i =
    says_then _ _ (plain_sound Expression i)
    (λ e r p. says_then _ _ (as_sound r) (λ x r1 y. found (p.0 ++ y.0, joins p.0 y.0 r1 p.1 y.1, F.except_line p.2 y.2)))

except_star_sound : (profile : Profile) (i : List Terminal)
    → Says (λ h r. (ts : List Terminal) × (i ≡ ts ++ r) × F.HeaderOf profile (Word Key.Except ∷ (Op Sign.Star ∷ ts)) h)
    (except_of plain true i)
except_star_sound profile i =
    says_then _ _ (plain_sound Expression i)
    (λ e r p. says_then _ _ (as_sound r) (λ x r1 y. found (p.0 ++ y.0, joins p.0 y.0 r1 p.1 y.1, F.except_star p.2 y.2)))

except_sound : (profile : Profile) (i : List Terminal) → Says (RestAt profile (Word Key.Except ∷ []) i) (except_rest plain i)
except_sound profile i =
    says_op Sign.Star i _ _
    (λ _ s q. says_is _ (except_star_sound profile s) (λ h r p. (Op Sign.Star ∷ p.0, headed (Op Sign.Star) q p.1, λ z w. p.2)))
    (λ _. says_cond (starts (Of Expression) i) _ _ (says_is _ (except_plain_sound profile i) (λ h r p. (p.0, p.1, λ z w. p.2)))
    (found ([], refl, λ z w. F.except_all)))

rest : (profile : Profile) (t : Terminal) {i : List Terminal} (x : Answer Header) → Says (RestAt profile (t ∷ []) i) x
    → Says (HeaderAt profile (t ∷ i)) x
rest profile t x s = says_is x s (λ h r p. (t ∷ p.0, headed t refl p.1, p.2))

rest2 : (profile : Profile) (t u : Terminal) {i : List Terminal} (x : Answer Header) → Says (RestAt profile (t ∷ (u ∷ [])) i) x
    → Says (HeaderAt profile (t ∷ (u ∷ i))) x
rest2 profile t u x s = says_is x s (λ h r p. (t ∷ (u ∷ p.0), headed t refl (headed u refl p.1), p.2))

header_sound : (profile : Profile) (i : List Terminal) → Says (HeaderAt profile i) (read_header profile plain i)
header_sound profile (Word Key.If ∷ r) =
    says_then _ _ (plain_sound Named r) (λ e r1 p. found (Word Key.If ∷ p.0, headed (Word Key.If) refl p.1, λ z w. F.if_line p.2))
header_sound profile (Word Key.Elif ∷ r) =
    says_then _ _ (plain_sound Named r) (λ e r1 p. found (Word Key.Elif ∷ p.0, headed (Word Key.Elif) refl p.1, λ z w. F.elif_line p.2))
header_sound profile (Word Key.Else ∷ r) = found (Word Key.Else ∷ [], refl, λ z w. F.else_line)
header_sound profile (Word Key.While ∷ r) =
    says_then _ _ (plain_sound Named r) (λ e r1 p. found (Word Key.While ∷ p.0, headed (Word Key.While) refl p.1, λ z w. F.while_line p.2))
header_sound profile (Word Key.For ∷ r) = rest profile (Word Key.For) _ (for_sound profile [] false F.no_async r)
header_sound profile (Word Key.With ∷ r) = rest profile (Word Key.With) _ (with_sound profile [] false F.no_async r)
header_sound profile (Word Key.Try ∷ r) = found (Word Key.Try ∷ [], refl, λ z w. F.try_line)
header_sound profile (Word Key.Finally ∷ r) = found (Word Key.Finally ∷ [], refl, λ z w. F.finally_line)
header_sound profile (Word Key.Except ∷ r) = rest profile (Word Key.Except) _ (except_sound profile r)
header_sound profile (Word Key.Def ∷ r) = rest profile (Word Key.Def) _ (def_sound profile [] false F.no_async r)
header_sound profile (Word Key.Class ∷ r) = rest profile (Word Key.Class) _ (class_sound profile r)
header_sound profile (Word Key.Async ∷ (Word Key.For ∷ r)) =
    rest2 profile (Word Key.Async) (Word Key.For) _ (for_sound profile (Word Key.Async ∷ []) true F.async r)
header_sound profile (Word Key.Async ∷ (Word Key.With ∷ r)) =
    rest2 profile (Word Key.Async) (Word Key.With) _ (with_sound profile (Word Key.Async ∷ []) true F.async r)
header_sound profile (Word Key.Async ∷ (Word Key.Def ∷ r)) =
    rest2 profile (Word Key.Async) (Word Key.Def) _ (def_sound profile (Word Key.Async ∷ []) true F.async r)
header_sound profile (Word Key.Async ∷ (Word x ∷ r)) = no_form
header_sound profile (Word Key.Async ∷ (t ∷ r)) = no_form
header_sound profile (Word x ∷ r) = no_form
header_sound profile i = no_form

-- a line that ends
abbrev LineAt : Profile → List Terminal → Form → List Terminal → Type 0
LineAt profile i f r = r ≡ [] → F.FormOf profile i f

-- what is read after a colon
suite_says : (profile : Profile) (u : List Terminal) (h : Header) {Q : Form → List Terminal → Type 0} → (u ≡ [] → Q (header_form h None) [])
    → ((us r : List Terminal) (ss : List Stmt) → u ≡ us ++ r → F.Simples profile us ss → Q (header_form h (Some ss)) r)
    → Says Q (suite profile plain h u)
suite_says profile [] h a b = found (a refl)
suite_says profile (t ∷ u) h a b = says_then _ _ (statements_sound profile (suc (length (t ∷ u))) (t ∷ u))
    (λ ss r y. found (b y.0 r ss y.1 y.2))

-- a header, its colon and all that follows
to_end : {i r u s : List Terminal} (ts us : List Terminal) → i ≡ ts ++ r → r ≡ Op Sign.Colon ∷ u → u ≡ us ++ s → s ≡ []
    → i ≡ ts ++ (Op Sign.Colon ∷ us)
to_end ts us a b c d = a ∙ ap (λ z. ts ++ z) (b ∙ ap (λ z. Op Sign.Colon ∷ z) (c ∙ (ap (λ z. us ++ z) d ∙ append-nil us)))

heads_sound : (profile : Profile) (i r : List Terminal) → Says (LineAt profile i) (line_of profile plain Heads i r)
heads_sound profile i r = says_then _ _ (header_sound profile i) (λ h r1 p. says_op Sign.Colon r1 _ _ (λ _ u q. suite_says profile u h
    (λ n e. form_at (to_end p.0 [] p.1 q n e) (F.header_line (p.2 u q)))
    (λ us s ss y c e. form_at (to_end p.0 us p.1 q y e) (F.header_suite (p.2 u q) c))) (λ _. no_form))

states_sound : (profile : Profile) (i r : List Terminal) → Says (LineAt profile i) (line_of profile plain States i r)
states_sound profile i r = says_then _ _ (statements_sound profile (suc (length i)) i)
    (λ ss r1 y. found (λ e. form_at (y.1 ∙ (ap (λ z. y.0 ++ z) e ∙ append-nil y.0)) (F.simple_statements y.2)))

decorates_sound : (profile : Profile) (r : List Terminal)
    → Says (LineAt profile (Op Sign.At ∷ r)) (line_of profile plain Decorates (Op Sign.At ∷ r) r)
decorates_sound profile r =
    says_then _ _ (plain_sound Named r)
    (λ d r1 p. found (λ e. form_at (ap (λ z. Op Sign.At ∷ z) (p.1 ∙ (ap (λ z. p.0 ++ z) e ∙ append-nil p.0))) (F.decorator_line p.2)))

opening_sound : (profile : Profile) (t : Terminal) (r : List Terminal)
    → Says (LineAt profile (t ∷ r)) (line_of profile plain (opening t) (t ∷ r) r)
opening_sound profile (Op Sign.At) r = decorates_sound profile r
opening_sound profile (Op x) r = states_sound profile (Op x ∷ r) r
opening_sound profile (Word Key.If) r = heads_sound profile (Word Key.If ∷ r) r
opening_sound profile (Word Key.Elif) r = heads_sound profile (Word Key.Elif ∷ r) r
opening_sound profile (Word Key.Else) r = heads_sound profile (Word Key.Else ∷ r) r
opening_sound profile (Word Key.While) r = heads_sound profile (Word Key.While ∷ r) r
opening_sound profile (Word Key.For) r = heads_sound profile (Word Key.For ∷ r) r
opening_sound profile (Word Key.With) r = heads_sound profile (Word Key.With ∷ r) r
opening_sound profile (Word Key.Try) r = heads_sound profile (Word Key.Try ∷ r) r
opening_sound profile (Word Key.Finally) r = heads_sound profile (Word Key.Finally ∷ r) r
opening_sound profile (Word Key.Except) r = heads_sound profile (Word Key.Except ∷ r) r
opening_sound profile (Word Key.Def) r = heads_sound profile (Word Key.Def ∷ r) r
opening_sound profile (Word Key.Class) r = heads_sound profile (Word Key.Class ∷ r) r
opening_sound profile (Word Key.Async) r = heads_sound profile (Word Key.Async ∷ r) r
opening_sound profile (Word x) r = states_sound profile (Word x ∷ r) r
opening_sound profile t r = states_sound profile (t ∷ r) r

-- ---- The header of a `match`.

match_is : (t : Terminal) → is_match t ≡ true → (form : Identifier) × (t ≡ match_word form)
match_is (Ident x) h = (x.form, ap (λ z. Ident (record { spelling = z; form = x.form })) ((bytes_eq-Decides x.spelling match_name).0 h))
match_is _ h = absurd (cc)

all_three : (b c d : Bool) → (b && (c && d)) ≡ true → (b ≡ true) × (c ≡ true) × (d ≡ true)
all_three true true true h = (refl, refl, refl)
all_three true true false h = absurd (cc)
all_three true false d h = absurd (cc)
all_three false c d h = absurd (cc)

match_sound : (profile : Profile) (t : Terminal) (i : List Terminal) → is_match_line profile (t ∷ i) ≡ true
    → Says (LineAt profile (t ∷ i)) (match_rest profile plain i)
match_sound profile t i h =
    let k = all_three (is_whole profile.extent) (is_match t) (ends_in_colon i) h in
    let w = match_is t k.1 in
    says_then _ _ (plain_sound Subject i) (λ e r p. says_op Sign.Colon r _ _
    (λ _ s q. found (λ n. form_at (ap (λ z. z ∷ i) w.1 ∙ headed (match_word w.0) refl (to_end p.0 [] p.1 q n refl))
    (F.match_line w.0 k.0 p.2))) (λ _. no_form))

front_sound : (profile : Profile) (i : List Terminal) → Says (LineAt profile i) (line_front profile plain i)
front_sound profile [] = no_form
front_sound profile (t ∷ r) = says_if (is_match_line profile (t ∷ r)) _ _ (λ h. match_sound profile t r h) (opening_sound profile t r)

line_sound : (profile : Profile) (i : List Terminal) → Says (λ f r. F.FormOf profile i f) (line profile plain i)
line_sound profile i = says_then _ _ (front_sound profile i) (λ f r p. ended f r p)
  where
    ended : (f : Form) (r : List Terminal) → LineAt profile i f r → Says (λ f r. F.FormOf profile i f) (on_none r (Found f []) NoForm)
    ended f [] p = found (p refl)
    ended f (t ∷ r) p = no_form

-- ---- The header of a case.

case_is : (i : List Terminal) → begins_case i ≡ true → (form : Identifier) × (j : List Terminal) × (i ≡ case_word form ∷ j)
case_is (Ident x ∷ j) h =
    (x.form, j, ap (λ z. Ident (record { spelling = z; form = x.form }) ∷ j) ((bytes_eq-Decides x.spelling case_name).0 h))
case_is [] h = absurd (cc)
case_is (_ ∷ j) h = absurd (cc)

-- in a `match`
abbrev CaseAt : Profile → List Terminal → Form → List Terminal → Type 0
CaseAt profile i f r = r ≡ [] → F.FormAt profile true i f

place_at : {profile : Profile} {us vs : List Terminal} {f : Form} → us ≡ vs → F.FormAt profile true vs f → F.FormAt profile true us f
place_at {profile = profile} {f = f} q p = subst (λ k. F.FormAt profile true k f) (sym q) p

case_rest_sound : (profile : Profile) (form : Identifier) (i : List Terminal) → is_whole profile.extent ≡ true
    → Says (CaseAt profile (case_word form ∷ i)) (case_rest profile plain plain_pattern i)
case_rest_sound profile form i w = says_then _ _ (capped_sound (suc (length i)) (suc (suc (length i))) Patterns i)
    (λ p r y. says_then _ _ (after_word_sound Key.If Named r) (λ g r1 k. says_op Sign.Colon r1 _ _ (λ _ u q.
    let ts = case_word form ∷ (y.0 ++ k.0) in
    let a : case_word form ∷ i ≡ ts ++ r1 = headed (case_word form) refl (joins y.0 k.0 r1 y.1 k.1) in
    suite_says profile u (case_header p g)
    (λ n e. place_at (to_end ts [] a q n e) (F.case_alone w (F.case_line form y.2 k.2)))
    (λ us s ss v c e. place_at (to_end ts us a q v e) (F.case_suite w (F.case_line form y.2 k.2) c))) (λ _. no_form)))

case_sound : (profile : Profile) (form : Identifier) (i : List Terminal) → is_whole profile.extent ≡ true
    → Says (λ f r. F.FormAt profile true (case_word form ∷ i) f) (case_whole profile plain plain_pattern (case_word form ∷ i))
case_sound profile form i w = says_then _ _ (case_rest_sound profile form i w) (λ f r p. ended f r p)
  where
    ended : (f : Form) (r : List Terminal) → CaseAt profile (case_word form ∷ i) f r
        → Says (λ f r. F.FormAt profile true (case_word form ∷ i) f) (on_none r (Found f []) NoForm)
    ended f [] p = found (p refl)
    ended f (t ∷ r) p = no_form

-- ---- At a place.

place_sound : (profile : Profile) (inside : Bool) (i : List Terminal)
    → Says (λ f r. F.FormAt profile inside i f) (read_line profile inside i)
place_sound profile inside i = go (is_case_line profile inside i) refl
  where
    go : (b : Bool) → is_case_line profile inside i ≡ b
        → Says (λ f r. F.FormAt profile inside i f) (cond b (case_whole profile plain plain_pattern i) (line profile plain i))
    go false h = says_is _ (line_sound profile i) (λ f r p. F.other_line h p)
    go true h =
        let k = all_three (is_whole profile.extent) inside (begins_case i) h in
        let c = case_is i k.2 in
        subst (λ z. Says (λ f r. F.FormAt profile inside z f) (case_whole profile plain plain_pattern z)) (sym c.2)
        (says_is _ (case_sound profile c.0 c.1 k.0) (λ f r p. subst (λ b. F.FormAt profile b (case_word c.0 ∷ c.1) f) (sym k.1) p))

-- what is read has that form
pub read_gives : (profile : Profile) (inside : Bool) (ts : List Terminal) (f : Form) → read_line profile inside ts ≡ Found f []
    → F.FormAt profile inside ts f
read_gives profile inside ts f h = says_found f [] (subst (Says (λ f r. F.FormAt profile inside ts f)) h (place_sound profile inside ts))

-- the law: the plain reader of a line answers exactly the forms that the table gives
pub exactly : (profile : Profile) (inside : Bool) (ts : List Terminal) (f : Form)
    → F.FormAt profile inside ts f ↔ (read_line profile inside ts ≡ Found f [])
exactly profile inside ts f = (λ p. read_goes profile p, λ h. read_gives profile inside ts f h)
