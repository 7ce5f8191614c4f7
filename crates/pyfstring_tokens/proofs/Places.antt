-- Where a reader of a field's tokens stands, from one lexeme to the next and at the end.
--
-- Carries: new, next. On: After, Cutting, Parentheses, Steps, Texts.
use Rattle.std.proofs.Common.{◌≡◌, ℕ, ◌+◌, ◌-◌, ◌<◌, zero, suc, Bool, true, false, ◌&&◌, ◌==◌, List, [], ◌∷◌, ◌++◌, length, drop, refl, sym}
use Rattle.std.proofs.Common.{ap, ◌∙◌, arith, Some, None, is_some, append_assoc}
use Rattle.std.specs.List.{list_any}
use Rattle.std.specs.Str.{all_scalars}
use Rattle.std.proofs.lemmas.Bool.Decides.{nat_tests}
use Rattle.std.proofs.lemmas.List.{append-nil}
use Rattle.std.proofs.lemmas.Bool.{and_right}
use Rattle.pylex_lexeme.specs.Chars.{bytes_in}
use Rattle.pylex_lexeme.specs.declared.kinds.Exact.TheVariants.{LPar, RPar}
use Rattle.pylex_lexeme.specs.declared.lexeme.Class.{Class}
use Rattle.pylex_lexeme.specs.declared.lexeme.Class.TheVariants.{Name, Number, String, Operator, Comment, Blanks, LineEnd, Join}
use Rattle.pylex_lexeme.specs.Lexemes.{Lexeme, lexeme_at, cut, is_opener_class, is_closer_class}
use Rattle.pylex_listing.specs.declared.kind.Kind.TheVariants as kinds
use Rattle.pylex_listing.specs.declared.entries.Step.{Step}
use Rattle.pylex_listing.specs.declared.entries.Step.TheVariants as steps
use Rattle.pylex_listing.specs.Lines.{opens, closes, count_if}
use Rattle.pylex_listing.specs.Steps.{entries_of, fault_of, mark}
use Rattle.pylex_listing.specs.Listing.{listing, up_to_end, origin}
use Rattle.pylex_listing.specs.Machine.{State, after, gives, layout_of, entry_by, first_state, remaining}
use Rattle.pylex_listing.proofs.Callers.{listing_is}
use Rattle.pyfstring_tokens.specs.FieldTokens.{is_gap, FieldToken, parenthesized, field_source, token_of, tokens_among, field_tokens}
use Rattle.pyfstring_tokens.specs.FieldTokens.{tokens_ahead, has_fault, opening, closing, closes_none, closes_outer, is_comment_class}
use Rattle.pyfstring_tokens.specs.FieldTokens.{is_of_comment, has_comment}
use Rattle.pyfstring_tokens.specs.Answers.{field_token, Gives, Ends}
use Rattle.pyfstring_tokens.specs.Standing.{closed, StandsAt}
use Rattle.pyfstring_tokens.proofs.Following.{lexeme_kept, none_kept}
use Rattle.pyfstring_tokens.proofs.Cutting.{cut_some, cut_nil}
use Rattle.pyfstring_tokens.proofs.Parentheses.{left_front, right_front}
use Rattle.pyfstring_tokens.proofs.Steps.{ahead, remaining_is, lexed, after_margin, none_fault, token_told, gap_told, entry_for}
use Rattle.pyfstring_tokens.proofs.Steps.{end_unclosed, end_closed}
use Rattle.pyfstring_tokens.proofs.Texts.{bytes_both, sliced, part_scalars}

-- The state after a lexeme
after_depth : (s : State) (x : Lexeme) → (after s x).depth ≡ s.depth + count_if (opens x) - count_if (closes x)
unfolding after
after_depth s x = refl

after_offset : (s : State) (x : Lexeme) → (after s x).now.offset ≡ s.now.offset + bytes_in x.text
unfolding after
after_offset s x = refl

within : (s : State) (d : ℕ) → s.depth ≡ d + 1 → (s.depth == 0) ≡ false
within s d e = grind (arith, nat_tests)

-- what stands within the parentheses, a lexeme further on
record Parts (text before back t : List ℕ) : Type 0 where
  pub inside : text ≡ (before ++ t) ++ back
  pub whole : parenthesized text ≡ (40 ∷ before) ++ (t ++ closed back)
  pub bytes : bytes_in (40 ∷ (before ++ t)) ≡ bytes_in (40 ∷ before) + bytes_in t
  pub scalars : all_scalars t ≡ true

parts : (text before rest back t : List ℕ) → text ≡ before ++ rest → rest ≡ t ++ back → all_scalars text ≡ true → Parts text before back t
parts text before rest back t e w u =
    let i : text ≡ before ++ (t ++ back) = e ∙ ap (λ r. before ++ r) w in
    record {
      inside = i ∙ sym (append_assoc before t back);
      whole = ap (λ v. 40 ∷ (v ++ 41 ∷ [])) i ∙ ap (λ v. 40 ∷ v) (append_assoc before (t ++ back) (41 ∷ [])
          ∙ ap (λ v. before ++ v) (append_assoc t back (41 ∷ [])));
      bytes = bytes_both (40 ∷ before) t;
      scalars = part_scalars before t back (sym (ap all_scalars i) ∙ u);
    }

closed_parts : (rest t back : List ℕ) → rest ≡ t ++ back → closed rest ≡ t ++ closed back
closed_parts rest t back w = ap closed w ∙ append_assoc t back (41 ∷ [])

-- Past what stands between tokens
record Gap (k : Class) : Type 0 where
  pub comment : is_comment_class k ≡ false
  pub opener : is_opener_class k ≡ false
  pub closer : is_closer_class k ≡ false

gap_is : (k : Class) → is_gap k ≡ true → Gap k
gap_is Blanks g = record { comment = refl; opener = refl; closer = refl }
gap_is LineEnd g = record { comment = refl; opener = refl; closer = refl }
gap_is Join g = record { comment = refl; opener = refl; closer = refl }
gap_is Name g = cc
gap_is Number g = cc
gap_is String g = cc
gap_is (Operator o) g = cc
gap_is Comment g = cc

same_depth : (d : ℕ) → d + 0 - 0 ≡ d
same_depth d = omega arith

pub gap_size : (x : Lexeme) (d : ℕ) → is_gap x.«class» ≡ true → d + count_if (opens x) - count_if (closes x) ≡ d
gap_size x d g = let k = gap_is x.«class» g in rw (k.opener, k.closer) (same_depth d)

none_closed : (d : ℕ) (x : Lexeme) (xs : List Lexeme) → (closes x && (d == 0)) ≡ false
    → closes_none d (x ∷ xs) ≡ closes_none (d + count_if (opens x) - count_if (closes x)) xs
none_closed d x xs m = rw m refl

pub past_gap : (text : List ℕ) (n : ℕ) (rest back : List ℕ) (d : ℕ) (x : Lexeme) → 0 < length rest → lexeme_at rest ≡ Some x
    → rest ≡ x.text ++ back → is_gap x.«class» ≡ true → StandsAt text n rest d → StandsAt text n back d
past_gap text n rest back d x some e w g i =
    let s = i.state in
    let k = gap_is x.«class» g in
    let p = parts text i.before rest back x.text i.whole w i.scalars in
    let c = (cut_some rest back x e w).lexemes in
    let told = gap_told (parenthesized text) s (closed rest) (closed back) x i.margin (lexeme_kept rest x some k.comment e)
    (closed_parts rest x.text back w) g in
    let off : (closes x && (d == 0)) ≡ false = rw k.closer refl in
    record {
      before = i.before ++ x.text;
      whole = p.inside;
      scalars = i.scalars;
      state = after s x;
      margin = after_margin s x i.margin (within s d i.depth);
      depth = after_depth s x ∙ gap_size x s.depth g ∙ i.depth;
      offset = after_offset s x ∙ ap (λ o. o + bytes_in x.text) i.offset ∙ sym p.bytes;
      tokens = i.tokens ∙ told.tokens;
      fault = i.fault ∙ told.fault;
      closers = i.closers ∙ ap (closes_none d) c ∙ none_closed d x (cut back) off ∙ ap (λ m. closes_none m (cut back)) (gap_size x d g);
      comments = i.comments ∙ ap (list_any is_of_comment) c ∙ rw k.comment refl;
    }

-- Past a token
depth_step : (s d : ℕ) (o c : Bool) → s ≡ d + 1 → (c && (d == 0)) ≡ false → s + count_if o - count_if c ≡ d + count_if o - count_if c + 1
depth_step s d true true e m = omega arith
depth_step s d true false e m = omega arith
depth_step s d false false e m = omega arith
depth_step s d false true e m = grind (arith, nat_tests)

drop_more : (xs : List FieldToken) (n : ℕ) (x : FieldToken) (ys : List FieldToken) → drop n xs ≡ x ∷ ys → drop (n + 1) xs ≡ ys
drop_more [] zero x ys e = cc
drop_more [] (suc n) x ys e = cc
drop_more (z ∷ zs) zero x ys e = cc
drop_more (z ∷ zs) (suc n) x ys e = let h : suc n + 1 ≡ suc (n + 1) = omega arith in rw h (drop_more zs n x ys e)

pub record Past (text : List ℕ) (n : ℕ) (back : List ℕ) (d : ℕ) (x : Lexeme) : Type 0 where
  pub gives : Gives text n x.«class» x.text
  pub stands : StandsAt text (n + 1) back (d + count_if (opens x) - count_if (closes x))

pub past_token : (text : List ℕ) (n : ℕ) (rest back : List ℕ) (d : ℕ) (x : Lexeme) → 0 < length rest → lexeme_at rest ≡ Some x
    → rest ≡ x.text ++ back → is_gap x.«class» ≡ false → is_comment_class x.«class» ≡ false
    → (closes x && (d == 0)) ≡ false → StandsAt text n rest d → Past text n back d x
past_token text n rest back d x some e w g k m i =
    let s = i.state in
    let src = parenthesized text in
    let p = parts text i.before rest back x.text i.whole w i.scalars in
    let c = (cut_some rest back x e w).lexemes in
    let inner = within s d i.depth in
    let off : (is_closer_class x.«class» && (s.depth == 0)) ≡ false = and_right (is_closer_class x.«class») (s.depth == 0) inner in
    let told = token_told src s (closed rest) (closed back) x i.margin (lexeme_kept rest x some k e)
    (closed_parts rest x.text back w) g k off in
    let own = sliced src (40 ∷ i.before) x.text (closed back) s.now.offset (s.now.offset + bytes_in x.text) p.whole
    p.scalars i.offset refl in
    let token : token_of src (entry_for s x) ≡ field_token x.«class» x.text = ap (field_token x.«class») own in
    let later = tokens_among src (entries_of (remaining None (after s x) (closed back))) in
    let here : tokens_ahead text n ≡ field_token x.«class» x.text ∷ later = i.tokens ∙ told.tokens ∙ ap (λ t. t ∷ later) token in
    let next : tokens_ahead text (n + 1) ≡ later = drop_more (field_tokens text) (n + 1) (field_token x.«class» x.text) later here in
    record {
      gives = here ∙ ap (λ ts. field_token x.«class» x.text ∷ ts) (sym next);
      stands = record {
        before = i.before ++ x.text;
        whole = p.inside;
        scalars = i.scalars;
        state = after s x;
        margin = after_margin s x i.margin inner;
        depth = after_depth s x ∙ depth_step s.depth d (opens x) (closes x) i.depth m;
        offset = after_offset s x ∙ ap (λ o. o + bytes_in x.text) i.offset ∙ sym p.bytes;
        tokens = next;
        fault = i.fault ∙ told.fault;
        closers = i.closers ∙ ap (closes_none d) c ∙ none_closed d x (cut back) m;
        comments = i.comments ∙ ap (list_any is_of_comment) c ∙ rw k refl;
      };
    }

-- Where no token can be taken
fault_here : (text : List ℕ) (ss : List Step) → fault_of (listing (field_source text)) ≡ fault_of ss
    → has_fault text ≡ is_some (fault_of ss)
unfolding has_fault
fault_here text ss e = ap is_some e

pub none_refused : (text : List ℕ) (n : ℕ) (rest : List ℕ) (d : ℕ) → 0 < length rest → lexeme_at rest ≡ None
    → StandsAt text n rest d → has_fault text ≡ true
none_refused text n rest d some e i =
    fault_here text (remaining None i.state (closed rest)) i.fault
    ∙ none_fault i.state (closed rest) i.margin (more rest) (none_kept rest some e)
  where
    more : (r : List ℕ) → 0 < length (r ++ 41 ∷ [])
    more [] = omega arith
    more (c ∷ r) = omega arith

pub comment_refused : (text : List ℕ) (n : ℕ) (rest back : List ℕ) (d : ℕ) (x : Lexeme) → lexeme_at rest ≡ Some x → rest ≡ x.text ++ back
    → is_comment_class x.«class» ≡ true → StandsAt text n rest d → has_comment text ≡ true
comment_refused text n rest back d x e w k i = i.comments ∙ ap (list_any is_of_comment) (cut_some rest back x e w).lexemes ∙ rw k refl

pub closer_refused : (text : List ℕ) (n : ℕ) (rest back : List ℕ) (d : ℕ) (x : Lexeme) → lexeme_at rest ≡ Some x → rest ≡ x.text ++ back
    → (closes x && (d == 0)) ≡ true → StandsAt text n rest d → closes_outer text ≡ true
closer_refused text n rest back d x e w m i = i.closers ∙ ap (closes_none d) (cut_some rest back x e w).lexemes ∙ rw m refl

-- At the text's end
abbrev right : Lexeme
right = record { «class» = Operator RPar; text = 41 ∷ [] }

not_joined : (s : State) → (after s right).joined ≡ false
unfolding after
not_joined s = refl

record Last (text : List ℕ) (n : ℕ) (s : State) : Type 0 where
  pub tokens : tokens_ahead text n ≡ closing ∷ tokens_among (parenthesized text) (entries_of (remaining None (after s right) []))
  pub fault : fault_of (listing (field_source text)) ≡ fault_of (remaining None (after s right) [])
  pub depth : (d : ℕ) → s.depth ≡ d + 1 → (after s right).depth ≡ d

last : (text : List ℕ) (n d : ℕ) → (i : StandsAt text n [] d) → Last text n i.state
last text n d i =
    let s = i.state in
    let src = parenthesized text in
    let inner = within s d i.depth in
    let told = token_told src s (41 ∷ []) [] right i.margin (right_front []) refl refl refl inner in
    let w : src ≡ (40 ∷ i.before) ++ ((41 ∷ []) ++ []) = ap (λ v. 40 ∷ (v ++ 41 ∷ [])) (i.whole ∙ append-nil i.before) in
    let own = sliced src (40 ∷ i.before) (41 ∷ []) [] s.now.offset (s.now.offset + bytes_in (41 ∷ [])) w refl i.offset refl in
    let token : token_of src (entry_for s right) ≡ closing = ap (field_token (Operator RPar)) own in
    record {
      tokens = i.tokens ∙ told.tokens ∙ ap (λ t. t ∷ tokens_among src (entries_of (remaining None (after s right) []))) token;
      fault = i.fault ∙ told.fault;
      depth = λ d e. after_depth s right ∙ one_less s.depth d e;
    }
  where
    one_less : (m d : ℕ) → m ≡ d + 1 → m + 0 - 1 ≡ d
    one_less m d e = omega arith

pub unclosed_refused : (text : List ℕ) (n d : ℕ) → 0 < d → StandsAt text n [] d → has_fault text ≡ true
unclosed_refused text n d some i =
    let l = last text n d i in
    let e : (after i.state right).depth ≡ d = l.depth d i.depth in
    let z : ((after i.state right).depth == 0) ≡ false = grind (arith, nat_tests) in
    fault_here text (remaining None (after i.state right) []) l.fault ∙ end_unclosed (after i.state right) z

pub ends : (text : List ℕ) (n d : ℕ) → d ≡ 0 → StandsAt text n [] d → Ends text n
ends text n d none i =
    let l = last text n d i in
    let e : (after i.state right).depth ≡ d = l.depth d i.depth in
    let z : ((after i.state right).depth == 0) ≡ true = grind (arith, nat_tests) in
    let q = end_closed (parenthesized text) (after i.state right) z (not_joined i.state) in
    record {
      last = l.tokens ∙ ap (λ ts. closing ∷ ts) q.tokens;
      whole = fault_here text (remaining None (after i.state right) []) l.fault ∙ ap is_some q.fault;
      balanced = i.closers ∙ ap (closes_none d) cut_nil.lexemes;
      uncommented = i.comments ∙ ap (list_any is_of_comment) cut_nil.lexemes;
    }

-- At the begin
abbrev left : Lexeme
left = record { «class» = Operator LPar; text = 40 ∷ [] }

first_gives : gives first_state left ≡ steps.Entry (entry_for first_state left) ∷ []
unfolding gives layout_of entry_by
first_gives = refl

first_margin : (after first_state left).margin ≡ false
unfolding after
first_margin = refl

first_depth : (after first_state left).depth ≡ 0 + 1
unfolding after
first_depth = refl

pub record First (text : List ℕ) : Type 0 where
  pub stands : StandsAt text 0 text 0
  pub first : field_tokens text ≡ opening ∷ tokens_ahead text 0

pub begins : (text : List ℕ) → all_scalars text ≡ true → First text
unfolding field_tokens closes_outer has_comment
begins text u =
    let src = parenthesized text in
    let t = after first_state left in
    let l : listing (field_source text) ≡ mark kinds.Encoding [] origin origin ∷
    (steps.Entry (entry_for first_state left) ∷ remaining None t (closed text)) =
    listing_is (field_source text)
    ∙ ap (λ ss. mark kinds.Encoding [] origin origin ∷ ss) (lexed first_state src (closed text) left (left_front (closed text)) refl
    ∙ ap (λ ss. up_to_end (ss ++ ahead t (closed text))) first_gives
    ∙ ap (λ ss. steps.Entry (entry_for first_state left) ∷ ss) (sym (remaining_is t (closed text)))) in
    let later = tokens_among src (entries_of (remaining None t (closed text))) in
    let own = sliced src [] (40 ∷ []) (closed text) 0 (0 + bytes_in (40 ∷ [])) refl refl refl refl in
    let token : token_of src (entry_for first_state left) ≡ opening = ap (field_token (Operator LPar)) own in
    let all : field_tokens text ≡ opening ∷ later = ap (λ ss. tokens_among src (entries_of ss)) l ∙ ap (λ t. t ∷ later) token in
    let next : tokens_ahead text 0 ≡ later = ap (drop 1) all in
    record {
      stands = record {
        before = [];
        whole = refl;
        scalars = u;
        state = t;
        margin = first_margin;
        depth = first_depth;
        offset = after_offset first_state left ∙ zero_first (bytes_in (40 ∷ []));
        tokens = next;
        fault = ap fault_of l;
        closers = refl;
        comments = refl;
      };
      first = all ∙ ap (λ ts. opening ∷ ts) (sym next);
    }
  where
    zero_first : (n : ℕ) → 0 + n ≡ n
    zero_first n = omega arith
