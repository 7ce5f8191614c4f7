-- Carries: the law of source text. On: the tokens of an accepted source are of Unicode characters
-- and have no fault, so that its module is the one that its own text is.
use Rattle.std.proofs.Common.{◌≡◌, refl, sym, ap, subst, ◌∙◌, ℕ, ◌+◌, Bool, true, false, List, [], ◌∷◌, ◌++◌, append_assoc, None}
use Rattle.std.specs.Prelude.{All}
use Rattle.std.specs.List.{flat_map}
use Rattle.std.specs.Str.{all_scalars}
use Rattle.std.proofs.lemmas.List.Elements.{All-nil, All-cons, All-head, All-tail, All-append}
use Rattle.pysource.specs.declared.places.Place.{Place}
use Rattle.pylex_lexeme.specs.Chars.{bytes_in}
use Rattle.pylex_listing.specs.declared.kind.Kind.{Kind}
use Rattle.pylex_listing.specs.declared.kind.Kind.TheVariants as kinds
use Rattle.pylex_listing.specs.declared.entries.Entry.{Entry}
use Rattle.pylex_listing.specs.Listing.{Source, listing}
use Rattle.pylex_listing.specs.Steps.{entries_of}
use Rattle.pylex_listing.specs.Laws.{Covers, StandsNext, IsLawful}
use Rattle.pylex_listing.proofs.Callers.{scalars_of}
use Rattle.pytree_node.specs.declared.profiles.Extent.{Extent}
use Rattle.pytree_node.specs.declared.profiles.Extent.TheVariants.{Plain, Whole}
use Rattle.pytree_node.specs.declared.profiles.Profile.{Profile}
use Rattle.pytoken.specs.Tokens.{Token, text_of, supplied, is_open, tokens_of_entry, tokens_from, tokens, lines_from, lines}
use Rattle.pytoken.specs.Tokens as Tokens
use Rattle.pytoken.specs.Refusals.{refusal}
use Rattle.pytoken.specs.Terminals.{terminals_of, fault_of, IsSound}
use Rattle.pytoken.proofs.Callers.Said.{tokens_are_sound, extents_differ_in_numbers}
use Rattle.pygrammar.specs.Lines.{Line}
use Rattle.pygrammar.specs.Refusals.{terminals, Formed, formed_end, formed_line}
use Rattle.pyunparse_text.proofs.Callers.Lists.{bytes_both, sliced}
use Rattle.pyunparse_text.specs.Modules.{written_line}
use Rattle.pyunparse_text.specs.Laws.{AreOfTokens, no_token, a_token, IsOfTokens, AreWithin, source_lines, IsOfSourceIn, TokensAreOfTokens}
use Rattle.pyunparse_text.specs.Laws.{AcceptedTextsAreAccepted}
use Rattle.pyunparse_text.proofs.StringTerminals.Elements.{back_scalars}
use Rattle.pyunparse_text.proofs.Modules.High.{modules_low}
use Rattle.pyunparse_text.proofs.Modules.Accepted.{source_forms, texts_accepted}

-- ---- The characters of tokens.

abbrev HasCharacters : List ℕ → Entry → Type 0
HasCharacters text e = all_scalars (text_of text e) ≡ true

covered : (text a t : List ℕ) (o : ℕ) (es : List Entry) (left : List ℕ) → text ≡ a ++ t → o ≡ bytes_in a
    → all_scalars t ≡ true → Covers o t es left
    → All (HasCharacters text) es
covered text a t o [] left w e s c = All-nil (HasCharacters text)
covered text a t o (x ∷ es) left w e s c =
    let n : StandsNext o t x = c.0 in
    let b : List ℕ = a ++ n.gap in
    let p : text ≡ b ++ (n.own ++ n.following) = w ∙ ap (λ u. a ++ u) n.parts ∙ sym (append_assoc a n.gap (n.own ++ n.following)) in
    let r : all_scalars (n.own ++ n.following) ≡ true = back_scalars n.gap (n.own ++ n.following) (subst (λ u. all_scalars u ≡ true) n.parts s) in
    let f : x.«from» ≡ bytes_in b = n.begins ∙ ap (λ k. k + bytes_in n.gap) e ∙ sym (bytes_both a n.gap) in
    let own : all_scalars n.own ≡ true = scalars_of n.own n.following r in
    let is : text_of text x ≡ n.own = sliced text b n.own n.following x.«from» x.to p own f n.ends in
    let q : text ≡ (b ++ n.own) ++ n.following = p ∙ sym (append_assoc b n.own n.following) in
    let l : x.to ≡ bytes_in (b ++ n.own) = n.ends ∙ ap (λ k. k + bytes_in n.own) f ∙ sym (bytes_both b n.own) in
    All-cons (HasCharacters text) x es (ap all_scalars is ∙ own)
    (covered text (b ++ n.own) n.following x.to es left q l (back_scalars n.own n.following r) c.1)

abbrev IsText : Token → Type 0
IsText t = all_scalars t.text ≡ true

alone : (k : Kind) (p : Place) (t : List ℕ) → all_scalars t ≡ true → All IsText (record { kind = k; start = p; text = t } ∷ [])
alone k p t h = All-cons IsText (record { kind = k; start = p; text = t }) [] h (All-nil IsText)

after_supplied : (text : List ℕ) (k : Kind) (p : Place) (t : List ℕ) → all_scalars t ≡ true
    → All IsText (supplied text ∷ (record { kind = k; start = p; text = t } ∷ []))
after_supplied text k p t h = All-cons IsText (supplied text) (record { kind = k; start = p; text = t } ∷ []) refl (alone k p t h)

given_texts : (text : List ℕ) (b : Bool) (e : Entry) (k : Kind) → e.kind ≡ k → HasCharacters text e → All IsText (tokens_of_entry text b e)
given_texts text b e kinds.Encoding q h = rw q (All-nil IsText)
given_texts text b e kinds.Comment q h = rw q (All-nil IsText)
given_texts text b e kinds.Nl q h = rw q (All-nil IsText)
given_texts text true e kinds.Newline q h = rw q (alone kinds.Newline e.start (text_of text e) h)
given_texts text false e kinds.Newline q h = rw q (All-nil IsText)
given_texts text true e kinds.Dedent q h = rw q (after_supplied text kinds.Dedent e.start (text_of text e) h)
given_texts text false e kinds.Dedent q h = rw q (alone kinds.Dedent e.start (text_of text e) h)
given_texts text true e kinds.EndMarker q h = rw q (after_supplied text kinds.EndMarker e.start (text_of text e) h)
given_texts text false e kinds.EndMarker q h = rw q (alone kinds.EndMarker e.start (text_of text e) h)
given_texts text b e k q h = rw q (alone k e.start (text_of text e) h)

all_texts : (text : List ℕ) (before es : List Entry) → All (HasCharacters text) es → All IsText (tokens_from text before es)
all_texts text before [] h = All-nil IsText
all_texts text before (e ∷ es) h =
    All-append IsText (tokens_of_entry text (is_open before) e) (tokens_from text (e ∷ before) es)
    (given_texts text (is_open before) e e.kind refl (All-head (HasCharacters text) e es h))
    (all_texts text (e ∷ before) es (All-tail (HasCharacters text) e es h))

token_texts : (s : Source) → IsLawful s → all_scalars s.text ≡ true → All IsText (tokens s)
unfolding tokens
token_texts s w h =
    all_texts s.text [] (entries_of (listing s)) (covered s.text [] s.text 0 (entries_of (listing s)) w.covered.left refl
    refl h w.covered.covers)

-- ---- Lines of tokens.

abbrev Sound : Token → Type 0
Sound t = IsSound t.kind t.text

abbrev Faultless : Extent → Token → Type 0
Faultless extent t = fault_of extent t.kind t.text ≡ None

module _ (extent : Extent) where
  all_of : (ts : List Token) → All IsText ts → All Sound ts → All (Faultless extent) ts → All (IsOfSourceIn extent) ts
  all_of [] a b c = All-nil (IsOfSourceIn extent)
  all_of (t ∷ ts) a b c =
      All-cons (IsOfSourceIn extent) t ts ((All-head IsText t ts a, All-head Sound t ts b), All-head (Faultless extent) t ts c)
      (all_of ts (All-tail IsText t ts a) (All-tail Sound t ts b) (All-tail (Faultless extent) t ts c))

  abbrev Good : Tokens.Line → Type 0
  Good x = All (IsOfSourceIn extent) x.tokens

  record Goes (t : Token) : Type 0 where
    at : (before line ts : List Token) → All (IsOfSourceIn extent) line → All (IsOfSourceIn extent) (line ++ t ∷ [])
        → ((line : List Token) → All (IsOfSourceIn extent) line → All Good (lines_from (t ∷ before) line ts))
        → All Good (lines_from before line (t ∷ ts))

  goes : (k : Kind) (t : Token) → t.kind ≡ k → Goes t
  goes kinds.Newline t q = record { at = λ before line ts a b more. rw q (All-cons Good _ _ a (more [] (All-nil (IsOfSourceIn extent)))) }
  goes kinds.Indent t q = record { at = λ before line ts a b more. rw q (more line a) }
  goes kinds.Dedent t q = record { at = λ before line ts a b more. rw q (more line a) }
  goes kinds.EndMarker t q = record { at = λ before line ts a b more. rw q (more line a) }
  goes _ t q = record { at = λ before line ts a b more. rw q (more (line ++ t ∷ []) b) }

  all_lines : (before line ts : List Token) → All (IsOfSourceIn extent) line → All (IsOfSourceIn extent) ts
      → All Good (lines_from before line ts)
  all_lines before line [] a h = All-nil Good
  all_lines before line (t ∷ ts) a h =
      let b : All (IsOfSourceIn extent) (line ++ t ∷ []) =
      All-append (IsOfSourceIn extent) line (t ∷ []) a
      (All-cons (IsOfSourceIn extent) t [] (All-head (IsOfSourceIn extent) t ts h) (All-nil (IsOfSourceIn extent))) in
      (goes t.kind t refl).at before line ts a b (λ u c. all_lines (t ∷ before) u ts c (All-tail (IsOfSourceIn extent) t ts h))

  good_lines : (s : Source) → All (IsOfSourceIn extent) (tokens s) → All Good (lines s)
  unfolding lines
  good_lines s h = all_lines [] [] (tokens s) (All-nil (IsOfSourceIn extent)) h

  -- ---- Their terminals.

  token_terminals : (ts : List Token) → All (IsOfSourceIn extent) ts
      → AreOfTokens extent (flat_map (λ (t : Token). terminals_of t.kind t.text) ts)
  token_terminals [] h = no_token
  token_terminals (t ∷ ts) h =
      let g : IsOfSourceIn extent t = All-head (IsOfSourceIn extent) t ts h in
      a_token {k = t.kind} {text = t.text} g.0.0 (record { terminals = refl; sound = g.0.1; faultless = g.1 })
      (token_terminals ts (All-tail (IsOfSourceIn extent) t ts h))

  lines_of : (xs : List Tokens.Line) → All Good xs → All (IsOfTokens extent) (source_lines xs)
  lines_of [] h = All-nil (IsOfTokens extent)
  lines_of (x ∷ xs) h =
      All-cons (IsOfTokens extent) (written_line x.level (terminals x)) (source_lines xs) (token_terminals x.tokens (All-head Good x xs h))
      (lines_of xs (All-tail Good x xs h))

pub lines_of_tokens : TokensAreOfTokens
lines_of_tokens extent xs h = lines_of extent xs h

-- ---- Accepted sources.

formed_low : {profile : Profile} {earlier : List Line} {xs : List Tokens.Line} {forms : List Line} → Formed profile earlier xs forms
    → AreWithin 500 forms
formed_low formed_end = tt
formed_low (formed_line p c) = (p.low, formed_low c)

-- in the whole language a sound token has no fault
whole_faultless : (ts : List Token) → All Sound ts → All (Faultless Whole) ts
whole_faultless [] h = All-nil (Faultless Whole)
whole_faultless (t ∷ ts) h = All-cons (Faultless Whole) t ts (All-head Sound t ts h).faultless (whole_faultless ts (All-tail Sound t ts h))

tokens_of_source : (extent : Extent) (s : Source) → IsLawful s → all_scalars s.text ≡ true → refusal extent s ≡ None
    → All (IsOfSourceIn extent) (tokens s)
tokens_of_source Plain s w h r =
    let d = (extents_differ_in_numbers s).0 r in
    all_of Plain (tokens s) (token_texts s w h) (tokens_are_sound s w h d.0) d.1
tokens_of_source Whole s w h r =
    let a = tokens_are_sound s w h r in
    all_of Whole (tokens s) (token_texts s w h) a (whole_faultless (tokens s) a)

pub accepted_texts : AcceptedTextsAreAccepted
accepted_texts profile s m w h p =
    let g = tokens_of_source profile.extent s w h p.clear in
    texts_accepted profile (source_lines (lines s)) m (record { forms = p.forms; formed = source_forms p.formed; block = p.block })
    (lines_of profile.extent (lines s) (good_lines profile.extent s g)) (modules_low 500 p.forms m p.block (formed_low p.formed)) p.low
