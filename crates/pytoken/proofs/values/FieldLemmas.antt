-- Carries: push_nested_expression, push_expression. On: the tokens of a field's expression, one after another.
use Rattle.std.proofs.Common.{◌≡◌, ℕ, ◌+◌, Bool, true, false, List, [], ◌∷◌, ◌++◌, refl, sym, ap, ◌∙◌, append_assoc, Option, is_some}
use Rattle.std.proofs.Common.{Result, Ok, Err}
use Rattle.std.specs.Prelude.{◌||◌, OnOk}
use Rattle.std.specs.List.{flat_map, list_any}
use Rattle.pylex_listing.specs.declared.kind.Kind.{Kind}
use Rattle.pyfstring_tokens.specs.declared.faults.FieldFault.{FieldFault}
use Rattle.pyfstring_tokens.specs.declared.faults.FieldFault.TheVariants as faults
use Rattle.pyfstring_tokens.specs.FieldTokens.{FieldToken, field_tokens, tokens_ahead, opening, closing, has_fault, closes_outer}
use Rattle.pyfstring_tokens.specs.FieldTokens.{has_comment}
use Rattle.pyfstring_tokens.specs.Answers.{Ends, Refuses}
use Rattle.pytoken.specs.declared.faults.TokenError.{TokenError}
use Rattle.pytoken.specs.FormattedStrings.{is_faulty_by}
use Rattle.pytoken.specs.Terminals.{Terminal}

abbrev pub Fault : Type 0
Fault = Kind → List ℕ → Option TokenError

abbrev pub is_faulty_token : Fault → FieldToken → Bool
is_faulty_token fault x = is_some (fault x.kind x.text)

-- after n tokens that have no fault, with the terminals that they are after those of the start
pub record Reads (g : FieldToken → List Terminal) (fault : Fault) (start now : List Terminal) (text : List ℕ) (n : ℕ) : Type 0 where
  pub terminals : now ++ flat_map g (tokens_ahead text n) ≡ start ++ flat_map g (field_tokens text)
  pub faults : list_any (is_faulty_token fault) (tokens_ahead text n) ≡ list_any (is_faulty_token fault) (field_tokens text)

pub reads_first : (g : FieldToken → List Terminal) (fault : Fault) (start now : List Terminal) (text : List ℕ) →
    field_tokens text ≡ opening ∷ tokens_ahead text 0 → is_faulty_token fault opening ≡ false → now ≡ start ++ g opening →
    Reads g fault start now text 0
reads_first g fault start now text first sound grown =
    record {
      terminals = ap (λ t. t ++ flat_map g (tokens_ahead text 0)) grown ∙ append_assoc start (g opening) (flat_map g (tokens_ahead text 0))
          ∙ ap (λ ts. start ++ flat_map g ts) (sym first);
      faults = sym (ap (list_any (is_faulty_token fault)) first ∙ (rw sound refl));
    }

pub reads_on : (g : FieldToken → List Terminal) (fault : Fault) (start now next : List Terminal) (text : List ℕ) (n : ℕ) (x : FieldToken) →
    tokens_ahead text n ≡ x ∷ tokens_ahead text (n + 1) → is_faulty_token fault x ≡ false → next ≡ now ++ g x
    → Reads g fault start now text n →
    Reads g fault start next text (n + 1)
reads_on g fault start now next text n x here sound grown so_far =
    record {
      terminals = ap (λ t. t ++ flat_map g (tokens_ahead text (n + 1))) grown
          ∙ append_assoc now (g x) (flat_map g (tokens_ahead text (n + 1)))
          ∙ ap (λ ts. now ++ flat_map g ts) (sym here) ∙ so_far.terminals;
      faults = sym (ap (list_any (is_faulty_token fault)) here ∙ (rw sound refl)) ∙ so_far.faults;
    }

-- the closing parenthesis may fail to be appended
pub reads_last : {X E : Type 0} (g : FieldToken → List Terminal) (fault : Fault) (start now last : List Terminal) (text : List ℕ) (n : ℕ)
    (r : Result X E) → Ends text n → OnOk r (last ≡ now ++ (g closing ++ [])) → Reads g fault start now text n →
    OnOk r (last ≡ start ++ flat_map g (field_tokens text))
reads_last g fault start now last text n (Ok x) ends grown so_far =
    grown ∙ ap (λ ts. now ++ flat_map g ts) (sym ends.last) ∙ so_far.terminals
reads_last g fault start now last text n (Err e) ends grown so_far = tt

pub reads_sound : (g : FieldToken → List Terminal) (fault : Fault) (start now : List Terminal) (text : List ℕ) (n : ℕ) → Ends text n →
    is_faulty_token fault closing ≡ false → Reads g fault start now text n → is_faulty_by fault text ≡ false
unfolding is_faulty_by
reads_sound g fault start now text n ends sound so_far =
    let none : list_any (is_faulty_token fault) (field_tokens text) ≡ false =
    sym so_far.faults ∙ ap (list_any (is_faulty_token fault)) ends.last ∙ (rw sound refl) in
    let whole = ends.whole in
    let balanced = ends.balanced in
    let uncommented = ends.uncommented in
    rw (whole, balanced, uncommented) none

-- one of four tests holds

abbrev any : Bool → Bool → Bool → Bool → Bool
any a b c d = (a || b || c) || d

by_second : (a c d : Bool) → any a true c d ≡ true
by_second true c d = refl
by_second false c d = refl

by_third : (a b d : Bool) → any a b true d ≡ true
by_third true b d = refl
by_third false true d = refl
by_third false false d = refl

by_fourth : (a b c : Bool) → any a b c true ≡ true
by_fourth true b c = refl
by_fourth false true c = refl
by_fourth false false true = refl
by_fourth false false false = refl

-- an expression whose tokens come to no end
pub refused_faulty : (fault : Fault) (text : List ℕ) (e : FieldFault) → Refuses text e → is_faulty_by fault text ≡ true
unfolding is_faulty_by
refused_faulty fault text faults.NoToken is = rw is refl
refused_faulty fault text faults.Unclosed is = rw is refl
refused_faulty fault text faults.Closer is =
    let some = list_any (is_faulty_token fault) (field_tokens text) in
    ap (λ (b : Bool). any (has_fault text) b (has_comment text) some) is ∙ by_second (has_fault text) (has_comment text) some
refused_faulty fault text faults.Comment is =
    let some = list_any (is_faulty_token fault) (field_tokens text) in
    ap (λ (b : Bool). any (has_fault text) (closes_outer text) b some) is ∙ by_third (has_fault text) (closes_outer text) some

pub token_faulty : (g : FieldToken → List Terminal) (fault : Fault) (start now : List Terminal) (text : List ℕ) (n : ℕ) (x : FieldToken) →
    tokens_ahead text n ≡ x ∷ tokens_ahead text (n + 1) → is_faulty_token fault x ≡ true → Reads g fault start now text n →
    is_faulty_by fault text ≡ true
unfolding is_faulty_by
token_faulty g fault start now text n x here faulty so_far =
    let some : list_any (is_faulty_token fault) (field_tokens text) ≡ true =
    sym so_far.faults ∙ ap (list_any (is_faulty_token fault)) here ∙ (rw faulty refl) in
    ap (any (has_fault text) (closes_outer text) (has_comment text)) some
    ∙ by_fourth (has_fault text) (closes_outer text) (has_comment text)
