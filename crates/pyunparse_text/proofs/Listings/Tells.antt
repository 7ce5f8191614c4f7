-- Steps of a listing that are entries of tokens.
--
-- Carries: Tells, tells_both, marks_told, bytes_both and 2 more, for Runs, Relisting.
use Rattle.std.proofs.Common.{◌≡◌, ℕ, ◌+◌, ◌-◌, ◌&&◌, List, [], ◌∷◌, ◌++◌, length, map, true, refl, sym, ◌∙◌, ap, arith, zero}
use Rattle.std.proofs.Common.{suc}
use Rattle.std.proofs.Common.{replicate, Option, None, length-append}
use Rattle.std.specs.Prelude.{slice_range}
use Rattle.std.specs.List.{list_all}
use Rattle.std.specs.Str.{chars, encode_utf8_all, all_scalars}
use Rattle.std.proofs.lemmas.List.{map-append}
use Rattle.std.proofs.lemmas.List.Folds.{list_all-append}
use Rattle.std.proofs.lemmas.Str.{encodes-append, chars-nil}
use Rattle.pysource.specs.declared.places.Place.{Place}
use Rattle.pylex_listing.specs.declared.kind.Kind.{Kind}
use Rattle.pylex_lexeme.specs.declared.kinds.Exact.{Exact}
use Rattle.pylex_listing.specs.declared.entries.Entry.{Entry}
use Rattle.pylex_listing.specs.declared.entries.Step.{Step}
use Rattle.pylex_listing.specs.declared.entries.Step.TheVariants as steps
use Rattle.pylex_listing.specs.declared.point.Point.{Point}
use Rattle.pylex_lexeme.specs.Chars.{bytes_in}
use Rattle.pylex_listing.specs.Machine.{step_of, mark_at}
use Rattle.pyfstring_tokens.proofs.Callers.Lexemes.{sliced}
use Rattle.pyunparse_text.specs.Tokens.{PlainToken, token_at, exact_in}
use Rattle.pyunparse_text.specs.Inner.Even.{ends_evenly}

pub bytes_both : (a b : List ℕ) → bytes_in (a ++ b) ≡ bytes_in a + bytes_in b
bytes_both a b = ap length (encodes-append a b) ∙ length-append (encode_utf8_all a) (encode_utf8_all b)

-- the steps are entries, and these have the tokens
pub record Tells (text : List ℕ) (ss : List Step) (ts : List PlainToken) : Type 0 where
  pub entries : List Entry
  pub are : ss ≡ map steps.Entry entries
  pub tokens : map (token_at text) entries ≡ ts
  pub exacts : map (λ (e : Entry). e.exact) entries ≡ map exact_in ts
  pub even : list_all (λ (e : Entry). ends_evenly text e.kind e.to) entries ≡ true

pub nothing_told : (text : List ℕ) → Tells text [] []
nothing_told text = record { entries = []; are = refl; tokens = refl; exacts = refl; even = refl }

pub tells_both : (text : List ℕ) (ss rs : List Step) (ts us : List PlainToken) → Tells text ss ts → Tells text rs us
    → Tells text (ss ++ rs) (ts ++ us)
tells_both text ss rs ts us a b = record {
  entries = a.entries ++ b.entries;
  are = ap (λ x. x ++ rs) a.are ∙ ap (λ x. map steps.Entry a.entries ++ x) b.are ∙ sym (map-append steps.Entry a.entries b.entries);
  tokens = map-append (token_at text) a.entries b.entries ∙ ap (λ x. x ++ map (token_at text) b.entries) a.tokens
      ∙ ap (λ x. ts ++ x) b.tokens;
  exacts = map-append (λ (e : Entry). e.exact) a.entries b.entries ∙ ap (λ x. x ++ map (λ (e : Entry). e.exact) b.entries) a.exacts
      ∙ ap (λ x. map exact_in ts ++ x) b.exacts ∙ sym (map-append exact_in ts us);
  even = list_all-append (λ (e : Entry). ends_evenly text e.kind e.to) a.entries b.entries
      ∙ ap (λ x. x && list_all (λ (e : Entry). ends_evenly text e.kind e.to) b.entries) a.even ∙ b.even;
}

pub piece_told : (text a t b : List ℕ) (k : Kind) (e : Option Exact) (p q : Point) → text ≡ a ++ (t ++ b) → all_scalars t ≡ true
    → p.offset ≡ bytes_in a → q.offset ≡ p.offset + bytes_in t
    → exact_in (record { kind = k; text = t }) ≡ e → ends_evenly text k q.offset ≡ true
    → Tells text (step_of k e p q ∷ []) (record { kind = k; text = t } ∷ [])
piece_told text a t b k e p q w u f g x v = record {
  entries = record { kind = k; exact = e; start = p.place; «end» = q.place; «from» = p.offset; to = q.offset } ∷ [];
  are = refl;
  tokens = ap (λ v. record { kind = k; text = v } ∷ []) (sliced text a t b p.offset q.offset w u f g);
  exacts = ap (λ o. o ∷ []) (sym x);
  even = ap (λ b. b && true) v;
}

empty_slice : (text : List ℕ) (o : ℕ) → chars (slice_range (encode_utf8_all text) o o) ≡ []
empty_slice text o = let n : o - o ≡ 0 = omega arith in rw n chars-nil

pub marks_told : (text : List ℕ) (n : ℕ) (k : Kind) (o : ℕ) (p q : Place) → exact_in (record { kind = k; text = [] }) ≡ None
    → ends_evenly text k o ≡ true
    → Tells text (replicate n (mark_at k o p q)) (replicate n (record { kind = k; text = [] }))
marks_told text n k o p q x v = record {
  entries = replicate n (record { kind = k; exact = None; start = p; «end» = q; «from» = o; to = o });
  are = spread n;
  tokens = told n;
  exacts = none n;
  even = all n;
}
  where
    none : (n : ℕ)
        → map (λ (e : Entry). e.exact) (replicate n (record { kind = k; exact = None; start = p; «end» = q; «from» = o; to = o })) ≡ map
        exact_in (replicate n (record { kind = k; text = [] }))
    none zero = refl
    none (suc n) = rw (x, none n) refl

    all : (n : ℕ)
        → list_all (λ (e : Entry). ends_evenly text e.kind e.to)
        (replicate n (record { kind = k; exact = None; start = p; «end» = q; «from» = o; to = o })) ≡ true
    all zero = refl
    all (suc n) = rw v (all n)

    spread : (n : ℕ)
        → replicate n (mark_at k o p q) ≡ map steps.Entry
        (replicate n (record { kind = k; exact = None; start = p; «end» = q; «from» = o; to = o }))
    spread zero = refl
    spread (suc n) = ap (λ x. mark_at k o p q ∷ x) (spread n)

    told : (n : ℕ)
        → map (token_at text) (replicate n (record { kind = k; exact = None; start = p; «end» = q; «from» = o; to = o })) ≡ replicate n
        (record { kind = k; text = [] })
    told zero = refl
    told (suc n) =
        ap (λ v. record { kind = k; text = v } ∷ map (token_at text)
        (replicate n (record { kind = k; exact = None; start = p; «end» = q; «from» = o; to = o }))) (empty_slice text o)
        ∙ ap (λ x. record { kind = k; text = [] } ∷ x) (told n)
