-- Lines.
--
-- Carries: fronts.rt, read_line. On: Fronts, Headers, Simple.
use Rattle.std.proofs.Common.{◌≡◌, sym, ap, subst, ◌∙◌, ℕ, ◌+◌, arith, List, [], ◌∷◌, ◌++◌, Some, None, Bool, true, false}
use Rattle.std.proofs.lemmas.List.{append-nil}
use Rattle.pylex_lexeme.specs.declared.kinds.Exact.TheVariants as Sign
use Rattle.pytree_node.specs.declared.profiles.Profile.{Profile}
use Rattle.pygrammar.specs.declared.levels.Level.TheVariants.{Named, Subject}
use Rattle.pytree_node.specs.Trees.{Expr, Identifier, Stmt}
use Rattle.pytoken.specs.Terminals.{Terminal, Op}
use Rattle.pygrammar.specs.Forms as F
use Rattle.pygrammar.specs.Forms.{match_word, is_whole, is_case_line}
use Rattle.pygrammar.specs.Lines.{Form, simple_form, decorator_form, header_form, Header, match_header}
use Rattle.pyplaces.specs.Stretches.{Stretch}
use Rattle.pyplaces.specs.FormPlaces.{FormPlaces, form_places, with_suite, plain_header, line_places, places_at}
use Rattle.pyplaces.specs.Placed.{Placed}
use Rattle.pyplaces.specs.PlacedForms.{PlacedSimples, PlacedHeader, PlacedCase, PlacedLine, PlacedForm}
use Rattle.pyplaces.proofs.Fronts.{nothing, sign, both, front_of, from}

-- Of a whole line nothing is left: its list is the front.
whole : (i ts : List Terminal) → i ≡ ts ++ [] → ts ≡ i
whole i ts h = sym (h ∙ append-nil ts)

line : {prof : Profile} {i ts : List Terminal} {fm : Form} {fp : FormPlaces} → ts ≡ i → (d : F.FormOf prof ts fm) → line_places d ≡ fp
    → PlacedLine prof i fm fp
line {prof} {fm = fm} {fp = fp} h d q = subst (λ z. PlacedLine prof z fm fp) h (record { derived = d; places_are = q })

form : {prof : Profile} {inside : Bool} {i ts : List Terminal} {fm : Form} {fp : FormPlaces} → ts ≡ i → (d : F.FormAt prof inside ts fm)
    → places_at d ≡ fp → PlacedForm prof inside i fm fp
form {prof} {inside} {fm = fm} {fp = fp} h d q = subst (λ z. PlacedForm prof inside z fm fp) h (record { derived = d; places_are = q })

suite : {ps qs : List Stretch} {f g : FormPlaces} → ps ≡ qs → f ≡ g → with_suite ps f ≡ with_suite qs g
suite {qs = qs} {f = f} h k = ap (λ z. with_suite z f) h ∙ ap (λ z. with_suite qs z) k

pub placed_simple_statements : {prof : Profile} {i : List Terminal} {n : ℕ} {ps : List Stretch} {sts : List Stmt}
    → PlacedSimples prof i 0 sts [] n ps → PlacedLine prof i (simple_form sts) (form_places [] [] ps)
placed_simple_statements {i = i} c = line (whole i c.front c.is) (F.simple_statements c.derived) (ap (form_places [] []) c.places_are)

pub placed_decorator_line : {prof : Profile} {i r : List Terminal} {n : ℕ} {e : Expr} {ps : List Stretch} → i ≡ Op Sign.At ∷ r
    → Placed Named r 1 e [] n ps → PlacedLine prof i (decorator_form e) (plain_header ps)
placed_decorator_line {i = i} h p = line (whole i (Op Sign.At ∷ p.front) (h ∙ ap (λ z. Op Sign.At ∷ z) p.is)) (F.decorator_line p.derived)
    (ap plain_header p.places_are)

pub placed_header_line : {prof : Profile} {i r : List Terminal} {m : ℕ} {hd : Header} {fp : FormPlaces} → PlacedHeader prof i 0 hd r m fp
    → r ≡ Op Sign.Colon ∷ [] → PlacedLine prof i (header_form hd None) fp
placed_header_line {i = i} p h = let f = both (front_of p) (sign h nothing) in line (whole i (p.front ++ (Op Sign.Colon ∷ [])) f.is)
    (F.header_line p.derived) p.places_are

pub placed_header_suite : {prof : Profile} {i r s : List Terminal} {m n : ℕ} {ps : List Stretch} {sts : List Stmt}
    {hd : Header} {fp : FormPlaces}
    → PlacedHeader prof i 0 hd r m fp → r ≡ Op Sign.Colon ∷ s → PlacedSimples prof s (m + 1) sts [] n ps
    → PlacedLine prof i (header_form hd (Some sts)) (with_suite ps fp)
placed_header_suite {i = i} p h c = let f = both (front_of p) (sign h (front_of c)) in
    line (whole i (p.front ++ (Op Sign.Colon ∷ c.front)) f.is) (F.header_suite p.derived c.derived)
    (suite (from c (omega (arith, p.ends))) p.places_are)

pub placed_match_line : {prof : Profile} {i r s : List Terminal} {m : ℕ} {e : Expr} {ps : List Stretch} {y : Identifier}
    → is_whole prof.extent ≡ true → i ≡ match_word y ∷ r → Placed Subject r 1 e s m ps → s ≡ Op Sign.Colon ∷ []
    → PlacedLine prof i (header_form (match_header e) None) (plain_header ps)
placed_match_line {i = i} {y = y} q h p k = let f = sign {at = 0} h (both (record { is = p.is; ends = p.ends }) (sign k nothing)) in
    line (whole i (match_word y ∷ (p.front ++ (Op Sign.Colon ∷ []))) f.is) (F.match_line y q p.derived) (ap plain_header p.places_are)

-- a line at its place
pub placed_other_line : {prof : Profile} {inside : Bool} {i : List Terminal} {fm : Form} {fp : FormPlaces}
    → is_case_line prof inside i ≡ false → PlacedLine prof i fm fp → PlacedForm prof inside i fm fp
placed_other_line h p = record { derived = F.other_line h p.derived; places_are = p.places_are }

pub placed_case_alone : {prof : Profile} {i r : List Terminal} {m : ℕ} {hd : Header} {fp : FormPlaces} → is_whole prof.extent ≡ true
    → PlacedCase i 0 hd r m fp → r ≡ Op Sign.Colon ∷ [] → PlacedForm prof true i (header_form hd None) fp
placed_case_alone {i = i} q p h = let f = both (front_of p) (sign h nothing) in form (whole i (p.front ++ (Op Sign.Colon ∷ [])) f.is)
    (F.case_alone q p.derived) p.places_are

pub placed_case_suite : {prof : Profile} {i r s : List Terminal} {m n : ℕ} {ps : List Stretch} {sts : List Stmt}
    {hd : Header} {fp : FormPlaces}
    → is_whole prof.extent ≡ true → PlacedCase i 0 hd r m fp → r ≡ Op Sign.Colon ∷ s → PlacedSimples prof s (m + 1) sts [] n ps
    → PlacedForm prof true i (header_form hd (Some sts)) (with_suite ps fp)
placed_case_suite {i = i} q p h c = let f = both (front_of p) (sign h (front_of c)) in
    form (whole i (p.front ++ (Op Sign.Colon ∷ c.front)) f.is) (F.case_suite q p.derived c.derived)
    (suite (from c (omega (arith, p.ends))) p.places_are)
