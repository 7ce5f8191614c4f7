-- What begins a line at its place.
--
-- Carries: opening_of_name, opening_of. On: Openings.
use Rattle.std.proofs.Common.{◌≡◌, sym, ap, ◌∙◌, ℕ, List, Some, Bool, true, false, cond}
use Rattle.std.specs.Prelude.{◌&&◌}
use Rattle.std.specs.Str.{bytes_eq}
use Rattle.pytree_node.specs.declared.profiles.Extent.TheVariants.{Plain, Whole}
use Rattle.pytree_node.specs.declared.profiles.Profile.{Profile}
use Rattle.pytoken.specs.declared.values.terminals.Terminal as given
use Rattle.pygrammar.specs.Forms.{case_name, is_whole, match_name}
use Rattle.pygrammar.specs.LineReader.{ends_in_colon}
use Rattle.pyparse_nodes.specs.Views.{first_of, seen}
use Rattle.pyparse_reads.proofs.Callers.Looks.{front}
use Rattle.pyparse_line.specs.declared.openings.Opening.{Opening}
use Rattle.pyparse_line.specs.declared.openings.Opening.TheVariants.{Cases, Matches, States}
use Rattle.pyparse_line.specs.Inner.Openings.{name_of, opening_at}

-- that of a NAME: whether the extent is whole, and whether the line is the header of a case or of a `match`
abbrev named_opening : Bool → Bool → Bool → Opening
named_opening whole is_case is_match = cond (whole && is_case) Cases (cond (whole && is_match) Matches States)

module _ (profile : Profile) (inside : Bool) (ts : List given.Terminal) (text : List ℕ)
    (h : first_of (seen ts 0) ≡ Some (name_of text)) where
  abbrev is_case : Bool
  is_case = inside && bytes_eq text case_name

  abbrev is_match : Bool
  is_match = bytes_eq text match_name && ends_in_colon (seen ts 1)

  named : opening_at profile inside (seen ts 0) ≡ named_opening (is_whole profile.extent) is_case is_match
  named = ap (opening_at profile inside) (front ts 0 (name_of text) h)

  pub plain_opens : profile.extent ≡ Plain → States ≡ opening_at profile inside (seen ts 0)
  plain_opens e = sym (named ∙ ap (λ x. named_opening (is_whole x) is_case is_match) e)

  module _ (e : profile.extent ≡ Whole) where
    whole : opening_at profile inside (seen ts 0) ≡ named_opening true is_case is_match
    whole = named ∙ ap (λ x. named_opening (is_whole x) is_case is_match) e

    pub case_opens : true ≡ is_case → Cases ≡ opening_at profile inside (seen ts 0)
    case_opens c = sym (whole ∙ ap (λ b. named_opening true b is_match) (sym c))

    pub match_opens : false ≡ is_case → true ≡ is_match → Matches ≡ opening_at profile inside (seen ts 0)
    match_opens c m = sym (whole ∙ ap (λ b. named_opening true b is_match) (sym c) ∙ ap (λ b. named_opening true false b) (sym m))

    pub other_opens : false ≡ is_case → false ≡ is_match → States ≡ opening_at profile inside (seen ts 0)
    other_opens c m = sym (whole ∙ ap (λ b. named_opening true b is_match) (sym c) ∙ ap (λ b. named_opening true false b) (sym m))
