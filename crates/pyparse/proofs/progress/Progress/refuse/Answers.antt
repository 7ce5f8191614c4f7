use Rattle.std.proofs.Common.{◌∙◌, ◌+◌, ◌&&◌, [], List, not, refl, ap, subst, sym, Bool}
use Rattle.pylex_listing.specs.Listing.{in_characters}
use Rattle.pytoken.specs.Inner.Following.{following}
use Rattle.pytoken.specs.Terminals.{Terminal}
use Rattle.pygrammar.specs.Forms.{is_whole}
use Rattle.pygrammar.specs.Refusals.{StartsAt, Unread}
use Rattle.pyparse_line.specs.Lines.{Refused}
use Rattle.pyparse_block.specs.Modules.{code_of}
use Rattle.pyparse_block.specs.Known.{IsKnown, is_unread}
use Rattle.pyparse_block.proofs.Callers.ProgressLemmas.{starts_held, place_held, unread_first}
use Rattle.pyparse.proofs.progress.Progress.refuse.Goals as goal

pub returns : goal.returns
returns c inside k forms held was stands refused =
    let s = in_characters c.args.lines.now.source in
    let here = place_held (following [] forms) inside c.args.lines.now.level held stands refl in
    let unread =
    c.in_ok-error.ensures c.args.profile inside held.line
    (subst (λ (ts : List Terminal). Refused c.args.stop c.args.profile inside ts) held.holds.terminals refused)
    (c.is_left_out.ensures ∙ ap (λ (b : Bool). not (is_whole c.args.profile.extent) && b) (c.is_match.ensures ∙ held.holds.is_match))
    in (
      ap is_unread c.refuse.ensures,
      record {
        known =
            subst (IsKnown c.args.profile s (k + 1) forms) (sym c.refuse.ensures)
            (unread_first forms c.args.self.now.known held.line c.in_ok-error.error c.start.result
            c.requires was.known held.stands
            (subst (λ (b : Bool). Unread c.args.profile b held.line (code_of c.in_ok-error.error)) here unread)
            (subst (StartsAt s k) (sym c.start.ensures) (starts_held s k c.args.lines.now held)));
        last_lines = was.last_lines;
      },
    )
