use Rattle.std.proofs.Common.{◌≡◌, true, false, List, ap, ◌∙◌, sym, subst, refl, Some}
use Rattle.std.specs.Str.{chars}
use Rattle.pysource.specs.declared.places.Place.{Place}
use Rattle.pylex_listing.specs.declared.margins.Widths.{Widths}
use Rattle.pytoken.specs.declared.refusals.Refusal.TheVariants.{MixedTabs}
use Rattle.pyparse_tokens.specs.Inner.Indenting.{Drops, are_rising}
use Rattle.pyparse_tokens.proofs.IndentLemmas.{takes_mixed, takes_line}
use Rattle.pyparse_tokens.proofs.RisingLemmas.{goes_last}
use Rattle.pyparse_tokens.proofs.indents.Indents.take_line.Goals as goal

pub returns-then-ends_in : goal.returns-then-ends_in
returns-then-ends_in c =
    let i = c.args.self.now in
    let w = c.args.widths in
    let found = c.if-ends_in.ensures refl in
    let same = sym c.as_slice.ensures.value ∙ found.1 in
    takes_line (chars c.args.source.now.text) c.args.offset w found.0 i i c.requires.logical c.requires.widths c.requires.free
    (λ rising. subst (λ (ws : List Widths). Drops ws found.0 w false) (sym same)
    (goes_last found.0 w (subst (λ (ws : List Widths). are_rising ws ≡ true) same rising))) same c.requires.free

pub returns-then-drop_wider : goal.returns-then-drop_wider
returns-then-drop_wider c =
    takes_mixed (chars c.args.source.now.text) c.args.offset c.args.widths c.args.self.now
    (record { standing = c.drop_wider.new.standing; mixed = Some (MixedTabs c.start_of.result) })
    c.requires.logical c.requires.widths c.requires.free c.if-drop_wider.ensures
    (ap (λ (p : Place). Some (MixedTabs p)) c.start_of.ensures)

pub returns : goal.returns
returns c =
    takes_line (chars c.args.source.now.text) c.args.offset c.args.widths c.drop_wider.new.standing.items c.args.self.now
    (record { standing = c.put.new.items; mixed = c.args.self.now.mixed })
    c.requires.logical c.requires.widths c.requires.free c.if-drop_wider.ensures c.in_ok-put.ensures c.requires.free
