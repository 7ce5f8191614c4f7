use Rattle.std.proofs.Common.{◌≡◌, take, sym}
use Rattle.std.specs.Str.{chars}
use Rattle.pylex.specs.declared.peeked.Peeked.TheVariants as peeked
use Rattle.pylex.proofs.Listers.Finding.{indent_ahead, dedent_ahead}
use Rattle.pylex.proofs.Listers.Moving.{ascending-take}
use Rattle.pylex.proofs.machine.Machine.layout_on.Goals as goal

no_indent : peeked.Indent ≡ peeked.Stop → ⊥
no_indent k = cc

no_dedent : peeked.Dedent ≡ peeked.Stop → ⊥
no_dedent k = cc

pub indentation_for-requires : goal.indentation_for-requires
indentation_for-requires c =
    rw c.as_slice.ensures.value (ascending-take 0 c.args.self.now.nested c.args.self.now.levels.items c.requires.place.ascending)

pub returns-in_ok-step-in-Indent-clause-some : goal.returns-in_ok-step-in-Indent-clause-some
returns-in_ok-step-in-Indent-clause-some c =
    let p = c.args.self.now in
    record {
      met = peeked.Indent;
      layout = no_indent;
      finds = indent_ahead (take p.nested p.levels.items) p.now (chars c.args.text.now) c.if-not-self.false
          (sym c.if-not-begins_significant.ensures) (rw c.as_slice.ensures.value at c.in-Indent.ensures);
      stands = c.requires.stands;
      went = c.in_ok-step-in-Indent.ensures.went;
    }

pub returns-in_ok-step-in-Dedent-clause-some : goal.returns-in_ok-step-in-Dedent-clause-some
returns-in_ok-step-in-Dedent-clause-some c =
    let p = c.args.self.now in
    record {
      met = peeked.Dedent;
      layout = no_dedent;
      finds = dedent_ahead (take p.nested p.levels.items) p.now (chars c.args.text.now) c.if-not-self.false
          (sym c.if-not-begins_significant.ensures) (rw c.as_slice.ensures.value at c.in-Dedent.ensures);
      stands = c.requires.stands;
      went = c.in_ok-step-in-Dedent.ensures.went;
    }
