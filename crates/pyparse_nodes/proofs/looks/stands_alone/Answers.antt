use Rattle.pyparse_nodes.proofs.Places.Alone.{alone_with}
use Rattle.pyparse_nodes.proofs.looks.stands_alone.Goals as goal

pub returns-then-is_atom : goal.returns-then-is_atom
returns-then-is_atom c = alone_with c.args.tokens.now c.args.at _ c.ends_at.result c.in-Some.ensures.is
    c.if-is_atom.ensures c.ends_at.ensures
