use Rattle.pyparse_expr.proofs.signatures.take_defaults_back.Goals as goal

pub returns : goal.returns
returns g c = record {
  middle = c.take_back.new.self;
  last = record { is = c.in_ok-take_back.ensures };
  first = record { is = c.in_ok-take_back-2.ensures };
}
