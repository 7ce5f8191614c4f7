use Rattle.examples.proofs.faults.tree_of_bytes.Goals as goal

pub returns : goal.returns
returns c = record {
  tree = record { parts = c.in_ok-source.source; source_is = c.in_ok-source.ensures.value; accepted = c.in_ok-parse.ensures.accepted };
  fault = tt;
}
