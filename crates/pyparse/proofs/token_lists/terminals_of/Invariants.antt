use Rattle.std.proofs.Common.{◌≡◌, None, map, take}
use Rattle.pytoken.specs.TerminalOf.{terminal}
use Rattle.pyparse.specs.TokenLists.{first_refusal, terminals}
use Rattle.pyparse.proofs.token_lists.terminals_of.Given as goal

abbrev pub invariant-loop-token : goal.invariant-loop-token
invariant-loop-token l = record {
  made : map terminal l.made.items ≡ terminals (take l.token-index l.fn.tokens);
  sound : first_refusal (take l.token-index l.fn.tokens) ≡ None;
}
