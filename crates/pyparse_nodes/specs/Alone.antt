-- Atoms of one terminal with nothing after them that goes on with them.
use Rattle.std.specs.Prelude.{List, [], ◌∷◌, Bool, true, false, ◌&&◌}
use Rattle.pylex_lexeme.specs.declared.kinds.Exact.TheVariants.{RPar, RSqb, RBrace, Colon, Comma, Equal}
use Rattle.pytoken.specs.Terminals.{Terminal, Op, Ident, Number, Literal}
use Rattle.pygrammar.specs.Reader.{on_some}
use Rattle.pyparse_nodes.specs.Views.{first_of}

-- the terminals that are atoms by themselves, but for signs and words
abbrev pub atom_with : Terminal → Bool
atom_with (Ident x) = true
atom_with (Number v) = true
atom_with (Literal v) = true
atom_with _ = false

-- some of the signs that no level goes on with
abbrev pub end_with : Terminal → Bool
end_with (Op Comma) = true
end_with (Op RPar) = true
end_with (Op RSqb) = true
end_with (Op RBrace) = true
end_with (Op Colon) = true
end_with (Op Equal) = true
end_with _ = false

abbrev pub ends : List Terminal → Bool
ends r = on_some (first_of r) end_with true

abbrev pub alone : List Terminal → Bool
alone [] = false
alone (t ∷ r) = atom_with t && ends r
