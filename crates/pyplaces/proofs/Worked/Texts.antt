-- Worked texts: each is that of Python's `ast.dump` with attributes.
--
-- Carries: no contract; its rows are computed as it is checked.
use Rattle.std.proofs.Common.{◌≡◌, refl, List, [], ◌∷◌, ◌++◌, Some, None, true, false, ℕ}
use Rattle.std.specs.Prelude.{codes}
use Rattle.std.specs.Char.{encode_utf8}
use Rattle.std.specs.Fmt.{digits}
use Rattle.ucd_category.proofs.Computing.{ucd_category}
use Rattle.pytree_node.specs.declared.operators.Context.TheVariants.{Load}
use Rattle.pytree_node.specs.Profiles.{plain_311}
use Rattle.pytree_node.specs.Trees
use Rattle.pytree_dump_text.specs.declared.styles.Style.{Style}
use Rattle.pytree_dump_text.specs.Shows.{shown_module}
use Rattle.pytree_dump_text.specs.Layout.{dump_text}
use Rattle.pytree_marked.specs.MarkedNodes.{Attributes, with_places, marked}

abbrev attributes : ℕ → ℕ → ℕ → ℕ → Attributes
attributes line byte end_line end_byte = record { line = line; byte = byte; end_line = end_line; end_byte = end_byte }

abbrev text : Style → Trees.Module → List Attributes → List ℕ
text s m ps = dump_text s (with_places ps (shown_module plain_311 m)).shown

abbrev name_alone : Trees.Module
name_alone = record { body = Trees.ExprOf (Trees.Name (codes "x") Load) ∷ [] }

abbrev pass_alone : Trees.Module
pass_alone = record { body = Trees.Pass ∷ [] }

-- x
count : marked (shown_module plain_311 name_alone) ≡ 2
count = refl

flat : text (record { indent = None; names = true; profile = plain_311 }) name_alone (attributes 1 0 1 1 ∷ attributes 1 0 1 1 ∷ [])
    ≡ codes "Module(body=[Expr(value=Name(id='x', ctx=Load(), lineno=1, col_offset=0, end_lineno=1, end_col_offset=1), lineno=1,"
    ++ codes " col_offset=0, end_lineno=1, end_col_offset=1)], type_ignores=[])"
unfolding ucd_category encode_utf8 digits
flat = refl

-- with `--bare`
bare : text (record { indent = None; names = false; profile = plain_311 }) name_alone (attributes 1 0 1 1 ∷ attributes 1 0 1 1 ∷ [])
    ≡ codes "Module([Expr(Name('x', Load(), lineno=1, col_offset=0, end_lineno=1, end_col_offset=1), lineno=1,"
    ++ codes " col_offset=0, end_lineno=1, end_col_offset=1)], [])"
unfolding ucd_category encode_utf8 digits
bare = refl

-- pass, with `--indent 2`
indented : text (record { indent = Some 2; names = true; profile = plain_311 }) pass_alone (attributes 1 0 1 4 ∷ [])
    ≡ codes "Module(\n  body=[\n    Pass(\n      lineno=1,\n      col_offset=0,\n      end_lineno=1,\n"
    ++ codes "      end_col_offset=4)],\n  type_ignores=[])"
unfolding ucd_category encode_utf8 digits
indented = refl
