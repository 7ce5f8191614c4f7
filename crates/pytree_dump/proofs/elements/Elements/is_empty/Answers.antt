use Rattle.std.proofs.Common.{◌∙◌}
use Rattle.pytree_node.specs.Trees.{optional}
use Rattle.pytree_node.specs.TreeOf.{alias_of, comprehension_of, item_of, keyword_of, option_of, pattern_of, type_param_of}
use Rattle.pytree_dump_text.specs.Shows.{shown_alias, shown_comprehension, shown_item, shown_keyword, shown_optional, shown_pattern}
use Rattle.pytree_dump_text.specs.Shows.{shown_type_param}
use Rattle.pytree_dump.proofs.NodeLemmas.{empty_list}
use Rattle.pytree_dump.proofs.elements.Elements.is_empty.Goals as goal

pub returns-in-Options : goal.returns-in-Options
returns-in-Options c = rw c.in-Options.is (c.is_empty.ensures ∙ empty_list (λ e. shown_optional (optional (option_of e))) _)

pub returns-in-Comprehensions : goal.returns-in-Comprehensions
returns-in-Comprehensions c = rw c.in-Comprehensions.is (c.is_empty-in-Comprehensions.ensures
    ∙ empty_list (λ c. shown_comprehension (comprehension_of c)) _)

pub returns-in-Keywords : goal.returns-in-Keywords
returns-in-Keywords c = rw c.in-Keywords.is (c.is_empty-in-Keywords.ensures ∙ empty_list (λ k. shown_keyword (keyword_of k)) _)

pub returns-in-Aliases : goal.returns-in-Aliases
returns-in-Aliases c = rw c.in-Aliases.is (c.is_empty-in-Aliases.ensures ∙ empty_list (λ a. shown_alias (alias_of a)) _)

pub returns-in-Items : goal.returns-in-Items
returns-in-Items c = rw c.in-Items.is (c.is_empty-in-Items.ensures ∙ empty_list (λ i. shown_item (item_of i)) _)

pub returns-in-TypeParams : goal.returns-in-TypeParams
returns-in-TypeParams c = rw c.in-TypeParams.is (c.is_empty-in-TypeParams.ensures ∙ empty_list (λ p. shown_type_param (type_param_of p)) _)

pub returns-in-Patterns : goal.returns-in-Patterns
returns-in-Patterns c = rw c.in-Patterns.is (c.is_empty-in-Patterns.ensures ∙ empty_list (λ p. shown_pattern (pattern_of p)) _)
