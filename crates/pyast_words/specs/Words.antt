-- Which words give which command. What is found among words is `clap`'s: `subcommand_of` and `fault_of` are its own definitions of
-- matching.
use Rattle.std.specs.Prelude.{◌≡◌, ◌≢◌, ◌⊎◌, ℕ, ◌≤◌, ◌<◌, Bool, true, false, not, List, [], ◌∷◌, ◌++◌, Option, Some, None, IfSome, ⊤, codes}
use Rattle.std.specs.Prelude.{count_by, length, map, option_map, unwrap_or, slice_get, string_bytes}
use Rattle.std.specs.Str.{bytes_eq}
use Rattle.std.specs.Str.Parse.{digits_value, without_leading_plus}
use Rattle.clap.specs.Faults.{fault_of}
use Rattle.clap.specs.Kinds.{IsAmong}
use Rattle.clap.specs.Lexer.{usize_max}
use Rattle.clap.specs.Simple.{App, Shape, new_rule, new_shape, subcommand_of}
use Rattle.clap.specs.Values.{IsUnsignedIn}
use Rattle.clap.specs.Walk.{Row, Rule, all_of, first_of, one_of}
use Rattle.clap.specs.declared.builder.action.ArgAction.TheVariants.{SetTrue}
use Rattle.clap.specs.declared.builder.value_parser.ValueParser.TheVariants.{Unsigned}
use Rattle.clap.specs.declared.error.kind.ErrorKind.TheVariants.{DisplayHelp, DisplayVersion}
use Rattle.pylex.specs.CursorTexts.{IsWellFormed}
use Rattle.pylex.specs.Cursors.{CursorParts, cursor_text}
use Rattle.pylex.specs.declared.cursor.CursorFault.{CursorFault}
use Rattle.pylex.specs.declared.cursor.CursorFault.TheVariants as cursor_faults
use Rattle.pytree_node.specs.declared.profiles.Extent.{Extent}
use Rattle.pytree_node.specs.declared.profiles.Extent.TheVariants.{Plain, Whole}
use Rattle.pytree_node.specs.declared.profiles.Profile.{Profile}
use Rattle.pytree_node.specs.Profiles.{version_has_types}
use Rattle.pyast_words.specs.declared.command.Check.{Check}
use Rattle.pyast_words.specs.declared.command.Command.{Command}
use Rattle.pyast_words.specs.declared.command.Command.TheVariants as commands
use Rattle.pyast_words.specs.declared.command.Dump.{Dump}
use Rattle.pyast_words.specs.declared.command.Tokens.{Tokens}
use Rattle.pyast_words.specs.declared.command.Unparse.{Unparse}
use Rattle.pyast_words.specs.declared.command.UsageFault.{UsageFault}
use Rattle.pyast_words.specs.declared.command.UsageFault.TheVariants as faults

-- ---- The grammar of the words.

-- the largest count of entries that can be asked for
abbrev pub largest_count : ℕ
largest_count = 1_000_000_000

-- the most blanks of a level that can be asked for
abbrev pub largest_indent : ℕ
largest_indent = 16

-- an option of this name and a number of at most so much: `--NAME N`
abbrev pub number_rule : List ℕ → ℕ → Rule
number_rule name largest = record (new_rule name) { long = Some name; value_names = 1; parser = Some (Unsigned 0 largest) }

-- `--NAME`
abbrev pub flag_rule : List ℕ → Rule
flag_rule name = record (new_rule name) { long = Some name; action = Some SetTrue }

-- `-e`
abbrev pub exact_rule : Rule
exact_rule = record (new_rule (codes "exact")) { short = slice_get (codes "e") 0; action = Some SetTrue }

-- an option of this name and a text: `--NAME TEXT`
abbrev pub text_rule : List ℕ → Rule
text_rule name = record (new_rule name) { long = Some name; value_names = 1 }

-- `FILE`
abbrev pub file_rule : Rule
file_rule = new_rule (codes "FILE")

-- `FILE ..`, one at least
abbrev pub files_rule : Rule
files_rule = record file_rule { range = Some (record { start_inclusive = 1; end_inclusive = usize_max }); required = true }

-- `[--stdin-name NAME] [FILE]`
abbrev pub source_rules : List Rule
source_rules = text_rule (codes "stdin-name") ∷ file_rule ∷ []

-- `[--py312] [--whole] [--show]`
abbrev pub tree_rules : List Rule
tree_rules = flag_rule (codes "py312") ∷ flag_rule (codes "whole") ∷ flag_rule (codes "show") ∷ []

-- `tokens [-e] [--count N] [--resume CURSOR] [SOURCE]`
abbrev pub tokens_shape : Shape
tokens_shape = record (new_shape (codes "tokens")) {
  rules = exact_rule ∷ number_rule (codes "count") largest_count ∷ text_rule (codes "resume") ∷ source_rules;
}

-- `dump [--indent N] [--bare] [--attributes] [--py312] [--whole] [--show] [SOURCE]`
abbrev pub dump_shape : Shape
dump_shape = record (new_shape (codes "dump")) {
  rules = number_rule (codes "indent") largest_indent ∷ flag_rule (codes "bare") ∷ flag_rule (codes "attributes") ∷
      (tree_rules ++ source_rules);
}

-- `unparse [--py312] [--whole] [--show] [SOURCE]`
abbrev pub unparse_shape : Shape
unparse_shape = record (new_shape (codes "unparse")) { rules = tree_rules ++ source_rules }

-- `check [--py312] [--whole] [--show] [--stdin-name NAME] FILE ..`
abbrev pub check_shape : Shape
check_shape = record (new_shape (codes "check")) { rules = tree_rules ++ (text_rule (codes "stdin-name") ∷ files_rule ∷ []) }

-- what the words after the program's name may be: a subcommand with its arguments, or `--version`
abbrev pub grammar : App
grammar = record {
  top = record (new_shape (codes "pyast")) { is_leaf = false; no_binary_name = true; subcommand_required = true; has_version = true };
  subs = tokens_shape ∷ dump_shape ∷ unparse_shape ∷ check_shape ∷ [];
}

-- ---- What was found is what is asked.

-- the text that was found for a flag says whether it is set
abbrev pub IsFlag : Option (List ℕ) → Bool → Type 0
IsFlag None set = set ≡ false
IsFlag (Some text) set = (text ≡ codes "true" → set ≡ true) × (text ≡ codes "false" → set ≡ false)

-- the number is that of the word found for it, at most so large; there is none where no word was found
abbrev pub IsNumber : ℕ → Option (List ℕ) → Option ℕ → Type 0
IsNumber largest None number = number ≡ None
IsNumber largest (Some word) number = IsUnsignedIn 0 largest word × (number ≡ Some (digits_value 10 (without_leading_plus word)))

-- not both a file and a name for the standard input
abbrev pub AreApart : List Row → Type 0
AreApart found = (first_of (codes "FILE") found ≡ None) ⊎ (first_of (codes "stdin-name") found ≡ None)

-- what was found for the source is what is asked: its file, or a name for the standard input, and not both
pub record IsSource (found : List Row) (named given : Option (List ℕ)) : Type 0 where
  pub file : named ≡ first_of (codes "FILE") found
  pub stdin_name : given ≡ first_of (codes "stdin-name") found
  pub apart : AreApart found

-- what was found for the arguments of `tokens` is what is asked: the flag, the count, the cursor of the word, the source
pub record IsTokens (found : List Row) (asked : Tokens) : Type 0 where
  pub exact : IsFlag (one_of (codes "exact") found) asked.exact
  pub count : IsNumber largest_count (one_of (codes "count") found) asked.count
  pub resume : option_map cursor_text asked.resume ≡ first_of (codes "resume") found
  pub well_formed : IfSome asked.resume IsWellFormed
  pub source : IsSource found (option_map string_bytes asked.file) (option_map string_bytes asked.stdin_name)

-- whether an extent is of the whole language
abbrev pub is_whole : Extent → Bool
is_whole Plain = false
is_whole Whole = true

-- what was found is the profile that is asked for: the version, and, free of it, the extent
pub record IsProfile (found : List Row) (profile : Profile) : Type 0 where
  pub newer : IsFlag (one_of (codes "py312") found) (version_has_types profile.version)
  pub whole : IsFlag (one_of (codes "whole") found) (is_whole profile.extent)

-- what was found for the arguments of `dump` is what is asked: the blanks of a level, whether names are left out, whether places are shown,
-- the profile, whether the row of a fault is shown, the source
pub record IsDump (found : List Row) (asked : Dump) : Type 0 where
  pub indent : IsNumber largest_indent (one_of (codes "indent") found) asked.style.indent
  pub bare : IsFlag (one_of (codes "bare") found) (not asked.style.names)
  pub attributes : IsFlag (one_of (codes "attributes") found) asked.attributes
  pub profile : IsProfile found asked.style.profile
  pub show : IsFlag (one_of (codes "show") found) asked.show
  pub source : IsSource found (option_map string_bytes asked.file) (option_map string_bytes asked.stdin_name)

-- what was found for the arguments of `unparse` is what is asked: the profile, whether the row of a fault is shown, the source
pub record IsUnparse (found : List Row) (asked : Unparse) : Type 0 where
  pub profile : IsProfile found asked.profile
  pub show : IsFlag (one_of (codes "show") found) asked.show
  pub source : IsSource found (option_map string_bytes asked.file) (option_map string_bytes asked.stdin_name)

-- how many of some files are `-`, the standard input
abbrev pub dashes : List (List ℕ) → ℕ
dashes = count_by (λ file. bytes_eq file (codes "-"))

-- What was found for the arguments of `check` is what is asked: the profile, whether the row of a fault is shown, and the files, one at
-- least, among which the standard input is once at most; only where it is among them, it has a name.
pub record IsCheck (found : List Row) (asked : Check) : Type 0 where
  pub profile : IsProfile found asked.profile
  pub show : IsFlag (one_of (codes "show") found) asked.show
  pub stdin_name : option_map string_bytes asked.stdin_name ≡ first_of (codes "stdin-name") found
  pub files : map string_bytes asked.files.items ≡ unwrap_or (all_of (codes "FILE") found) []
  pub some : 0 < length asked.files.items
  pub once : dashes (map string_bytes asked.files.items) ≤ 1
  pub named : dashes (map string_bytes asked.files.items) ≡ 0 → option_map string_bytes asked.stdin_name ≡ None

-- the name of a subcommand and what was found after it are the command
abbrev pub IsCommand : Option (List ℕ × List Row) → Command → Type 0
IsCommand sub (commands.Tokens asked) = (found : List Row) × (sub ≡ Some (codes "tokens", found)) × IsTokens found asked
IsCommand sub (commands.Dump asked) = (found : List Row) × (sub ≡ Some (codes "dump", found)) × IsDump found asked
IsCommand sub (commands.Unparse asked) = (found : List Row) × (sub ≡ Some (codes "unparse", found)) × IsUnparse found asked
IsCommand sub (commands.Check asked) = (found : List Row) × (sub ≡ Some (codes "check", found)) × IsCheck found asked

-- the words are of the grammar, and give this command
abbrev pub Gives : List (List ℕ) → Command → Type 0
Gives words command = (fault_of grammar words ≡ []) × IsCommand (subcommand_of grammar words) command

-- what the words can ask for: a count of at most 1,000,000,000, a cursor that has a text, at most 16 blanks a level
abbrev pub IsWithinLimits : Command → Type 0
IsWithinLimits (commands.Tokens asked) = IfSome asked.count (λ n. n ≤ largest_count) × IfSome asked.resume IsWellFormed
IsWithinLimits (commands.Dump asked) = IfSome asked.style.indent (λ n. n ≤ largest_indent)
IsWithinLimits (commands.Unparse asked) = ⊤
IsWithinLimits (commands.Check asked) = ⊤

-- ---- Why the words give no command.

-- a word is no cursor's text
abbrev pub IsNoCursor : List ℕ → Type 0
IsNoCursor word = (c : CursorParts) → IsWellFormed c → cursor_text c ≢ word

-- what was found for the arguments of `tokens` is good but the word for its cursor
pub record LacksCursor (found : List Row) : Type 0 where
  pub count : Option ℕ
  pub is_count : IsNumber largest_count (one_of (codes "count") found) count
  pub word : List ℕ
  pub is_word : first_of (codes "resume") found ≡ Some word
  pub is_none : IsNoCursor word
  pub apart : AreApart found

-- what a text that gives no cursor is told as
abbrev pub of_cursor : CursorFault → UsageFault
of_cursor cursor_faults.Text = faults.MalformedCursor
of_cursor cursor_faults.AnotherSource = faults.MalformedCursor
of_cursor cursor_faults.Memory = faults.Memory

-- the words are those of `tokens`, and good but for the cursor
abbrev pub IsMalformed : List (List ℕ) → Type 0
IsMalformed words = (fault_of grammar words ≡ []) ×
    ((found : List Row) × (subcommand_of grammar words ≡ Some (codes "tokens", found)) × LacksCursor found)

-- the words are no command's, for another reason than the cursor, and don't only ask for help or for the version
pub record AreBad (words : List (List ℕ)) : Type 0 where
  pub no_command : (command : Command) → Gives words command → ⊥
  pub not_by_cursor : IsMalformed words → ⊥
  pub not_help : fault_of grammar words ≢ DisplayHelp ∷ []
  pub not_version : fault_of grammar words ≢ DisplayVersion ∷ []

-- Why the words give no command: they are bad; they may ask for help, or for the version; or all is good but the word that was found
-- for the cursor. Want of memory says nothing of them.
abbrev pub Refuses : List (List ℕ) → UsageFault → Type 0
Refuses words faults.BadArguments = AreBad words
Refuses words (faults.BadWord word) = AreBad words
Refuses words faults.WordMissing = AreBad words
Refuses words (faults.HelpAsked text) = IsAmong DisplayHelp (fault_of grammar words)
Refuses words (faults.VersionAsked text) = IsAmong DisplayVersion (fault_of grammar words)
Refuses words faults.MalformedCursor = IsMalformed words
Refuses words faults.Memory = ⊤

-- ---- The source's name.

-- the file that a command reads; the files of `check` are apart
abbrev pub file_of : Command → Option (List ℕ)
file_of (commands.Tokens asked) = option_map string_bytes asked.file
file_of (commands.Dump asked) = option_map string_bytes asked.file
file_of (commands.Unparse asked) = option_map string_bytes asked.file
file_of (commands.Check asked) = None

-- the name of the standard input in a fault's line: as given, or `<stdin>`
abbrev pub stdin_name_of : Command → List ℕ
stdin_name_of (commands.Tokens asked) = unwrap_or (option_map string_bytes asked.stdin_name) (codes "<stdin>")
stdin_name_of (commands.Dump asked) = unwrap_or (option_map string_bytes asked.stdin_name) (codes "<stdin>")
stdin_name_of (commands.Unparse asked) = unwrap_or (option_map string_bytes asked.stdin_name) (codes "<stdin>")
stdin_name_of (commands.Check asked) = unwrap_or (option_map string_bytes asked.stdin_name) (codes "<stdin>")

-- the name of the source in a fault's line: the file as given, or that of the standard input
abbrev pub name_of : Command → List ℕ
name_of command = unwrap_or (file_of command) (stdin_name_of command)
