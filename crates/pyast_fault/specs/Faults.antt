-- The faults, what is printed for each, and the status that the program ends with.
use Rattle.std.specs.Prelude.{◌≡◌, ℕ, List, [], ◌++◌, ◌⊎◌, codes, Option, Some, None, decimal}
use Rattle.std.specs.Io.KnownBytes.{Appends}
use Rattle.pysource.specs.Bytes.{Sent, TakesFront}
use Rattle.pysource.specs.declared.bytes.InputFault.{InputFault}
use Rattle.pysource.specs.declared.bytes.InputFault.TheVariants as input_faults
use Rattle.pysource.specs.declared.encodings.SourceFault.{SourceFault}
use Rattle.pysource.specs.declared.encodings.SourceFault.TheVariants as source_faults
use Rattle.pysource.specs.declared.faults.LineError.TheVariants as line_errors
use Rattle.pysource.specs.declared.places.Place.{Place}
use Rattle.pysource.specs.declared.line_reader.StreamFault.{StreamFault}
use Rattle.pysource.specs.declared.line_reader.StreamFault.TheVariants as stream_faults
use Rattle.pylex_listing.specs.declared.entries.ListingError.{ListingError}
use Rattle.pylex_listing.specs.declared.entries.ListingError.TheVariants as errors
use Rattle.pylex_listing.specs.declared.entries.ListingFault.{ListingFault}
use Rattle.pylex.specs.declared.line_lister.ResumeFault.{ResumeFault}
use Rattle.pylex.specs.declared.line_lister.ResumeFault.TheVariants as resume_faults
use Rattle.pytoken.specs.declared.faults.TokenError.{TokenError}
use Rattle.pytoken.specs.declared.faults.TokenError.TheVariants.{Float, Complex, FString, IntegerTooLarge, NamedEscape, BadEscape}
use Rattle.pytoken.specs.declared.faults.TokenError.TheVariants.{NonAsciiBytes, Nul, NameForm}
use Rattle.pytoken.specs.declared.refusals.Refusal.{Refusal}
use Rattle.pytoken.specs.declared.refusals.Refusal.TheVariants as refusals
use Rattle.pygrammar.specs.Blocks as blocks
use Rattle.pygrammar.specs.Refusals.{Code, Reason, in_tokens, at}
use Rattle.pygrammar.specs.Refusals as grammar
use Rattle.pyparse_tokens.specs.declared.faults.ParseFault.{ParseFault}
use Rattle.pyparse_tokens.specs.declared.faults.ParseFault.TheVariants as parse_faults
use Rattle.pyparse.specs.Modules.{code_of}
use Rattle.pyast_fault.specs.Rows.{row_and_caret}
use Rattle.pyast_fault.specs.declared.fault.SourceFaultCode.{SourceFaultCode}
use Rattle.pyast_fault.specs.declared.fault.SourceFaultCode.TheVariants.{UnsupportedEncoding, BomConflict, NotUtf8, NotAscii, LoneReturn}
use Rattle.pyast_fault.specs.declared.fault.SourceFaultCode.TheVariants.{BadCharacter, UnterminatedString, EofInString, EofInStatement}
use Rattle.pyast_fault.specs.declared.fault.SourceFaultCode.TheVariants.{UnindentMismatch, UnmatchedCloser, Token, Syntax, MatchStatement}
use Rattle.pyast_fault.specs.declared.fault.SourceFaultCode.TheVariants.{ExpectedIndent, UnexpectedIndent, MisplacedClause, TooDeep}
use Rattle.pyast_fault.specs.declared.fault.SourceFaultCode.TheVariants.{InconsistentTabs}
use Rattle.pyast_fault.specs.declared.fault.RunFaultCode.TheVariants.{Read, CursorOfAnotherSource, CursorText, BadArguments, Open, Write}
use Rattle.pyast_fault.specs.declared.fault.RunFaultCode.TheVariants.{Memory}
use Rattle.pyast_fault.specs.declared.fault.FaultCode.{FaultCode}
use Rattle.pyast_fault.specs.declared.fault.FaultCode.TheVariants.{Source, Run}
use Rattle.pyast_fault.specs.declared.fault.Fault.{Fault}
use Rattle.pyast_fault.specs.declared.fault.Fault.TheVariants.{InSource, Plain}

-- the text of a fault that a token has by itself
abbrev pub token_text : TokenError → List ℕ
token_text Float = codes "float literal"
token_text Complex = codes "complex literal"
token_text FString = codes "f-string"
token_text IntegerTooLarge = codes "integer too large"
token_text NamedEscape = codes "named escape"
token_text BadEscape = codes "bad escape"
token_text NonAsciiBytes = codes "non-ASCII bytes literal"
token_text Nul = codes "null character"
token_text NameForm = codes "name form"

-- the text of a fault
abbrev pub text_of : FaultCode → List ℕ
text_of (Source UnsupportedEncoding) = codes "unsupported encoding"
text_of (Source BomConflict) = codes "byte order mark with another encoding"
text_of (Source NotUtf8) = codes "invalid UTF-8"
text_of (Source NotAscii) = codes "not ASCII"
text_of (Source LoneReturn) = codes "carriage return without line feed"
text_of (Source BadCharacter) = codes "unexpected character"
text_of (Source UnterminatedString) = codes "unterminated string literal"
text_of (Source EofInString) = codes "EOF in multi-line string"
text_of (Source EofInStatement) = codes "EOF in multi-line statement"
text_of (Source UnindentMismatch) = codes "unindent does not match any outer indentation level"
text_of (Source UnmatchedCloser) = codes "unmatched closing bracket"
text_of (Source (Token error)) = token_text error
text_of (Source Syntax) = codes "invalid syntax"
text_of (Source MatchStatement) = codes "match statement"
text_of (Source ExpectedIndent) = codes "expected an indented block"
text_of (Source UnexpectedIndent) = codes "unexpected indent"
text_of (Source MisplacedClause) = codes "misplaced clause"
text_of (Source TooDeep) = codes "too deep"
text_of (Source InconsistentTabs) = codes "inconsistent tabs and spaces"
text_of (Run Read) = codes "read failed"
text_of (Run CursorOfAnotherSource) = codes "cursor of another source"
text_of (Run CursorText) = codes "malformed cursor"
text_of (Run BadArguments) = codes "bad arguments"
text_of (Run Open) = codes "cannot open file"
text_of (Run Write) = codes "write failed"
text_of (Run Memory) = codes "out of memory"

-- 1 where the source is at fault, 2 where the words or the cursor are, 3 where a read, an opening or a write failed, 4 for want of memory
abbrev pub code_status : FaultCode → ℕ
code_status (Source code) = 1
code_status (Run Read) = 3
code_status (Run CursorOfAnotherSource) = 2
code_status (Run CursorText) = 2
code_status (Run BadArguments) = 2
code_status (Run Open) = 3
code_status (Run Write) = 3
code_status (Run Memory) = 4

-- what is told of a fault
abbrev pub fault_code : Fault → FaultCode
fault_code (InSource code place) = Source code
fault_code (Plain code) = Run code

-- the status of a run by the fault that ended it
abbrev pub status_of : Option Fault → ℕ
status_of None = 0
status_of (Some fault) = code_status (fault_code fault)

-- what is wrong with the source where a listing ends so: nothing where a line could not be read whole
abbrev pub listing_code : ListingError → Option SourceFaultCode
listing_code (errors.Line line_errors.NotUtf8) = Some NotUtf8
listing_code (errors.Line line_errors.NotAscii) = Some NotAscii
listing_code (errors.Line line_errors.LoneReturn) = Some LoneReturn
listing_code (errors.Line line_errors.FailedRead) = None
listing_code errors.BadCharacter = Some BadCharacter
listing_code errors.UnterminatedString = Some UnterminatedString
listing_code errors.EofInString = Some EofInString
listing_code errors.EofInStatement = Some EofInStatement
listing_code errors.UnindentMismatch = Some UnindentMismatch
listing_code errors.UnmatchedCloser = Some UnmatchedCloser

-- what is wrong with the source is told at its place; a failed read has none
abbrev pub told_at : Option SourceFaultCode → Place → Fault
told_at (Some code) place = InSource code place
told_at None place = Plain Read

-- the fault that is told where a listing ends by one
abbrev pub of_listing : ListingFault → Fault
of_listing f = told_at (listing_code f.code) f.place

-- the fault that is told where a source has no tokens
abbrev pub of_refusal : Refusal → Fault
of_refusal (refusals.Listing fault) = of_listing fault
of_refusal (refusals.Token error place) = InSource (Token error) place
of_refusal (refusals.TooDeep place) = InSource TooDeep place
of_refusal (refusals.MixedTabs place) = InSource InconsistentTabs place

-- what is wrong with a source of which the grammar says this
abbrev pub of_grammar : Code → SourceFaultCode
of_grammar grammar.Syntax = Syntax
of_grammar grammar.MatchStatement = MatchStatement
of_grammar (grammar.Indentation blocks.ExpectedIndent) = ExpectedIndent
of_grammar (grammar.Indentation blocks.UnexpectedIndent) = UnexpectedIndent
of_grammar (grammar.Indentation blocks.MisplacedClause) = MisplacedClause
of_grammar grammar.TooDeep = TooDeep

-- the fault that is told where a source is refused for this reason
abbrev pub of_reason : Reason → Fault
of_reason (in_tokens refusal) = of_refusal refusal
of_reason (at place code) = InSource (of_grammar code) place

-- the fault that is told where a source is not read
abbrev pub of_parse : ParseFault → Fault
of_parse (parse_faults.Refused refusal) = of_reason (in_tokens refusal)
of_parse (parse_faults.Grammar error place) = of_reason (at place (code_of error))
of_parse parse_faults.Memory = Plain Memory

-- the fault that is told where a reader was not read whole
abbrev pub of_input : InputFault → Fault
of_input input_faults.Read = Plain Read
of_input input_faults.Memory = Plain Memory

-- the fault that is told where bytes are no source
abbrev pub of_source : SourceFault → Fault
of_source (source_faults.UnsupportedEncoding place) = InSource UnsupportedEncoding place
of_source (source_faults.BomConflict place) = InSource BomConflict place
of_source source_faults.Memory = Plain Memory

-- the fault that is told where a reader gives no source
abbrev pub of_stream : StreamFault → Fault
of_stream (stream_faults.UnsupportedEncoding place) = InSource UnsupportedEncoding place
of_stream (stream_faults.BomConflict place) = InSource BomConflict place
of_stream stream_faults.Read = Plain Read
of_stream stream_faults.Memory = Plain Memory

-- the fault that is told where a reader gives no source with such a cursor
abbrev pub of_resume : ResumeFault → Fault
of_resume (resume_faults.Stream fault) = of_stream fault
of_resume resume_faults.AnotherSource = Plain CursorOfAnotherSource

-- `NAME:ROW:COLUMN: error: TEXT`
abbrev pub source_line : List ℕ → ℕ → ℕ → List ℕ → List ℕ
source_line name row column text =
    name ++ (codes ":" ++ (decimal row ++ (codes ":" ++ (decimal column ++ (codes ": error: " ++ (text ++ codes "\n"))))))

-- `pyast: TEXT`
abbrev pub plain_line : List ℕ → List ℕ
plain_line text = codes "pyast: " ++ (text ++ codes "\n")

-- the line on the standard error
abbrev pub fault_line : List ℕ → Fault → List ℕ
fault_line name (InSource code place) = source_line name place.row place.column (text_of (Source code))
fault_line name (Plain code) = plain_line (text_of (Run code))

-- what is shown of a fault's place, where the bytes of the source are given: its row, and a caret below the place
abbrev pub rows_of : Option (List ℕ) → Fault → List ℕ
rows_of None fault = []
rows_of (Some bytes) (InSource code place) = row_and_caret bytes place
rows_of (Some bytes) (Plain code) = []

-- `pyast: FIRST: SECOND`
abbrev pub pair_line : List ℕ → List ℕ → List ℕ
pair_line first second = plain_line (first ++ (codes ": " ++ second))

-- the line of a fault of one of several files: where the file can't be opened or read, it is named
abbrev pub file_line : List ℕ → Fault → List ℕ
file_line name (Plain Open) = pair_line name (text_of (Run Open))
file_line name (Plain Read) = pair_line name (text_of (Run Read))
file_line name fault = fault_line name fault

-- the line of bad words, by one of them or by what they lack
abbrev pub bad_word_line : List ℕ → List ℕ
bad_word_line word = pair_line (text_of (Run BadArguments)) word

-- the writer took the line whole, or a front of it where it failed
pub record Tells (sent_old sent_new : Sent) (line : List ℕ) : Type 0 where
  pub front : TakesFront sent_old.taken sent_new.taken line
  pub whole : sent_new.failures ≡ sent_old.failures → Appends sent_old.taken sent_new.taken line

-- a fault is told as it is; but a fault of the source also as want of memory for its line
abbrev pub IsToldAs : Fault → Fault → Type 0
IsToldAs (InSource code place) told = (told ≡ InSource code place) ⊎ (told ≡ Plain Memory)
IsToldAs (Plain code) told = told ≡ Plain code
