-- What the reading of one more line of a source gives.
use Rattle.std.specs.Prelude.{◌≡◌, ℕ, ◌+◌, true, List, [], ◌++◌, Option, Some, None}
use Rattle.pysource.specs.declared.places.Place.{Place}
use Rattle.pylex_listing.specs.Listing.{Source}
use Rattle.pytree_node.specs.declared.profiles.Profile.{Profile}
use Rattle.pytoken.specs.Inner.Following.{following}
use Rattle.pygrammar.specs.FormOf.{form_of}
use Rattle.pygrammar.specs.Lines.{Line, line}
use Rattle.pyparse_line.specs.declared.lines.FormRead.{FormRead}
use Rattle.pyplaces.specs.FormPlaces.{FormPlaces, places_at}
use Rattle.pyplaces.specs.Recording.{Records, afters}
use Rattle.pyplaces.specs.Stretches.{Stretch}
use Rattle.pyparse.specs.declared.progress.Progress.{Progress}
use Rattle.pyparse_block.specs.LastLines.{HoldsLastLines}
use Rattle.pyparse_block.specs.Known.{is_unread, IsKnown, Comes}

-- these are the forms of so many lines, or of those up to the first that has none, and it says where a further line stands
pub record Holds (profile : Profile) (s : Source) (k : ℕ) (forms : List Line) (p : Progress) : Type 0 where
  pub known : IsKnown profile s k forms p.known
  pub last_lines : HoldsLastLines (following [] forms) p.last_lines

-- the places of a line's form are recorded in its three runs, and it says where they end
pub record RunsOf {R : Type 0} (after : R → Stretch → R) (count : R → ℕ) (f : FormPlaces) (read : FormRead) (old new : R) : Type 0 where
  pub before : read.before ≡ count (afters after old f.before)
  pub following : read.following ≡ count (afters after old (f.before ++ f.following))
  pub records : Records after old (f.before ++ (f.following ++ f.suite)) new

-- it is the form of the line of this number, and its places are recorded
pub record IsFound {R : Type 0} (after : R → Stretch → R) (count : R → ℕ) (profile : Profile) (s : Source) (k : ℕ) (forms : List Line)
    (level : ℕ) (p : Place) (read : FormRead) (old new : R) : Type 0 where
  pub comes : Comes profile s k (following [] forms) (line level (form_of read.form)) p
  pub runs : RunsOf after count (places_at comes.form.is) read old new

-- where a line's form is answered, nothing more is known; else it is known that it has none
pub record Reads {R : Type 0} (after : R → Stretch → R) (count : R → ℕ) (profile : Profile) (s : Source) (k : ℕ) (forms : List Line)
    (level : ℕ) (p : Place) (was now : Progress) (old new : R) (answer : Option FormRead) : Type 0 where
  pub found : (read : FormRead) → answer ≡ Some read → (now ≡ was) × IsFound after count profile s k forms level p read old new
  pub none : answer ≡ None → (is_unread now.known ≡ true) × Holds profile s (k + 1) forms now
