-- What the versions of Python differ in, and how much of the language is meant.
use Rattle.std.specs.Prelude.{Bool, true, false}
use Rattle.pytree_node.specs.declared.profiles.Version.{Version}
use Rattle.pytree_node.specs.declared.profiles.Version.TheVariants.{Py311, Py312}
use Rattle.pytree_node.specs.declared.profiles.Extent.{Extent}
use Rattle.pytree_node.specs.declared.profiles.Extent.TheVariants.{Plain}
use Rattle.pytree_node.specs.declared.profiles.Profile.{Profile}

-- a version, in an extent
abbrev pub python : Version → Extent → Profile
python v e = record { version = v; extent = e }

-- Python 3.11 in the plain extent
abbrev pub plain_311 : Profile
plain_311 = python Py311 Plain

-- Python 3.12 in the plain extent
abbrev pub plain_312 : Profile
plain_312 = python Py312 Plain

-- whether a version has parameters of types, and the statement `type`
abbrev pub version_has_types : Version → Bool
version_has_types Py311 = false
version_has_types Py312 = true

-- the same of a profile, in either extent
abbrev pub has_types : Profile → Bool
has_types profile = version_has_types profile.version
