-- What the reader finds, the table gives.
pub mod Says
pub mod SoundClimb
pub mod SoundLists
pub mod SoundStrings
pub mod Sound
