-- What callers compute with: the tokens and the refusals of a listing entry by entry, and the
-- laws of what tokens say;
-- and a text character by character.
pub mod OnePass
pub mod Said
pub mod Bodies
pub mod TextLemmas
pub mod Numerals
pub mod Reprs
pub mod Singles
