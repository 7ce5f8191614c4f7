-- The laws of the texts of floats.
-- Carries: Double::push_repr, Double::push_source and the same of imaginary numbers. On: Lawful.
use Rattle.pynumber.specs.Laws.{FloatsAreLawful}
use Rattle.pynumber.proofs.Lawful.{values_are_doubles, texts_are_shortest, floats_come_back}

pub floats_are_lawful : FloatsAreLawful
floats_are_lawful = record { values = values_are_doubles; shortest = texts_are_shortest; back = floats_come_back }
