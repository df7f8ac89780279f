-- Keys of 64 places.
--
--   far                    the bound that no key of a place that is not blank reaches
use Rattle.std.specs.Prelude.{ℕ}
use Rattle.soft.specs.Column.{places}
use Rattle.weighing.specs.Keys.{far_of}

abbrev pub far : ℕ
far = far_of places
