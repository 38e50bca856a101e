-- The content of a file of the demonstration, as it is still to come.
use Rattle.std.specs.Prelude.{ℕ}
use Rattle.item_making.specs.Ending.{Whole}
use Rattle.content_writing.specs.Content.{Coming}
use Rattle.demo_core.specs.Demonstration.{bytes_from}

-- so many bytes from a place on, and then the end
abbrev pub coming_of : ℕ → ℕ → ℕ → ℕ → Coming
coming_of seed number given left = record { bytes = bytes_from seed number given left; ending = Whole }
