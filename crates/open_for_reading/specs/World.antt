-- What the objects outside tell: the folder its state and log, the input the bytes that are left, the output the bytes that it took,
-- the random source the bytes that it is still to give.
use Rattle.std.specs.Prelude.{ℕ, Bool, List, Option}
use Rattle.folder_spec.specs.Event.{Told}
use Rattle.port_model.specs.Draws.{ByteStream}

pub record World : Type 0 where
  pub told : Option Told
  pub left : Option (List ℕ)
  pub ended : Bool
  pub taken : Option (List ℕ)
  pub random : Option ByteStream
