-- What a migration draws; and that it stops at zeros only where it drew them.
use Rattle.std.specs.Prelude.{◌≡◌, ℕ, List, ◌++◌, replicate, Option, Result, Err}
use Rattle.item_making.specs.declared.fault.PutFault.TheVariants as put
use Rattle.port_model.specs.Draws.{ByteStream, Draws}
use Rattle.migrate_core.specs.declared.fault.MoveFault.{MoveFault}
use Rattle.migrate_core.specs.declared.fault.MoveFault.TheVariants.{Place}

-- the last sixteen bytes are zero
pub record EndsInZeros (bytes : List ℕ) : Type 0 where
  pub front : List ℕ
  pub is : bytes ≡ front ++ replicate 16 0

-- Some bytes were drawn. Where zeros are why a call ends, they end in sixteen zeros.
pub record Drew (zeros : Type 0) (stream stream' : Option ByteStream) : Type 0 where
  pub drawn : List ℕ
  pub were_drawn : Draws stream stream' drawn
  pub ends : zeros → EndsInZeros drawn

-- by the answer: zeros are why, where it says so
abbrev pub DrewBy : {T : Type 0} → Result T MoveFault → Option ByteStream → Option ByteStream → Type 0
DrewBy result = Drew (result ≡ Err (Place put.ZeroRandom))
