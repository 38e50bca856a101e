-- Why an encoder's draw failed.
use Rattle.std.specs.Prelude.{◌≡◌, ℕ, ◌<◌, true, List, length, take, replicate, Option}
use Rattle.std.specs.List.{sum}
use Rattle.port_model.specs.Counts.{CountRose}
use Rattle.port_model.specs.Draws.{ByteStream, Draws}
use Rattle.chunk_files.specs.declared.fault.EncodeFault.{EncodeFault}
use Rattle.chunk_files.specs.declared.fault.EncodeFault.TheVariants.{Random, ZeroRandom}
use Rattle.chunk_files.specs.Format.{Format}

-- of draws of these sizes only the first were made
pub record DrawsFirst (sizes : List ℕ) (left left' : Option ByteStream) : Type 0 where
  pub made : ℕ
  pub not_all : made < length sizes
  pub drawn : List ℕ
  pub size : length drawn ≡ sum (take made sizes)
  pub were_drawn : Draws left left' drawn

-- the random source failed, by its count, before all draws of these sizes were made; or sixteen zero bytes were
-- drawn, where these are refused
abbrev pub DrawFails : Format → List ℕ → Option ByteStream → Option ByteStream → ℕ → ℕ → EncodeFault → Type 0
DrawFails f sizes left left' faults faults' Random = CountRose faults faults' × DrawsFirst sizes left left'
DrawFails f sizes left left' faults faults' ZeroRandom = (f.refuses_zeros ≡ true) × Draws left left' (replicate 16 0)
