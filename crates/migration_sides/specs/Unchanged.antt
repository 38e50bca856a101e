-- What a test that refuses leaves behind.
use Rattle.std.specs.Prelude.{◌≡◌, Option}
use Rattle.folder_spec.specs.Event.{Settle, Told}
use Rattle.folder_spec.specs.Moments.{Moments}

-- nothing is made, written, moved or removed: at most it is settled
abbrev pub ChangesNothing : Option Told → Option Told → Type 0
ChangesNothing = Moments (λ s0 s. Unit {0}) (λ s0 s e. e.call ≡ Settle)
