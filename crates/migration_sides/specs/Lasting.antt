-- What lasts once a call has ended.
use Rattle.std.specs.Prelude.{◌≡◌, [], IfSome, Option}
use Rattle.folder_spec.specs.Event.{Told}

-- no directory change is pending: all name tables agree
abbrev pub Lasts : Option Told → Type 0
Lasts told = IfSome told (λ (a : Told). a.state.later ≡ [])
