-- What contracts see of texts behind references.
use Rattle.std.specs.Prelude.{ℕ, List, map}
use Rattle.std.specs.Borrow.{Bor}

abbrev pub texts_view : List (Bor (List ℕ)) → List (List ℕ)
texts_view = map (λ text. text.now)
