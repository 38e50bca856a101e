use Rattle.std.proofs.Common.{Bool, true, false, [], ◌∷◌, ◌&&◌, refl, sym, subst, IsTrue}
use Rattle.folder_spec.specs.Path.{Path, parent}
use Rattle.host_places.specs.Places.{is_entry_name, names_entries}
use Rattle.host_places.proofs.noted.Noted.knows_above.Goals as goal

-- each part of the path above one does what each part of that one does
named_above : (at : Path) → IsTrue (names_entries at) → IsTrue (names_entries (parent at))
named_above [] named = refl
named_above (part ∷ []) named = refl
named_above (part ∷ next ∷ rest) named = under (is_entry_name part) (names_entries (next ∷ rest)) (names_entries (parent (next ∷ rest))) (named_above (next ∷ rest)) named
  where
    under : (first all above : Bool) → (IsTrue all → IsTrue above) → IsTrue (first && all) → IsTrue (first && above)
    under true all above rest named = rest named
    under false all above rest named = named

pub remember-requires-clause-named : goal.remember-requires-clause-named
remember-requires-clause-named c = subst (λ at. IsTrue (names_entries at)) (sym c.in_ok-above.ensures) (named_above c.args.at.now c.in_ok-test_names.ensures)
