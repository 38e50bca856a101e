-- The entries of a folder that have no place there.
use Rattle.std.specs.Prelude.{List, [], ◌∷◌}
use Rattle.std.specs.List.{flat_map}
use Rattle.folder_spec.specs.Listing.{Item}
use Rattle.folder_spec.specs.Path.{Part, Path, child}
use Rattle.folder_spec.specs.View as view
use Rattle.vault_spec.specs.Findings.{number_of}
use Rattle.vault_spec.specs.Format.{Role, Expected, Shelf, ContentFolder, Extra}
use Rattle.vault_spec.specs.declared.Finding.TheVariants as is
use Rattle.vault_walk.specs.declared.found.Found.{Found}

-- what is found at a path, by what the path is for
abbrev pub extra_at : Role → Path → List Found
extra_at Expected at = []
extra_at Shelf at = []
extra_at ContentFolder at = []
extra_at Extra at = record { at = at; number = number_of is.ExtraEntry } ∷ []

-- what is found of these entries of a folder, by what each is for
unfoldable pub extras : (Part → view.Found → Role) → view.View → Path → List Item → List Found
extras role v at entries = flat_map (λ (entry : Item). extra_at (role entry.name (v (child at entry.name))) (child at entry.name)) entries
