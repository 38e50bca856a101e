-- A directory that opens in an orderly vault is entered.
use Rattle.std.proofs.Common.{◌≡◌, ◌≢◌, ◌↔◌, [], ◌∷◌, Ok, Err, refl, sym, ap, ◌∙◌}
use Rattle.folder_spec.specs.Path as folder
use Rattle.folder_spec.specs.View.{View}
use Rattle.plain_tree.specs.Names as plain
use Rattle.vault_spec.proofs.Endings.{never_directory}
use Rattle.vault_spec.specs.Alike.{IsOrderly, place_of}
use Rattle.vault_spec.specs.Find.{enter}
use Rattle.vault_spec.specs.Format.{Directory, Format}
use Rattle.vault_spec.specs.Opens as opens
use Rattle.vault_spec.specs.Opens.{opened, tree}
use Rattle.vault_spec.specs.Plan.{StandsBelow}
use Rattle.vault_spec.specs.Reached.{Leads}
use Rattle.vault_spec.specs.Standing.{Absent, Dir, File, Standing, Strange, standing}
use Rattle.vault_spec.specs.declared.Lack.{Lack}
use Rattle.vault_walk.proofs.Walks.{StandBelow}

abbrev pub EnteredLeads : Type 0
EnteredLeads = (f : Format) (v : View) (path : plain.Path) (dir : Directory) → (enter f v path ≡ Ok dir) ↔ Leads f v path dir

never_locked : StandBelow → (f : Format) (v : View) → IsOrderly f v → (path : plain.Path) (at : folder.Path) (lack : Lack) → standing f v path ≢ Dir at (Err lack)
never_locked below f v orderly [] at lack is = let e : Dir [] (Ok orderly.top) ≡ Dir at (Err lack) = sym orderly.root ∙ is in cc e
never_locked below f v orderly (name ∷ rest) at lack is =
    let up : StandsBelow f v (name ∷ rest) = below f v (name ∷ rest) at (λ e. cc e) (ap place_of is) in
    orderly.entered up.front up.dir up.name at lack up.leads (up.stands ∙ is)

pub leads_to : StandBelow → (f : Format) (v : View) → IsOrderly f v → (path : plain.Path) → tree f v path ≡ opens.Directory → (dir : Directory) × Leads f v path dir
unfolding opened
leads_to below f v orderly path is = by (standing f v path) refl is
  where
    by : (s : Standing) → standing f v path ≡ s → opens.opened_at f v s ≡ opens.Directory → (dir : Directory) × Leads f v path dir
    by Absent e o = cc o
    by (Strange at) e o = cc o
    by (File at) e o = absurd (never_directory f.content _ o)
    by (Dir at (Ok dir)) e o = (dir, record { at = at; stands = e })
    by (Dir at (Err lack)) e o = absurd (never_locked below f v orderly path at lack e)
