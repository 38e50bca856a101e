-- The journal, which stands alone in the work folder, is removed, and then the work folder.
use Rattle.std.proofs.Common.{◌≡◌, [], ◌∷◌, None, Option, Result, refl, sym, ap, ◌∙◌, subst, append-nil, codes}
use Rattle.folder_spec.proofs.Paths.{below-both, child-apart}
use Rattle.folder_spec.specs.declared.FolderFault.{FolderFault}
use Rattle.folder_spec.specs.Event.{Changes, RemoveDir, RemoveFile, Settle, Told}
use Rattle.folder_spec.specs.Path.{Path, below, child}
use Rattle.folder_spec.specs.Seen.{IfSeen, IsSeen, seen}
use Rattle.migration_spec.proofs.Guards.{RootsAreAlike}
use Rattle.migration_spec.specs.Guard.{Migration, old_path}
use Rattle.work_folder.specs.Entries.{journal_path}
use Rattle.retire_core.proofs.Cleared.{inside_apart, rest_call}
use Rattle.retire_core.proofs.Going.{behind_inside, nothing_seen, removed_dir, removed_file, retiring_call, settled_retiring}
use Rattle.retire_core.specs.Clearing.{ClearsRest, HasOnlyJournal}
use Rattle.retire_core.specs.Guarding.{KeepsRetiring}
use Rattle.folder_spec.proofs.Stages.{at_itself}

-- ---- it stays retired

pub journal_retiring : RootsAreAlike → (g : Migration) (work : Path) (t u : Option Told) (result : Result (Unit {0}) FolderFault) → g.work ≡ work → IfSeen t (λ v. HasOnlyJournal v work)
    → Changes (RemoveFile (journal_path work)) t u result → KeepsRetiring g t u
journal_retiring alike g work t u result same alone changes =
    retiring_call g (RemoveFile (journal_path g.work)) t u result tt
    (λ a is allowed retiring.
    let only = alone (seen a.state) (subst (λ o. IsSeen o (seen a.state)) (sym is) refl) in
    removed_file alike g a.state (journal_path g.work) (behind_inside g.work (codes "journal" ∷ []))
    (λ last. nothing_seen a.state (old_path g.work) (ap (λ w. seen a.state (child w (codes "old"))) same ∙ only.others (codes "old") (λ e. cc e))) allowed retiring)
    (subst (λ w. Changes (RemoveFile (journal_path w)) t u result) (sym same) changes)

pub folder_retiring : RootsAreAlike → (g : Migration) (work : Path) (t u : Option Told) (result : Result (Unit {0}) FolderFault) → g.work ≡ work → Changes (RemoveDir work) t u result → KeepsRetiring g t u
folder_retiring alike g work t u result same changes =
    retiring_call g (RemoveDir g.work) t u result tt
    (λ a is allowed retiring. removed_dir alike g a.state g.work (at_itself g.work) (λ last. absurd (child-apart g.work (codes "journal") (sym last))) allowed retiring)
    (subst (λ w. Changes (RemoveDir w) t u result) (sym same) changes)

pub settle_retiring : (g : Migration) (t u : Option Told) (result : Result (Unit {0}) FolderFault) → Changes Settle t u result → KeepsRetiring g t u
settle_retiring g t u result changes = retiring_call g Settle t u result tt (λ a is allowed retiring. settled_retiring g a.state retiring) changes

-- ---- and only the work folder changes

pub journal_clears : (work : Path) (t u : Option Told) (result : Result (Unit {0}) FolderFault) → Changes (RemoveFile (journal_path work)) t u result → ClearsRest work t u
journal_clears work t u result changes =
    let inside = behind_inside work (codes "journal" ∷ []) in
    rest_call work (RemoveFile (journal_path work)) t u result tt (λ s. ((λ q apart. inside_apart work (journal_path work) q inside apart), tt))
    (inside, below-both work (codes "old" ∷ []) (codes "journal" ∷ [])) changes

pub folder_clears : (work : Path) (t u : Option Told) (result : Result (Unit {0}) FolderFault) → Changes (RemoveDir work) t u result → ClearsRest work t u
folder_clears work t u result changes =
    rest_call work (RemoveDir work) t u result tt (λ s. ((λ q apart. inside_apart work work q (at_itself work) apart), tt))
    (at_itself work, subst (λ q. below (old_path work) q ≡ None) (append-nil work) (below-both work (codes "old" ∷ []) [])) changes

pub settle_clears : (work : Path) (t u : Option Told) (result : Result (Unit {0}) FolderFault) → Changes Settle t u result → ClearsRest work t u
settle_clears work t u result changes = rest_call work Settle t u result tt (λ s. (tt, tt)) tt changes
