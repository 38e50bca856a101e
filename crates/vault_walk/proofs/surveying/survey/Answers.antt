use Rattle.std.proofs.Common.{◌≡◌, ◌≤◌, ◌++◌, refl, sym, ap, ◌∙◌, subst}
use Rattle.folder_spec.specs.Path.{Path}
use Rattle.folder_spec.specs.Seen.{IsSeen, under}
use Rattle.vault_spec.specs.Vault.{format_of}
use Rattle.vault_walk.specs.Survey.{item_limit}
use Rattle.vault_walk.specs.Surveyed.{findings_behind, notes_behind, ArePlaced}
use Rattle.vault_walk.proofs.FilesStand.{placed_behind, survey_files}
use Rattle.vault_walk.proofs.Folders.{folders_under, seen_folders}
use Rattle.vault_walk.proofs.Surveys.{met_by, placed_size, surveyed_is}
use Rattle.vault_walk.proofs.Walks.{lead_through}
use Rattle.vault_walk.proofs.surveying.survey.Goals as goal

pub returns-clause-survey : goal.returns-clause-survey
returns-clause-survey g c v is =
    let f = format_of c.args.vault.now.vault in
    let root = c.args.vault.now.root in
    let w = under root v in
    let behind = c.what_stands_is_found_step_by_step.ensures.behind in
    let through = lead_through c.what_stands_is_found_step_by_step.ensures.below in
    let walk = c.in_ok-visits.field-0 in
    let surveyed = c.in_ok-survey_of.field-0 in
    let found = c.in_ok-found.found.items in
    let ended = c.in_ok-visits.ensures.walked v is in
    let met = met_by f w walk c.as_slice.result.now walk.found.items walk.targets.items c.as_slice.ensures.value refl refl ended in
    let are = c.in_ok-found.ensures.found v (subst (λ t. IsSeen t v) (sym c.in_ok-visits.ensures.told) is) met in
    surveyed_is f w found c.in_ok-found.ensures.ordered are behind through root walk.visits.items walk.items.items surveyed ended.walked ended.tells.items
    (subst (λ r. ArePlaced r walk.items.items surveyed.plan.items) c.root.ensures
    c.in_ok-survey_of.ensures.plan)
    (c.in_ok-survey_of.ensures.findings ∙ ap (λ r. findings_behind r found) c.root.ensures)
    (c.in_ok-survey_of.ensures.notes ∙ ap (λ r. notes_behind r found) c.root.ensures)

pub returns-clause-plan : goal.returns-clause-plan
returns-clause-plan g c v is clean own =
    let f = format_of c.args.vault.now.vault in
    let root = c.args.vault.now.root in
    let w = under root v in
    let s = returns-clause-survey g c v is in
    let orderly = c.clean_vaults_are_orderly.ensures c.args.vault.now.vault w (folders_under root v (seen_folders (g.F.Folder.told c.args.folder.now) (g.met.F.Folder.sound c.args.folder.now) v is)) own clean in
    record { plan = s.plan; is = c.each_item_once_is_the_plan.ensures f w s.plan orderly s.is.once s.is.ordered; items_are = s.items_are }

pub returns-clause-files : goal.returns-clause-files
returns-clause-files g c v is item there file =
    survey_files c.what_stands_is_found_step_by_step.ensures.below c.args.vault.now.vault c.args.vault.now.root v c.in_ok-survey_of.field-0 (returns-clause-survey g c v is) item there file

pub returns-clause-behind : goal.returns-clause-behind
returns-clause-behind g c item there =
    subst (λ (r : Path). (rest : Path) × (item.at ≡ r ++ rest)) c.root.ensures
    (placed_behind c.root.result.now c.in_ok-visits.field-0.items.items c.in_ok-survey_of.field-0.plan.items c.in_ok-survey_of.ensures.plan item there)

pub returns-clause-size : goal.returns-clause-size
returns-clause-size g c =
    subst (λ n. n ≤ item_limit)
    (sym (placed_size c.root.result.now c.in_ok-visits.field-0.items.items c.in_ok-survey_of.field-0.plan.items c.in_ok-survey_of.ensures.plan))
    c.in_ok-visits.ensures.size
