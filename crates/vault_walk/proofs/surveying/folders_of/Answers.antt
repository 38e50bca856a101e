use Rattle.std.proofs.Common.{◌∷◌, [], ◌++◌, sym, ap, ◌∙◌, subst, take}
use Rattle.std.proofs.lemmas.List.{take_more, take_all}
use Rattle.vault_walk.specs.declared.levels.Way.TheInside.{Inside}
use Rattle.vault_walk.specs.Walking.{Way}
use Rattle.vault_walk.proofs.FolderSets.{one_folder_more, AreFoldersOf}
use Rattle.vault_walk.proofs.surveying.folders_of.Goals as goal

pub loop-way-preserved : goal.loop-way-preserved
loop-way-preserved c =
    let visits = c.args.visits.now in
    let i = c.loop-way.way-index in
    let way : Way = c.way-item.result in
    subst (AreFoldersOf c.insert.new.self) (sym (take_more visits i way c.loop-way-test.true ∙ ap (λ x. take i visits ++ x ∷ []) (sym c.way-item.is)))
    (one_folder_more c.loop-way.folders c.insert.new.self (take i visits) way c.in_ok-copy.field-0
    (c.in_ok-copy.ensures ∙ ap (λ (x : Inside). x.dir.folder) c.way-inside.view_is ∙ ap (λ (w : Way). w.dir.folder) c.way.view_is) c.in_ok-insert.ensures.updates.0 c.loop-way.invariant)

pub returns : goal.returns
returns c = subst (AreFoldersOf c.loop-way.folders) (take_all c.loop-way.way-index c.args.visits.now c.loop-way-test.false) c.loop-way.invariant
