use Rattle.std.proofs.Common.{◌≡◌, subst, sym}
use Rattle.demo_core.specs.Making.{phrase}
use Rattle.move_journal.specs.Reading.{StandsIn}
use Rattle.retire_core.specs.Causes.{IsOfFolder}
use Rattle.retire_core.specs.Retiring.{HasRetired, TouchesOnly, retiring_by}
use Rattle.demonstration.specs.DemoTrees.{moving_folder}
use Rattle.demonstration.proofs.Legs.{leaves_source}
use Rattle.demonstration.proofs.Movable.{AreMovable, carried_retires}
use Rattle.demonstration.proofs.Steps.{all_retired, leg_next}
use Rattle.demonstration.proofs.leading.retire_source.Goals as goal

pub returns-in-Ok-clause-leaves : goal.returns-in-Ok-clause-leaves
returns-in-Ok-clause-leaves g c =
    let t = g.F.Folder.told c.args.folder.now in
    let u = g.F.Folder.told c.retire.new.folder in
    let work : c.in_ok-work.work ≡ moving_folder = c.in_ok-work.ensures.is in
    leaves_source c.roots_show_their_own.ensures.alike c.journals_are_read_back.ensures.stands c.args.leg c.in-Ok.retired.items t u (λ a is. g.met.F.Folder.sound c.args.folder.now a is)
    (λ v is. subst (λ w. HasRetired w c.in-Ok.retired.items u v) work (c.in-Ok.ensures.retired v is))
    (λ v journal is text stands. subst (λ w. TouchesOnly (retiring_by w phrase phrase journal) t u) work (c.retire.ensures.touches v journal is text (subst (λ w. StandsIn w journal v) (sym work) stands)))

pub returns-in-Ok-clause-items : goal.returns-in-Ok-clause-items
returns-in-Ok-clause-items g c count sees =
    all_retired c.args.leg c.in-Ok.retired.items count (g.F.Folder.told c.args.folder.now) (g.F.Folder.told c.retire.new.folder) (returns-in-Ok-clause-leaves g c) sees

pub returns-in-Ok-clause-next : goal.returns-in-Ok-clause-next
returns-in-Ok-clause-next g c count there sees =
    leg_next c.args.leg c.in-Ok.retired.items count (g.F.Folder.told c.args.folder.now) (g.F.Folder.told c.retire.new.folder) there (returns-in-Ok-clause-leaves g c) sees

pub returns-clause-ends : goal.returns-clause-ends
returns-clause-ends g c count sees =
    let laws : AreMovable = record {
      apart = c.trees_stay_by_same.ensures.apart;
      named = c.names_of_items_are_allowed.ensures.named;
      allowed = c.names_of_items_are_allowed.ensures.allowed;
      short = c.items_are_directories_or_short_files.ensures;
      fits = c.trees_of_items_pass_no_limit.ensures;
      whole = c.small_contents_pass_no_limit.ensures.whole;
    } in
    c.refused.ensures.folder
    (carried_retires laws c.walks_tell_the_tree.ensures.plan (IsOfFolder c.in-Err.fault) c.args.leg count c.in_ok-work.work (g.F.Folder.told c.args.folder.now) (λ a is. g.met.F.Folder.sound c.args.folder.now a is)
    c.in_ok-work.ensures.is c.in-Err.ensures.completes sees)
