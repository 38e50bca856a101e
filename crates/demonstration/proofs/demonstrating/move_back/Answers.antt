use Rattle.std.proofs.Common.{refl, subst}
use Rattle.std.proofs.lemmas.Result.{err_from_is_err_and}
use Rattle.demonstration.specs.Demo.{Arrived, IsWayBack, OnRetired, back_text, moved_text, retired_text}
use Rattle.demonstration.specs.DemoTrees.{Leads, WhereTold, second_root, third_root}
use Rattle.demonstration.specs.declared.leading.Leg.TheVariants.{Back}
use Rattle.demonstration.proofs.Demonstrations.{all_then, front_then, led_as, some_back, way_stopped}
use Rattle.demonstration.proofs.demonstrating.move_back.Goals as goal
use Rattle.vault_read.specs.declared.vault.VaultKind.TheVariants.{Gocryptfs}

pub returns-in_err-status-clause-prints : goal.returns-in_err-status-clause-prints
returns-in_err-status-clause-prints g c count =
    let p = err_from_is_err_and c.from_residual.result c.from_residual.ensures.1 in
    way_stopped (IsWayBack _ count c.args.first) back_text c.from_residual.result p.0 _ _ p.1 (some_back _ count c.args.first _ _ (c.in_err-status.ensures.prints count))

pub returns-in_err-tell_retired-in-Retired-clause-prints : goal.returns-in_err-tell_retired-in-Retired-clause-prints
returns-in_err-tell_retired-in-Retired-clause-prints g c count =
    let p = err_from_is_err_and c.from_residual-in_err-tell_retired-in-Retired.result c.from_residual-in_err-tell_retired-in-Retired.ensures.1 in
    let led = led_as _ count Back _ _ _ _ c.in-Retired.is (c.in_ok-status.ensures.prints count) in
    way_stopped (IsWayBack _ count c.args.first) back_text c.from_residual-in_err-tell_retired-in-Retired.result p.0 _ _ p.1
    (Arrived c.args.first c.in-Retired.second, (refl, led.0), front_then _ _ _ (moved_text Back 0) (retired_text c.args.first c.in-Retired.second) led.1 c.in_err-tell_retired-in-Retired.ensures.prints)

pub returns-in-Stopped-clause-prints : goal.returns-in-Stopped-clause-prints
returns-in-Stopped-clause-prints g c count = led_as _ count Back _ _ _ _ c.in-Stopped.is (c.in_ok-status.ensures.prints count)

pub returns-in_ok-tell_retired-in-Retired-clause-prints : goal.returns-in_ok-tell_retired-in-Retired-clause-prints
returns-in_ok-tell_retired-in-Retired-clause-prints g c count =
    let led = led_as _ count Back _ _ _ _ c.in-Retired.is (c.in_ok-status.ensures.prints count) in
    ((refl, led.0), all_then _ _ _ (moved_text Back 0) (retired_text c.args.first c.in-Retired.second) led.1 c.in_ok-tell_retired-in-Retired.ensures.prints)

pub returns-in_ok-tell_retired-in-Retired-clause-leads : goal.returns-in_ok-tell_retired-in-Retired-clause-leads
returns-in_ok-tell_retired-in-Retired-clause-leads g c =
    subst (λ led. OnRetired (WhereTold (Leads Gocryptfs second_root third_root) (g.F.Folder.told c.args.folder.now) (g.F.Folder.told c.lead.new.folder)) led) c.in-Retired.is c.in_ok-status.ensures.leads
