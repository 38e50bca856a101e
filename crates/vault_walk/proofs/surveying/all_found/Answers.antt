use Rattle.std.proofs.Common.{◌≡◌, ◌++◌, sym, ap, ◌∙◌, subst}
use Rattle.std.specs.Prelude.{Contains}
use Rattle.folder_spec.specs.Seen.{under}
use Rattle.vault_spec.specs.Vault.{format_of}
use Rattle.vault_walk.proofs.Founds.{one_found}
use Rattle.vault_walk.proofs.Surveys.{all_told, folders_are, targets_are}
use Rattle.vault_walk.proofs.Walks.{lead_through}
use Rattle.vault_walk.proofs.surveying.all_found.Goals as goal

pub in_order-requires : goal.in_order-requires
in_order-requires g c = record { exact = one_found }

pub returns-clause-found : goal.returns-clause-found
returns-clause-found g c v is met x =
    let f = format_of c.args.vault.now.vault in
    let w = under c.args.vault.now.root v in
    let behind = c.what_stands_is_found_step_by_step.ensures.behind in
    let through = lead_through c.what_stands_is_found_step_by_step.ensures.below in
    let visits = c.args.visits.now in
    let apart = c.in_ok-apart.apart.items in
    let twice = c.in_ok-twice.twice.items in
    let apart_are = c.in_ok-apart.ensures.found v is (folders_are behind through f w visits c.in_ok-reached.reached met.visits_are c.in_ok-reached.ensures) in
    let twice_are = c.in_ok-twice.ensures.twice f w (targets_are behind through f w visits c.args.targets.items met.visits_are met.targets_are) in
    let whole : c.append-2.new.self.items ≡ (c.args.found.items ++ apart) ++ twice = c.in_ok-append-2.ensures.items ∙ ap (λ xs. xs ++ twice) c.in_ok-append.ensures.items in
    let all = all_told behind through f w visits c.args.found.items apart twice c.args.targets.items met apart_are twice_are x in
    let same = c.in_order.ensures.same x in (
      λ there. all.0 (subst (λ xs. Contains xs x) whole (same.0 there)),
      λ told. same.1 (subst (λ xs. Contains xs x) (sym whole) (all.1 told)),
    )
