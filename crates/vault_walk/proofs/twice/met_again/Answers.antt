use Rattle.std.proofs.Common.{◌∷◌, [], ◌++◌, sym, ap, ◌∙◌, subst, take}
use Rattle.std.proofs.lemmas.List.{take_more}
use Rattle.vault_walk.specs.Apart.{IsMet, IsMetAgain}
use Rattle.vault_walk.specs.declared.twice.Target.{Target}
use Rattle.vault_walk.proofs.Shared.{Holds, more_again, more_met}
use Rattle.vault_walk.proofs.twice.met_again.Goals as goal

pub loop-target-preserved : goal.loop-target-preserved
loop-target-preserved c =
    let targets = c.args.targets.now in
    let i = c.loop-target.target-index in
    let t : Target = c.target-item.result in
    let more = sym (take_more targets i t c.loop-target-test.true ∙ ap (λ x. take i targets ++ x ∷ []) (sym c.target-item.is)) in
    record {
      met = subst (λ ts. Holds c.meet.new.once (IsMet ts)) more (more_met (take i targets) t c.loop-target.once c.meet.new.once c.loop-target.invariant.met c.in_ok-meet.ensures.met);
      again = subst (λ ts. Holds c.meet.new.again (IsMetAgain ts)) more
          (more_again (take i targets) t c.loop-target.once c.loop-target.again c.meet.new.again c.loop-target.invariant.met c.loop-target.invariant.again c.in_ok-meet.ensures.again);
    }
