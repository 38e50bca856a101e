use Rattle.std.proofs.Common.{ap, subst}
use Rattle.vault_walk.specs.Levels.{HasGainedMembers, HasSettled, HasVisited}
use Rattle.vault_walk.specs.Walking.{Way}
use Rattle.vault_walk.proofs.Gains.{on_more}
use Rattle.vault_walk.proofs.levels.Walk.keep.Goals as goal

pub returns : goal.returns
returns c =
    on_more c.settle.result {P = HasSettled c.add_members.new.self c.settle.new.self c.args.way c.args.report.found.items}
    {Q = HasVisited c.args.self.now c.settle.new.self c.args.way c.args.report c.args.next.now.items c.add_members.new.next.items}
    (λ settled. record {
      between = c.add_members.new.self;
      gained = subst (λ p. HasGainedMembers c.args.self.now c.add_members.new.self p c.args.report.members.items c.args.next.now.items c.add_members.new.next.items) (ap (λ (w : Way). w.path) c.way.view_is) c.in_ok-add_members.ensures;
      settled = settled;
    })
    c.settle.ensures
