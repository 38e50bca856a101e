use Rattle.vault_walk.proofs.Gains.{members_more}
use Rattle.vault_walk.proofs.levels.Walk.add_members.Goals as goal

pub loop-member-preserved : goal.loop-member-preserved
loop-member-preserved c =
    members_more c.args.self.now c.loop-member.self c.add_member.new.self c.args.path.now c.loop-member.yielded c.in-Some.member c.args.next.now.items c.loop-member.next.items c.add_member.new.next.items
    c.loop-member.invariant c.in_ok-add_member.ensures
