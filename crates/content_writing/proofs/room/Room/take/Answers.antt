use Rattle.std.proofs.Common.{arith, ◌≡◌, ◌≤◌, ◌-◌, sym, subst, Ok, length, min}
use Rattle.std.proofs.Math.Nat.{min-le_left, min-le_right}
use Rattle.content_writing.specs.Content.{coming_from, Gives}
use Rattle.content_writing.proofs.Sourced.{taken}
use Rattle.content_writing.proofs.room.Room.take.Goals as goal

pub returns-clause-gives : goal.returns-clause-gives
returns-clause-gives g c =
    let most : c.min-most.result ≡ min c.args.most c.args.self.now.bytes = c.min-most.ensures in
    let small : c.in_ok-count.count ≤ c.args.self.now.bytes = omega (arith, c.in_ok-count.ensures.within, most, min-le_right c.args.most c.args.self.now.bytes) in
    let fits : c.in_ok-count.count ≤ length c.take_front.new.out = omega (arith, c.in_ok-count.ensures.within, most, min-le_left c.args.most c.args.self.now.bytes, c.requires.most, c.in_ok-count.ensures.size) in
    subst (λ b. Gives (Ok c.in_ok-count.count) c.take_front.new.out (coming_from c.args.self.now.bytes b (g.I.Source.left c.args.source.now)) (coming_from (c.args.self.now.bytes - c.in_ok-count.count) b (g.I.Source.left c.take_front.new.source))) (sym c.if-self.false)
    (taken c.args.self.now.bytes c.in_ok-count.count c.take_front.new.out (g.I.Source.left c.args.source.now) (g.I.Source.left c.take_front.new.source) small fits c.in_ok-count.ensures.moved c.in_ok-count.ensures.end)
