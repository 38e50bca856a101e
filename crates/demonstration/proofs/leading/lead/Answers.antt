use Rattle.std.proofs.Common.{refl, subst}
use Rattle.std.specs.Io.KnownBytes.{Appends}
use Rattle.std.proofs.lemmas.Result.{err_from_is_err_and}
use Rattle.demonstration.specs.Demo.{moved_text}
use Rattle.demonstration.specs.declared.leading.Led.TheVariants.{Retired}
use Rattle.demonstration.proofs.Demonstrations.{led_stopped, nothing_yet, some_led, whole_front}
use Rattle.demonstration.proofs.Legs.{leg_leads}
use Rattle.demonstration.proofs.Steps.{leg_goes}
use Rattle.demonstration.proofs.leading.lead.Goals as goal

pub returns-in_err-status-clause-prints : goal.returns-in_err-status-clause-prints
returns-in_err-status-clause-prints g c count =
    let p = err_from_is_err_and c.from_residual.result c.from_residual.ensures.1 in
    led_stopped _ count c.args.leg c.from_residual.result p.0 _ _ p.1 (Retired count, (λ known. refl), nothing_yet _ (moved_text c.args.leg 0))

pub returns-in_err-tell_moved-clause-prints : goal.returns-in_err-tell_moved-clause-prints
returns-in_err-tell_moved-clause-prints g c count =
    let p = err_from_is_err_and c.from_residual-in_err-tell_moved.result c.from_residual-in_err-tell_moved.ensures.1 in
    led_stopped _ count c.args.leg c.from_residual-in_err-tell_moved.result p.0 _ _ p.1 (some_led _ count c.args.leg c.in_ok-status.status _ _ (c.in_ok-status.ensures.status count) c.in_err-tell_moved.ensures.prints)

pub returns-in_err-retire_source-clause-prints : goal.returns-in_err-retire_source-clause-prints
returns-in_err-retire_source-clause-prints g c count =
    let taken = g.O.Sink.taken c.args.out.now in
    let last = g.O.Sink.taken c.tell_moved.new.out in
    let p = err_from_is_err_and c.from_residual-in_err-retire_source.result c.from_residual-in_err-retire_source.ensures.1 in
    led_stopped _ count c.args.leg c.from_residual-in_err-retire_source.result p.0 taken last p.1
    (Retired count, (λ known. refl), whole_front taken last (moved_text c.args.leg 0) (subst (λ status. Appends taken last (moved_text c.args.leg status)) c.if-status-ne0.false c.in_ok-tell_moved.ensures.prints))

pub returns-clause-leads : goal.returns-clause-leads
returns-clause-leads g c =
    leg_leads c.args.leg c.in_ok-retire_source.field-0 (g.F.Folder.told c.args.folder.now) (g.F.Folder.told c.move_to.new.folder) (g.F.Folder.told c.retire_source.new.folder)
    (c.in_ok-status.ensures.carries c.if-status-ne0.false) c.in_ok-retire_source.ensures.leaves

pub returns-clause-prints : goal.returns-clause-prints
returns-clause-prints g c count = (
  (λ sees. c.in_ok-retire_source.ensures.items count (c.in_ok-status.ensures.carried c.if-status-ne0.false count sees)),
  subst (λ status. Appends (g.O.Sink.taken c.args.out.now) (g.O.Sink.taken c.tell_moved.new.out) (moved_text c.args.leg status)) c.if-status-ne0.false c.in_ok-tell_moved.ensures.prints,
)

pub returns-clause-goes : goal.returns-clause-goes
returns-clause-goes g c count sees =
    leg_goes c.args.leg count c.in_ok-retire_source.field-0 (g.F.Folder.told c.args.folder.now) (g.F.Folder.told c.move_to.new.folder) (g.F.Folder.told c.retire_source.new.folder) c.move_to.ensures.goes
    (c.in_ok-status.ensures.carried c.if-status-ne0.false count sees) c.in_ok-retire_source.ensures.leaves
