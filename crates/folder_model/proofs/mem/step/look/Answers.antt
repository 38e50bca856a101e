use Rattle.std.proofs.Common.{◌∙◌, sym, ap, ap₂, take_all, le_refl, arith, length, take, ◌-◌}
use Rattle.folder_model.specs.Steps.{replay, looked_in}
use Rattle.folder_model.proofs.StepLemmas.{looked_before, none_left}
use Rattle.folder_model.specs.Tables.{names_of}
use Rattle.folder_model.proofs.mem.step.look.Goals as goal

pub loop-left-init : goal.loop-left-init
loop-left-init c = (ap₂ (λ steps p. replay (names_of c.args.base.now) steps p) (take_all (length c.args.steps.now) c.args.steps.now (le_refl (length c.args.steps.now))) c.in_ok-path.ensures, le_refl (length c.args.steps.now))

pub returns-in-Here : goal.returns-in-Here
returns-in-Here c =
    let t = replay (names_of c.args.base.now) (take (c.loop-left.left - 1) c.args.steps.now) in
    sym (c.in_ok-spot.ensures t ∙ ap (looked_in t) c.in-Here.is)
    ∙ sym (looked_before (names_of c.args.base.now) c.args.steps.now c.loop-left.left c.loop-left.path c.index-steps-left.result c.loop-left-test.true c.loop-left.invariant.1 c.index-steps-left.is)
    ∙ c.loop-left.invariant.0

pub loop-left-preserved : goal.loop-left-preserved
loop-left-preserved c =
    let t = replay (names_of c.args.base.now) (take (c.loop-left.left - 1) c.args.steps.now) in (
      sym (c.in_ok-spot.ensures t ∙ ap (looked_in t) c.in-Before.is)
          ∙ sym (looked_before (names_of c.args.base.now) c.args.steps.now c.loop-left.left c.loop-left.path c.index-steps-left.result c.loop-left-test.true c.loop-left.invariant.1 c.index-steps-left.is)
          ∙ c.loop-left.invariant.0,
      omega (arith, c.loop-left.invariant.1),
    )

pub returns : goal.returns
returns c =
    c.spot.ensures ∙ sym (none_left (names_of c.args.base.now) c.args.steps.now c.loop-left.left c.loop-left.path c.loop-left-test.false) ∙ c.loop-left.invariant.0
