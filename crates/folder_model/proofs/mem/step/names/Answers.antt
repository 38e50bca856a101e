use Rattle.std.proofs.Common.{◌∙◌, ◌-◌, take, inl, inr, arith}
use Rattle.folder_spec.specs.Path.{child}
use Rattle.folder_spec.proofs.Paths.{one_or_not}
use Rattle.folder_model.specs.Steps.{replay, target}
use Rattle.folder_model.proofs.StepLemmas.{looked_before, none_left}
use Rattle.folder_model.specs.Tables.{names_of}
use Rattle.folder_model.proofs.mem.step.names.Goals as goal

pub loop-left-preserved : goal.loop-left-preserved
loop-left-preserved c =
    let before = replay (names_of c.args.base.now) (take (c.loop-left.left - 1) c.args.steps.now) in (
      λ a stands. elim (c.loop-left.invariant.0 a stands) [
        | inl old ↦ inl (c.in_ok-push_entry.ensures.others a old)
        | inr there ↦ elim (one_or_not (target c.index-steps-left.result) (child c.loop-left.path a)) [
          | inl made ↦ inl (c.in_ok-push_entry.ensures.made a made)
          | inr apart ↦ inr (c.in_ok-path-2.ensures before a apart.0 (λ none. there
              (looked_before (names_of c.args.base.now) c.args.steps.now c.loop-left.left (child c.loop-left.path a) c.index-steps-left.result c.loop-left-test.true c.loop-left.invariant.1 c.index-steps-left.is ∙ none)))
        ]
      ],
      omega (arith, c.loop-left.invariant.1),
    )

pub returns : goal.returns
returns c = λ a stands. elim (c.loop-left.invariant.0 a stands) [
  | inl found ↦ c.in_ok-push_names.ensures.others a found
  | inr there ↦ c.in_ok-push_names.ensures.entries a
      (λ none. there (none_left (names_of c.args.base.now) c.args.steps.now c.loop-left.left (child c.loop-left.path a) c.loop-left-test.false ∙ none))
]
