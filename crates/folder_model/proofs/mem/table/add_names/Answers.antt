use Rattle.std.proofs.Common.{◌∙◌, sym, subst, Contains, inl, inr}
use Rattle.folder_spec.specs.Path.{child}
use Rattle.folder_model.proofs.NameTables.{key_there, contains_cases, none_contained}
use Rattle.folder_model.proofs.mem.table.add_names.Goals as goal

pub loop-path-init : goal.loop-path-init
loop-path-init c = (
  λ a before. before,
  λ a stands. inr (subst (λ keys. Contains keys (child c.args.at.now a)) (sym (c.into_iter-path-iterator.ensures.into_iter_gives ∙ c.keys-path-items.ensures.rest))
      (key_there c.args.spots.now (child c.args.at.now a) stands)),
)

pub loop-path-preserved : goal.loop-path-preserved
loop-path-preserved c = (
  λ a before. c.in_ok-add_name.ensures.others a (c.loop-path.invariant.0 a before),
  λ a stands. elim (c.loop-path.invariant.1 a stands) [
    | inl found ↦ inl (c.in_ok-add_name.ensures.others a found)
    | inr among ↦ elim (contains_cases c.next.new.self c.in-Some.path.now (child c.args.at.now a) (subst (λ paths. Contains paths (child c.args.at.now a)) c.in-Some.ensures.steps among)) [
      | inl here ↦ inl (c.in_ok-add_name.ensures.made a here)
      | inr more ↦ inr more
    ]
  ],
)

pub returns : goal.returns
returns c = record {
  others = c.loop-path.invariant.0;
  entries = λ a stands. elim (c.loop-path.invariant.1 a stands) [
    | inl found ↦ found
    | inr among ↦ absurd (none_contained (child c.args.at.now a) (subst (λ paths. Contains paths (child c.args.at.now a)) c.in-None.ensures.steps.0 among))
  ];
}
