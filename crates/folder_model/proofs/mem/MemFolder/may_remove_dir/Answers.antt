-- No name of an entry is left out.
use Rattle.std.proofs.Common.{rules, arith, ◌≡◌, ◌≢◌, ◌∙◌, [], sym, ap, length, inl, inr}
use Rattle.folder_spec.specs.declared.Spot.TheVariants.{Nothing, Directory}
use Rattle.folder_spec.specs.Path.{Part, child}
use Rattle.folder_spec.specs.State.{present}
use Rattle.folder_model.specs.Memory.{state_of}
use Rattle.folder_model.proofs.StepLemmas.{stands_or_not, of_named}
use Rattle.folder_model.proofs.States.{present_is}
use Rattle.folder_model.specs.Tables.{names_of}
use Rattle.folder_model.proofs.mem.MemFolder.may_remove_dir.Goals as goal

pub returns : goal.returns
returns c =
    let self = c.args.self.now in
    let t = present (state_of self) in
    let not_base : c.args.at.now ≢ [] = λ e. c.if-depth-eq0.false (c.depth.ensures ∙ ap length e) in
    let directory : t c.args.at.now ≡ Directory = sym c.in_ok-spot.ensures ∙ c.in-Directory.is in
    let empty : (a : Part) → t (child c.args.at.now a) ≡ Nothing = λ a. elim (stands_or_not (t (child c.args.at.now a))) [
      | inl none ↦ none
      | inr stands ↦ of_named (λ name. t (child c.args.at.now name) ≡ Nothing) c.deref-name-items.result.now a
          (λ k d fits. c.loop-name.invariant k d (omega (arith, fits, c.loop-name-test.false)))
          (rw c.deref-name-items.ensures.value (c.in_ok-found.ensures a
          (λ none. stands (ap (λ u. u (child c.args.at.now a)) (present_is self.nodes.items (names_of self.base) self.steps.items self.kept) ∙ rw c.as_slice.ensures.value at none))))
    ] in
    ((λ _. (not_base, (directory, empty))), λ _. search rules)
