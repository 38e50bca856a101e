use Rattle.std.proofs.Common.{◌≡◌, ◌∷◌, [], ◌++◌, true, false, cond, refl, sym, ap, ◌∙◌, subst, append-nil}
use Rattle.std.specs.BTreeMap.{is_at}
use Rattle.std.specs.BTreeSet.{contains}
use Rattle.vault_walk.specs.Levels.{HasJoined}
use Rattle.vault_walk.specs.Nodes.{node_cmp}
use Rattle.vault_walk.specs.Walking.{Way}
use Rattle.vault_walk.specs.declared.key.Node.{Node}
use Rattle.vault_walk.proofs.Gains.{known_joined, new_joined, not_is_false, not_is_true}
use Rattle.vault_walk.proofs.Flats.{none_within}
use Rattle.vault_walk.proofs.levels.Walk.wait.Goals as goal

pub returns-in_ok-push : goal.returns-in_ok-push
returns-in_ok-push c =
    let seen = c.args.self.now.seen in
    let after = c.insert.new.self in
    let next = c.args.waiting.now.items in
    let way : Way = record { path = c.args.path.now; dir = c.args.dir } in
    let node_is = c.in_ok-node_of.ensures in
    let later_is : c.push.new.self.items ≡ next ++ way ∷ [] = c.in_ok-push.ensures.items ∙ ap (λ p. next ++ (record { path = p; dir = c.args.dir }) ∷ []) c.in_ok-path.ensures in
    let absent : contains node_cmp seen c.in_ok-node_of.field-0 ≡ false = not_is_true (contains node_cmp seen c.in_ok-node_of.field-0) (sym c.in_ok-insert.ensures.added ∙ c.if-branch.true) in
    record {
      visits_stay = refl;
      found_stay = refl;
      items_are = sym (append-nil c.args.self.now.items.items);
      targets_are = sym (append-nil c.args.self.now.targets.items);
      extra = way ∷ [];
      later_is = later_is;
      from = λ w there. there;
      joins = λ known knows. subst (HasJoined after known next (way ∷ [])) (sym later_is)
          (new_joined seen after known next way (ap (contains node_cmp seen) (sym node_is) ∙ absent)
          (subst (λ k. (q : Node) → contains node_cmp after q ≡ cond (is_at (node_cmp k) q) true (contains node_cmp seen q)) node_is c.in_ok-insert.ensures.updates.0) knows);
    }

pub returns-else-branch : goal.returns-else-branch
returns-else-branch c =
    let seen = c.args.self.now.seen in
    let after = c.insert.new.self in
    let next = c.args.waiting.now.items in
    let way : Way = record { path = c.args.path.now; dir = c.args.dir } in
    let node_is = c.in_ok-node_of.ensures in
    let has : contains node_cmp seen c.in_ok-node_of.field-0 ≡ true = not_is_false (contains node_cmp seen c.in_ok-node_of.field-0) (sym c.in_ok-insert.ensures.added ∙ c.if-branch.false) in
    let same = rw c.if-branch.false at c.in_ok-insert.ensures.unchanged in
    record {
      visits_stay = refl;
      found_stay = refl;
      items_are = sym (append-nil c.args.self.now.items.items);
      targets_are = sym (append-nil c.args.self.now.targets.items);
      extra = [];
      later_is = sym (append-nil next);
      from = λ w there. absurd (none_within w there);
      joins = λ known knows. known_joined seen after known next way same (ap (contains node_cmp seen) (sym node_is) ∙ has) knows;
    }
