use Rattle.std.proofs.Common.{◌≡◌, sym, ◌∙◌, ap, ◌-◌, subst, IsTrue}
use Rattle.folder_spec.specs.Path.{parent}
use Rattle.host_places.specs.Noted.{has}
use Rattle.host_places.specs.Places.{names_entries}
use Rattle.host_places.proofs.Dirs.{above_begins, among}
use Rattle.host_places.proofs.noted.Noted.knew_above.Goals as goal

pub returns-then-starts_with : goal.returns-then-starts_with
returns-then-starts_with c =
    let deep : _ = ap (λ n. n - 1) (sym c.depth.ensures) ∙ sym c.saturating_sub-depth.ensures ∙ sym c.if-depth.true ∙ c.depth-in-loop-dir.ensures in
    let above : c.dir-item.result ≡ parent c.args.at.now = sym (above_begins c.dir-item.result c.args.at.now (sym c.starts_with.ensures ∙ c.if-starts_with.true) deep) in
    record {
      known = λ _.
          subst (λ dirs. IsTrue (has dirs.known (parent c.args.at.now))) c.self.view_is
          (among (λ dir. IsTrue (has c.self.inside.known.keys dir)) _ _ c.loop-dir.dir-index c.dir-item.result _ c.as_slice-dir-items.ensures.value c.loop-dir-test.true c.dir-item.is above c.self.invariant.0);
      named = λ _.
          among (λ dir. IsTrue (names_entries dir)) _ _ c.loop-dir.dir-index c.dir-item.result _ c.as_slice-dir-items.ensures.value c.loop-dir-test.true c.dir-item.is above c.self.invariant.1;
    }
