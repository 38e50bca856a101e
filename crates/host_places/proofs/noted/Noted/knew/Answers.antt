use Rattle.std.proofs.Common.{sym, ◌∙◌, subst, IsTrue}
use Rattle.folder_spec.proofs.Paths.{path_eq-Decides}
use Rattle.host_places.specs.Noted.{has}
use Rattle.host_places.proofs.Dirs.{among}
use Rattle.host_places.proofs.noted.Noted.knew.Goals as goal

pub returns-then-is : goal.returns-then-is
returns-then-is c = λ _.
    subst (λ dirs. IsTrue (has dirs.known c.args.dir.now)) c.self.view_is
    (among (λ dir. IsTrue (has c.self.inside.known.keys dir)) _ _ c.loop-known.known-index c.known-item.result c.args.dir.now c.as_slice-known-items.ensures.value c.loop-known-test.true c.known-item.is
    ((path_eq-Decides c.known-item.result c.args.dir.now).0 (sym c.is.ensures ∙ c.if-is.true)) c.self.invariant.0)
