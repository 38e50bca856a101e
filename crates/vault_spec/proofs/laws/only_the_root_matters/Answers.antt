use Rattle.std.proofs.Common.{ap}
use mathlib.Core.Path.{fun_ext}
use Rattle.vault_spec.specs.Opens.{tree}
use Rattle.vault_spec.specs.Standing.{standing}
use Rattle.vault_spec.proofs.laws.only_the_root_matters.Goals as goal

pub returns : goal.returns
returns c = record {
  tree = λ f root v w same. ap (tree f) (fun_ext same);
  places = λ f root v w same path. ap (λ x. standing f x path) (fun_ext same);
}
