use Rattle.std.proofs.Common.{◌∙◌, option_copied, sym, ap, subst}
use Rattle.folder_spec.specs.Seen.{ShowsFile}
use Rattle.vault_spec.specs.Plan.{Planned}
use Rattle.tree_match.proofs.matching.difference.Goals as goal

pub same_contents-requires-clause-b_file : goal.same_contents-requires-clause-b_file
same_contents-requires-clause-b_file g c = λ v seen.
    let is_file = ap (λ (x : Planned). x.node) (sym c.other.view_is) ∙ c.in-File-File.is-1 in
    subst (λ (x : Planned). ShowsFile v x.at) (sym c.other.view_is) (c.requires.other v seen c.in-Some.other.now (ap option_copied c.in-Some.is) is_file)
