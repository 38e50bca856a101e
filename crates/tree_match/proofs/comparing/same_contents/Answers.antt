use Rattle.std.proofs.Common.{◌∙◌, sym, ap, ap₂, subst}
use Rattle.folder_spec.specs.View.{Found}
use Rattle.vault_spec.specs.Vault.{format_of}
use Rattle.vault_read.specs.Contents.{limited_reading}
use Rattle.tree_match.specs.Comparing.{Answers, bytes_found, compared, content_of}
use Rattle.tree_match.proofs.comparing.same_contents.Goals as goal

pub returns-clause-compares : goal.returns-clause-compares
returns-clause-compares g c = λ v seen.
    let file_a = c.requires.a_file v seen in
    let file_b = c.requires.b_file v seen in
    let x = file_a.0 in
    let y = file_b.0 in
    let a = c.in_ok-pair.ensures.one in
    let b = c.in_ok-pair.ensures.other in
    let content_a = a.all x ∙ ap (λ (f : Found). content_of c.args.a_at.now (limited_reading (format_of c.args.a.now.vault).content (bytes_found f))) (sym file_a.1) in
    let content_b = b.all y ∙ ap (λ (f : Found). content_of c.args.b_at.now (limited_reading (format_of c.args.b.now.vault).content (bytes_found f))) (sym file_b.1) in
    subst (λ o. Answers o c.compare-same.result) (ap₂ compared content_a content_b) (c.compare-same.ensures.compares v seen x y (ap v a.at ∙ file_a.1) (ap v b.at ∙ file_b.1))
