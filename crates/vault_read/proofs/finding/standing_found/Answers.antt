use Rattle.std.proofs.Common.{◌∷◌, ◌+◌, ◌∙◌, sym, ap, subst, drop}
use Rattle.std.proofs.lemmas.List.{drop_more}
use Rattle.std.proofs.lemmas.Result.{err_from_is_err_and}
use Rattle.folder_spec.specs.Seen.{IsSeen, under}
use Rattle.vault_spec.specs.Standing.{Standing}
use Rattle.vault_spec.specs.Vault.{format_of}
use Rattle.vault_read.specs.Finding.{Refuses, reached_from}
use Rattle.vault_read.specs.Stands.{standing_of}
use Rattle.vault_read.proofs.finding.standing_found.Goals as goal

pub returns-in_err-next-clause-fault : goal.returns-in_err-next-clause-fault
returns-in_err-next-clause-fault g c =
    let p = err_from_is_err_and c.from_residual-in_err-next.result c.from_residual-in_err-next.ensures.1 in
    let names = c.names-name-items.result.now in
    let i = c.loop-name.name-index in
    let here = standing_of c.loop-name.here in
    rw (p.1, p.2)
    (λ v is.
    subst (λ x. Refuses {T = Standing} c.args.vault.now.root x c.in_err-next.field-0.0)
    (sym (c.loop-name.invariant.3 v is
    ∙ ap (reached_from (format_of c.args.vault.now.vault) (under c.args.vault.now.root v) c.loop-name.front here)
    (drop_more names i c.name-item.result c.loop-name-test.true ∙ ap (λ name. name ∷ drop (i + 1) names) (sym c.name-item.is))))
    (c.in_err-next.ensures.fault v (subst (λ t. IsSeen t v) (sym c.loop-name.invariant.0) is) (drop (i + 1) names)))
