use Rattle.std.proofs.Common.{rules, ◌≡◌, ◌∙◌, ap, length, sym}
use Rattle.vaultmove.proofs.Claims.{nothing_asked}
use Rattle.vaultmove.proofs.claiming.claim.Goals as goal

pub returns-then-is_empty-clause-asks : goal.returns-then-is_empty-clause-asks
returns-then-is_empty-clause-asks c =
    let size : length c.row.result.claims.now ≡ 0 = search rules in
    nothing_asked c.args.request.now c.args.folder.now (ap (λ row. length row.claims) (sym c.row.ensures) ∙ size)
