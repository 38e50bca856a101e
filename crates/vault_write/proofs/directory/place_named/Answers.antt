use Rattle.std.proofs.Common.{[], arith}
use Rattle.item_making.specs.Ending.{Whole}
use Rattle.vault_spec.specs.Making.{NewDirectory}
use Rattle.vault_write.specs.Calls.{New}
use Rattle.vault_write.specs.Slots.{placing}
use Rattle.vault_write.proofs.DirectoryPlaced.{drawn_none, refused_one}
use Rattle.vault_write.proofs.Exits.{place_drew}
use Rattle.vault_write.proofs.Keeping.{kept_on}
use Rattle.vault_write.proofs.Filing.{no_zeros_in_none}
use Rattle.vault_spec.specs.Vault.{format_of}
use Rattle.vault_write.proofs.directory.place_named.Goals as goal

pub returns-in_err-here-clause-made : goal.returns-in_err-here-clause-made
returns-in_err-here-clause-made g c =
    refused_one (placing c.args.vault.now c.args.work.now c.args.front.now c.args.name.now NewDirectory) [] (g.R.Randoms.left c.args.random.now) (g.R.Randoms.left c.args.random.now) (g.F.Folder.told c.args.folder.now) (g.F.Folder.told c.kept_or_entered.new.folder) c.in_err-here.field-0.0 c.from_residual.result (drawn_none (g.R.Randoms.left c.args.random.now)) (omega arith) (place_drew c.in_err-here.field-0.0 c.in_err-here.ensures.kind) (λ other. no_zeros_in_none (format_of c.args.vault.now.vault).content) c.kept_or_entered.ensures.told
    (c.in_err-here.ensures.refused c.args.name.now NewDirectory c.args.work.now Whole) c.from_residual.ensures.1

pub place_under-result-requires-clause-dir : goal.place_under-result-requires-clause-dir
place_under-result-requires-clause-dir g c = rw c.kept_or_entered.ensures.told c.in_ok-here.ensures.place

pub returns-clause-kept : goal.returns-clause-kept
returns-clause-kept g c =
    let made = c.place_under-result.ensures.made in
    kept_on New (placing c.args.vault.now c.args.work.now c.args.front.now c.args.name.now NewDirectory) Whole made.drawn
    (g.F.Folder.told c.kept_or_entered.new.folder) (g.F.Folder.told c.place_under-result.new.folder) c.in_ok-here.here c.place_under-result.result made.one
    c.in_ok-here.ensures.key c.in_ok-here.ensures.path (rw c.kept_or_entered.ensures.told c.in_ok-here.ensures.place)
