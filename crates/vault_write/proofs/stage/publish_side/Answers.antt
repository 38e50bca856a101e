use Rattle.std.proofs.Common.{◌∙◌}
use Rattle.vault_write.proofs.Directories.{side_adds}
use Rattle.vault_write.proofs.stage.publish_side.Goals as goal

pub returns-in-Some-clause-made : goal.returns-in-Some-clause-made
returns-in-Some-clause-made g c = λ held.
    side_adds held c.args.work.now c.args.at.now c.args.wants c.args.full.now c.in-Some.text c.as_bytes.result.now (g.F.Folder.told c.args.folder.now) (g.F.Folder.told c.publish_bytes.new.folder)
    c.publish_bytes.result c.if-not-wants.false c.in-Some.is (c.as_bytes.ensures.value ∙ c.as_str.ensures) (c.publish_bytes.ensures.made held)
