use Rattle.std.proofs.Common.{inl, sym, subst}
use Rattle.content_writing.specs.Content.{still_coming}
use Rattle.vault_write.specs.Filing.{StagesEntry}
use Rattle.vault_write.proofs.Filing.{stages_alone}
use Rattle.vault_write.proofs.file.stage_entry.Goals as goal

pub write_content-requires-clause-stage : goal.write_content-requires-clause-stage
write_content-requires-clause-stage g c = record { below_base = c.requires.below_base; place = λ v is. inl (c.requires.free v is) }

pub returns-in-None-clause-staged : goal.returns-in-None-clause-staged
returns-in-None-clause-staged g c =
    let coming = (still_coming (g.C.Content.reads c.args.content.now) (g.F.Folder.told c.args.folder.now) (g.C.Content.coming c.args.content.now)) in
    let left = (still_coming (g.C.Content.reads c.args.content.now) (g.F.Folder.told c.args.folder.now) (g.C.Content.coming c.write_content.new.content)) in
    let stream = g.R.Randoms.left c.args.random.now in
    let stream' = g.R.Randoms.left c.write_content.new.random in
    let before = g.F.Folder.told c.args.folder.now in
    let after = g.F.Folder.told c.write_content.new.folder in
    subst (λ o. StagesEntry c.args.keys o c.args.staged.now coming left stream stream' before after c.write_content.result) (sym c.in-None.is)
    (stages_alone c.args.keys c.args.staged.now coming left stream stream' before after c.write_content.result (g.met.F.Folder.sound c.write_content.new.folder) c.write_content.ensures.written)
