use Rattle.std.proofs.Common.{Err, inr, refl, subst, sym}
use Rattle.folder_spec.specs.Seen.{IfSeen, ShowsFilePlace}
use Rattle.vault_read.specs.declared.fault.LoadFault.TheVariants as load
use Rattle.passwd_core.specs.declared.fault.PassFault.TheVariants.{NoMemory}
use Rattle.passwd_core.specs.Faults.{of_folder, of_load}
use Rattle.passwd_core.specs.KeyFiles.{HoldsKeys}
use Rattle.passwd_core.specs.Rekeying.{ChangesPass}
use Rattle.passwd_core.proofs.Changed.{BlamesFolder, at_key, blames_since, done, fallen, file_apart, has_set_from, holds_some, set_blames, sets_from, unloaded, unset}
use Rattle.passwd_core.proofs.Drawn.{at_fault}
use Rattle.passwd_core.proofs.Rekeyed.{knows}
use Rattle.passwd_core.proofs.changing.change_file.Goals as goal

pub returns-in_err-at-clause-changes : goal.returns-in_err-at-clause-changes
returns-in_err-at-clause-changes g c =
    let views = c.images_show_views.ensures in
    let roots = c.roots_show_their_own.ensures in
    let s = g.R.Randoms.left c.args.random.now in
    let t = g.F.Folder.told c.args.folder.now in
    at_fault (ChangesPass c.args.work.now c.args.root.now c.args.pass.now c.args.new_pass.now s s t t) c.from_residual.result NoMemory c.from_residual.ensures.1
    (unloaded c.args.work.now c.args.root.now c.args.pass.now c.args.new_pass.now c.requires.apart (record { images = views.images; settled = views.settled; alike = roots.alike; outside = roots.outside })
    s s t t load.NoMemory refl (c.draws_compose.ensures.none s) (λ v is. inr tt))

pub read_keys-requires : goal.read_keys-requires
read_keys-requires g c v is =
    holds_some c.args.root.now v c.args.pass.now c.args.kind c.in_ok-at.at (at_key c.args.root.now c.args.kind c.in_ok-at.at c.key_name.result.now c.in_ok-at.ensures c.key_name.ensures) (c.requires.opens v is)

pub returns-in_err-file-clause-changes : goal.returns-in_err-file-clause-changes
returns-in_err-file-clause-changes g c =
    let views = c.images_show_views.ensures in
    let roots = c.roots_show_their_own.ensures in
    let s = g.R.Randoms.left c.args.random.now in
    let t = g.F.Folder.told c.args.folder.now in
    let t1 = g.F.Folder.told c.read_keys.new.folder in
    at_fault (ChangesPass c.args.work.now c.args.root.now c.args.pass.now c.args.new_pass.now s s t t1) c.from_residual-in_err-file.result (of_load c.in_err-file.field-0.0) c.from_residual-in_err-file.ensures.1
    (unloaded c.args.work.now c.args.root.now c.args.pass.now c.args.new_pass.now c.requires.apart (record { images = views.images; settled = views.settled; alike = roots.alike; outside = roots.outside })
    s s t t1 c.in_err-file.field-0.0 c.in_err-file.ensures.looks.told (c.draws_compose.ensures.none s) (λ v is. inr (c.in_err-file.ensures.fault v is)))

pub returns-in_err-text-clause-changes : goal.returns-in_err-text-clause-changes
returns-in_err-text-clause-changes g c =
    let views = c.images_show_views.ensures in
    let roots = c.roots_show_their_own.ensures in
    let here = at_key c.args.root.now c.args.kind c.in_ok-at.at c.key_name.result.now c.in_ok-at.ensures c.key_name.ensures in
    let s = g.R.Randoms.left c.args.random.now in
    let s1 = g.R.Randoms.left c.rewritten.new.random in
    let t = g.F.Folder.told c.args.folder.now in
    let t1 = g.F.Folder.told c.read_keys.new.folder in
    at_fault (ChangesPass c.args.work.now c.args.root.now c.args.pass.now c.args.new_pass.now s s1 t t1) c.from_residual-in_err-text.result c.in_err-text.field-0.0 c.from_residual-in_err-text.ensures.1
    (unset c.args.work.now c.args.root.now c.args.pass.now c.args.new_pass.now c.requires.apart (record { images = views.images; settled = views.settled; alike = roots.alike; outside = roots.outside })
    c.roots_have_one_answer.ensures c.args.kind c.in_ok-file.file c.in_ok-file.ensures.kind s s1 t
    (λ v is. knows c.args.root.now c.args.pass.now c.key_files_have_one_answer.ensures c.args.kind c.in_ok-file.file v (c.requires.opens v is)
    (subst (λ p. HoldsKeys c.args.kind (v p) c.in_ok-file.file) here (c.in_ok-file.ensures.file v is)))
    t1 c.in_err-text.field-0.0 c.in_ok-file.ensures.looks.told c.in_err-text.ensures.text)

pub set_file-requires-clause-apart : goal.set_file-requires-clause-apart
set_file-requires-clause-apart g c =
    file_apart c.args.work.now c.args.root.now c.args.kind c.in_ok-at.at (at_key c.args.root.now c.args.kind c.in_ok-at.at c.key_name.result.now c.in_ok-at.ensures c.key_name.ensures) c.requires.apart

pub returns-in_err-set_file-clause-changes : goal.returns-in_err-set_file-clause-changes
returns-in_err-set_file-clause-changes g c =
    let views = c.images_show_views.ensures in
    let roots = c.roots_show_their_own.ensures in
    let here = at_key c.args.root.now c.args.kind c.in_ok-at.at c.key_name.result.now c.in_ok-at.ensures c.key_name.ensures in
    let s = g.R.Randoms.left c.args.random.now in
    let s1 = g.R.Randoms.left c.rewritten.new.random in
    let t = g.F.Folder.told c.args.folder.now in
    let t1 = g.F.Folder.told c.read_keys.new.folder in
    let t2 = g.F.Folder.told c.set_file.new.folder in
    at_fault (ChangesPass c.args.work.now c.args.root.now c.args.pass.now c.args.new_pass.now s s1 t t2) c.from_residual-in_err-set_file.result (of_folder c.in_err-set_file.field-0.0) c.from_residual-in_err-set_file.ensures.1
    (fallen c.args.work.now c.args.root.now c.args.pass.now c.args.new_pass.now c.requires.apart (record { images = views.images; settled = views.settled; alike = roots.alike; outside = roots.outside })
    c.roots_have_one_answer.ensures c.args.kind c.in_ok-file.file c.in_ok-file.ensures.kind s s1 t
    (λ v is. knows c.args.root.now c.args.pass.now c.key_files_have_one_answer.ensures c.args.kind c.in_ok-file.file v (c.requires.opens v is)
    (subst (λ p. HoldsKeys c.args.kind (v p) c.in_ok-file.file) here (c.in_ok-file.ensures.file v is)))
    t2 (g.met.F.Folder.sound c.args.folder.now) c.in_ok-text.text c.in_ok-text.ensures.text
    (sets_from c.args.work.now c.args.root.now c.args.kind c.in_ok-at.at here c.in_ok-text.text c.as_slice.result.now c.as_slice.ensures t t1 t2 c.in_ok-file.ensures.looks.told c.in_err-set_file.ensures.moments)
    c.in_err-set_file.field-0.0)

pub returns-in_err-set_file-clause-folder : goal.returns-in_err-set_file-clause-folder
returns-in_err-set_file-clause-folder g c =
    let n = g.F.Folder.faults c.args.folder.now in
    let n1 = g.F.Folder.faults c.read_keys.new.folder in
    let n2 = g.F.Folder.faults c.set_file.new.folder in
    let t1 = g.F.Folder.told c.read_keys.new.folder in
    at_fault (BlamesFolder n n2) c.from_residual-in_err-set_file.result (of_folder c.in_err-set_file.field-0.0) c.from_residual-in_err-set_file.ensures.1
    (blames_since (Err (of_folder c.in_err-set_file.field-0.0)) n n1 n2 c.in_ok-file.ensures.looks.blames.grows
    (set_blames t1 c.in_ok-at.at n1 n2 c.in_err-set_file.field-0.0
    (subst (λ t. IfSeen t (λ v. ShowsFilePlace v c.in_ok-at.at)) (sym c.in_ok-file.ensures.looks.told) (λ v is. (let holds = c.in_ok-file.ensures.file v is in inr (holds.0, holds.1.0))))
    c.in_err-set_file.ensures.answer c.in_err-set_file.ensures.blames))

pub returns-clause-changes : goal.returns-clause-changes
returns-clause-changes g c =
    let views = c.images_show_views.ensures in
    let roots = c.roots_show_their_own.ensures in
    let here = at_key c.args.root.now c.args.kind c.in_ok-at.at c.key_name.result.now c.in_ok-at.ensures c.key_name.ensures in
    let s = g.R.Randoms.left c.args.random.now in
    let s1 = g.R.Randoms.left c.rewritten.new.random in
    let t = g.F.Folder.told c.args.folder.now in
    let t1 = g.F.Folder.told c.read_keys.new.folder in
    let t2 = g.F.Folder.told c.set_file.new.folder in
    done c.args.work.now c.args.root.now c.args.pass.now c.args.new_pass.now c.requires.apart (record { images = views.images; settled = views.settled; alike = roots.alike; outside = roots.outside })
    c.roots_have_one_answer.ensures c.args.kind c.in_ok-file.file c.in_ok-file.ensures.kind s s1 t
    (λ v is. knows c.args.root.now c.args.pass.now c.key_files_have_one_answer.ensures c.args.kind c.in_ok-file.file v (c.requires.opens v is)
    (subst (λ p. HoldsKeys c.args.kind (v p) c.in_ok-file.file) here (c.in_ok-file.ensures.file v is)))
    t2 (g.met.F.Folder.sound c.args.folder.now) c.in_ok-text.text c.in_ok-text.ensures.text
    (sets_from c.args.work.now c.args.root.now c.args.kind c.in_ok-at.at here c.in_ok-text.text c.as_slice.result.now c.as_slice.ensures t t1 t2 c.in_ok-file.ensures.looks.told c.in_ok-set_file.ensures.moments)
    (has_set_from c.args.work.now c.args.root.now c.args.kind c.in_ok-at.at here c.in_ok-text.text c.as_slice.result.now c.as_slice.ensures t t1 t2 c.in_ok-file.ensures.looks.told c.in_ok-set_file.ensures.set)
