use Rattle.std.proofs.Common.{◌≡◌, ◌≢◌, ◌<◌, [], IfErr, length, refl, rules, sym, subst}
use Rattle.folder_spec.specs.Event.{FromTo}
use Rattle.vault_spec.specs.Vault.{format_of}
use Rattle.vault_check.specs.Repairing.{HasMadeAll, StopsIn, repair_calls}
use Rattle.vault_check.proofs.MadeCalls.{all_none, none_by_size, some_by_size, some_strays}
use Rattle.vault_check.proofs.Repaired.{all_movable, all_of_some, is_free, repaired_all, repaired_none, repairs_by, repairs_none}
use Rattle.vault_check.proofs.repairing.move_strays.Goals as goal

pub move_all-requires : goal.move_all-requires
move_all-requires g c =
    let root = c.args.vault.now.root in
    let lost = c.args.lost.now in
    let f = format_of c.args.vault.now.vault in
    let t0 = g.F.Folder.told c.args.folder.now in
    let alone = c.strays_go_alone.ensures c.args.vault.now.vault in
    record {
      free = is_free root lost f c.args.strays.now t0 c.requires.strays alone c.requires.place t0 refl;
      strays = all_movable root lost f c.args.strays.now t0 c.requires.strays alone c.requires.place t0 refl;
    }

pub returns-then-is_empty-clause-moments : goal.returns-then-is_empty-clause-moments
returns-then-is_empty-clause-moments g c =
    let t0 = g.F.Folder.told c.args.folder.now in repairs_none c.args.vault.now.root c.args.lost.now (format_of c.args.vault.now.vault) t0 t0 refl

pub returns-then-is_empty-clause-moved : goal.returns-then-is_empty-clause-moved
returns-then-is_empty-clause-moved g c =
    let size : length c.args.strays.now ≡ 0 = search rules in
    let none : c.args.strays.now ≡ [] = none_by_size c.args.strays.now size in
    repaired_none c.args.vault.now.root c.args.lost.now (format_of c.args.vault.now.vault) c.args.strays.now (g.F.Folder.told c.args.folder.now) c.requires.strays none

pub returns-then-is_empty-clause-all : goal.returns-then-is_empty-clause-all
returns-then-is_empty-clause-all g c =
    let size : length c.args.strays.now ≡ 0 = search rules in
    let none : c.args.strays.now ≡ [] = none_by_size c.args.strays.now size in
    let t0 = g.F.Folder.told c.args.folder.now in
    subst (λ paths. FromTo (HasMadeAll (repair_calls c.args.lost.now paths)) t0 t0) (sym none) (all_none t0)

pub returns-clause-moments : goal.returns-clause-moments
returns-clause-moments g c =
    let t0 = g.F.Folder.told c.args.folder.now in
    repairs_by c.args.vault.now.root c.args.lost.now (format_of c.args.vault.now.vault) c.args.strays.now t0 c.requires.strays t0 (g.F.Folder.told c.move_all.new.folder) refl
    c.move_all.ensures.moments

pub returns-clause-moved : goal.returns-clause-moved
returns-clause-moved g c =
    let size : 0 < length c.args.strays.now = search rules in
    let some : c.args.strays.now ≢ [] = some_by_size c.args.strays.now size in
    repaired_all c.args.vault.now.root c.args.lost.now (format_of c.args.vault.now.vault) c.args.strays.now (g.F.Folder.told c.args.folder.now) c.requires.strays some
    (g.F.Folder.told c.move_all.new.folder) c.move_all.result c.move_all.ensures.moments c.move_all.ensures.moved

pub returns-clause-stops : goal.returns-clause-stops
returns-clause-stops g c =
    let size : 0 < length c.args.strays.now = search rules in
    let some : c.args.strays.now ≢ [] = some_by_size c.args.strays.now size in
    subst (λ calls. IfErr c.move_all.result (λ _. FromTo (StopsIn calls) (g.F.Folder.told c.args.folder.now) (g.F.Folder.told c.move_all.new.folder)))
    (some_strays c.args.lost.now c.args.strays.now some) c.move_all.ensures.stops

pub returns-clause-all : goal.returns-clause-all
returns-clause-all g c =
    let size : 0 < length c.args.strays.now = search rules in
    let some : c.args.strays.now ≢ [] = some_by_size c.args.strays.now size in
    all_of_some c.args.lost.now c.args.strays.now (g.F.Folder.told c.args.folder.now) (g.F.Folder.told c.move_all.new.folder) c.move_all.result some c.move_all.ensures.moved
