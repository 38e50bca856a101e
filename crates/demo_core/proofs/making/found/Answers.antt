use Rattle.std.proofs.Common.{refl, sym, arith}
use Rattle.cryptomator_conf.specs.declared.conf.Combo.TheVariants.{SivGcm}
use Rattle.vault_write.specs.Founding.{new_go, new_cm}
use Rattle.demo_core.proofs.Standing.{stands_by}
use Rattle.demo_core.proofs.Beside.{founded_beside}
use Rattle.demo_core.proofs.Drawn.{cm_drew, go_drew}
use Rattle.demo_core.proofs.Chances.{cm_chance, go_chance}
use Rattle.demo_core.proofs.Filling.{chance_own}
use Rattle.std.proofs.lemmas.Result.{IfErr-weaker}
use Rattle.kdf_suite.specs.ScryptCost.{IsCost}
use Rattle.demo_core.specs.Making.{cost}
use Rattle.demo_core.proofs.making.found.Goals as goal

cost_is_cost : IsCost cost
cost_is_cost = record { power_of_two = (10, refl); above_one = omega arith; below_limit = omega arith; some_block = omega arith; table_fits = omega arith; some_part = omega arith; few_parts = omega arith; parts_fit = omega arith }

pub unwrap-cost-requires : goal.unwrap-cost-requires
unwrap-cost-requires g c = c.new.ensures.exactly.1 cost_is_cost

pub returns-in-Gocryptfs-clause-stands : goal.returns-in-Gocryptfs-clause-stands
returns-in-Gocryptfs-clause-stands g c =
    let founds = c.init_go.ensures.founds in
    stands_by c.args.kind c.args.work.now c.args.at.now _ (new_go founds.draw) _ _ c.init_go.result c.requires.make.apart c.requires.make.beside
    (g.met.F.Folder.sound c.args.folder.now) (g.met.F.Folder.sound c.init_go.new.folder) (λ v is. (c.requires.free v is).0) (sym c.in-Gocryptfs.is) founds.vault founds.founds.done

pub returns-in-Gocryptfs-clause-beside : goal.returns-in-Gocryptfs-clause-beside
returns-in-Gocryptfs-clause-beside g c =
    let founds = c.init_go.ensures.founds in
    founded_beside c.args.work.now c.args.at.now _ _ _ _ c.init_go.result founds.founds

pub returns-in-Cryptomator-clause-stands : goal.returns-in-Cryptomator-clause-stands
returns-in-Cryptomator-clause-stands g c =
    let founds = c.init_cm.ensures.founds in
    stands_by c.args.kind c.args.work.now c.args.at.now _ (new_cm SivGcm founds.draw) _ _ c.init_cm.result c.requires.make.apart c.requires.make.beside
    (g.met.F.Folder.sound c.args.folder.now) (g.met.F.Folder.sound c.init_cm.new.folder) (λ v is. (c.requires.free v is).0) (sym c.in-Cryptomator.is) founds.vault founds.founds.done

pub returns-in-Cryptomator-clause-beside : goal.returns-in-Cryptomator-clause-beside
returns-in-Cryptomator-clause-beside g c =
    let founds = c.init_cm.ensures.founds in
    founded_beside c.args.work.now c.args.at.now _ _ _ _ c.init_cm.result founds.founds

pub returns-in-Gocryptfs-clause-chance : goal.returns-in-Gocryptfs-clause-chance
returns-in-Gocryptfs-clause-chance g c =
    let founds = c.init_go.ensures.founds in
    go_chance founds.draw founds.key founds.drawn c.init_go.result founds.drew

pub returns-in-Cryptomator-clause-chance : goal.returns-in-Cryptomator-clause-chance
returns-in-Cryptomator-clause-chance g c =
    let founds = c.init_cm.ensures.founds in
    cm_chance founds.draw founds.drawn c.init_cm.result founds.drew

pub returns-in-Gocryptfs-clause-own : goal.returns-in-Gocryptfs-clause-own
returns-in-Gocryptfs-clause-own g c =
    let founds = c.init_go.ensures.founds in
    IfErr-weaker c.init_go.result _ _ chance_own (go_chance founds.draw founds.key founds.drawn c.init_go.result founds.drew)

pub returns-in-Cryptomator-clause-own : goal.returns-in-Cryptomator-clause-own
returns-in-Cryptomator-clause-own g c =
    let founds = c.init_cm.ensures.founds in
    IfErr-weaker c.init_cm.result _ _ chance_own (cm_chance founds.draw founds.drawn c.init_cm.result founds.drew)

pub returns-in-Gocryptfs-clause-drew : goal.returns-in-Gocryptfs-clause-drew
returns-in-Gocryptfs-clause-drew g c =
    let founds = c.init_go.ensures.founds in
    record { drawn = founds.drawn; were_drawn = founds.were_drawn; run = go_drew founds.draw founds.key founds.drawn c.init_go.result founds.sizes founds.drew }

pub returns-in-Cryptomator-clause-drew : goal.returns-in-Cryptomator-clause-drew
returns-in-Cryptomator-clause-drew g c =
    let founds = c.init_cm.ensures.founds in
    record { drawn = founds.drawn; were_drawn = founds.were_drawn; run = cm_drew founds.draw founds.drawn c.init_cm.result founds.drew }
