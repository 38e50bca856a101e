use Rattle.std.proofs.Common.{◌≡◌, ◌≢◌, ◌∙◌, Err, None, ap, refl}
use Rattle.item_making.specs.declared.fault.PutFault.TheVariants.{ZeroRandom}
use Rattle.demo_core.specs.declared.fault.MakeFault.TheVariants.{Put}
use Rattle.demo_core.proofs.Drawn.{drew_for}
use Rattle.demo_core.proofs.Shared.{goes_beside, goes_nowhere}
use Rattle.demonstration.specs.DemoTrees.{first_root}
use Rattle.demonstration.proofs.DemoDraws.{drew_none, drew_some}
use Rattle.demonstration.proofs.Legs.{items_made}
use Rattle.demonstration.proofs.Steps.{bare_told, can_make_first, first_stands}
use Rattle.demonstration.proofs.demonstrating.make_items.Goals as goal

pub returns-in_err-root-clause-drew : goal.returns-in_err-root-clause-drew
returns-in_err-root-clause-drew g c = drew_none c.draws_compose.ensures.none (g.R.Randoms.left c.args.random.now)

pub returns-in-Ok-clause-drew : goal.returns-in-Ok-clause-drew
returns-in-Ok-clause-drew g c = drew_some _ (g.R.Randoms.left c.args.random.now) (g.R.Randoms.left c.make_first.new.random) c.make_first.ensures.drew

pub returns-in-Ok-clause-makes : goal.returns-in-Ok-clause-makes
returns-in-Ok-clause-makes g c = items_made c.args.seed c.args.count (g.F.Folder.told c.args.folder.now) (g.F.Folder.told c.make_first.new.folder) c.in-Ok.ensures.holds c.make_first.ensures.beside

pub returns-in-Ok-clause-stands : goal.returns-in-Ok-clause-stands
returns-in-Ok-clause-stands g c bare =
    first_stands c.args.seed c.args.count (g.F.Folder.told c.args.folder.now) (g.F.Folder.told c.make_first.new.folder) c.requires (λ a is. g.met.F.Folder.sound c.args.folder.now a is) bare
    c.make_first.ensures.beside c.in-Ok.ensures.alone c.in-Ok.ensures.fresh

pub returns-in_err-root-clause-goes : goal.returns-in_err-root-clause-goes
returns-in_err-root-clause-goes g c = goes_nowhere (g.F.Folder.told c.args.folder.now) (g.F.Folder.told c.args.folder.now) refl

pub returns-in-Ok-clause-goes : goal.returns-in-Ok-clause-goes
returns-in-Ok-clause-goes g c = goes_beside _ (g.F.Folder.told c.args.folder.now) (g.F.Folder.told c.make_first.new.folder) c.make_first.ensures.beside

pub returns-clause-ends : goal.returns-clause-ends
returns-clause-ends g c =
    let t = g.F.Folder.told c.args.folder.now in
    record {
      zeros = λ bare same.
          drew_for (Unit {0}) ((t ≢ None) × (c.make_first.result ≡ Err (Put ZeroRandom))) (g.R.Randoms.left c.args.random.now) (g.R.Randoms.left c.make_first.new.random)
          (λ _. (bare_told t bare, c.in-Err.is ∙ ap Err (c.answer_to_make.ensures.zeros same))) c.make_first.ensures.drew;
      shared = λ bare at same. (first_root, c.in-Err.ensures.shared (c.answer_to_make.ensures.taken at same) bare.view bare.seen (can_make_first t bare bare.view bare.seen));
      others = λ bare. c.answer_to_make.ensures.chance (c.in-Err.ensures.chance bare.view bare.seen (can_make_first t bare bare.view bare.seen));
    }
