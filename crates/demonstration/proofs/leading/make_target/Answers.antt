use Rattle.std.proofs.Common.{refl, ◌≡◌, ◌∙◌, Err, ap}
use Rattle.item_making.specs.declared.fault.PutFault.TheVariants.{ZeroRandom}
use Rattle.demo_core.specs.declared.fault.MakeFault.TheVariants.{Put}
use Rattle.demo_core.proofs.Drawn.{drew_for}
use Rattle.demonstration.proofs.DemoDraws.{drew_none, drew_some}
use Rattle.demonstration.proofs.Steps.{can_make_target, item_of_chance, never_taken, target_stands}
use Rattle.demo_core.proofs.Shared.{goes_beside, goes_nowhere}
use Rattle.demonstration.proofs.leading.make_target.Goals as goal

pub returns-in_err-root-clause-drew : goal.returns-in_err-root-clause-drew
returns-in_err-root-clause-drew g c = drew_none c.draws_compose.ensures.none (g.R.Randoms.left c.args.random.now)

pub returns-in-Ok-clause-drew : goal.returns-in-Ok-clause-drew
returns-in-Ok-clause-drew g c = drew_some _ (g.R.Randoms.left c.args.random.now) (g.R.Randoms.left c.make_vault_of.new.random) c.make_vault_of.ensures.drew

pub returns-in-Ok-clause-stands : goal.returns-in-Ok-clause-stands
returns-in-Ok-clause-stands g c count sees =
    target_stands c.roots_show_their_own.ensures.alike c.args.leg count (g.F.Folder.told c.args.folder.now) (g.F.Folder.told c.make_vault_of.new.folder) (λ a is. g.met.F.Folder.sound c.args.folder.now a is)
    c.make_vault_of.ensures.beside c.in-Ok.ensures.stands c.in-Ok.ensures.fresh sees

pub returns-clause-ends : goal.returns-clause-ends
returns-clause-ends g c count = record {
  zeros = λ sees same.
      drew_for (Unit {0}) (c.make_vault_of.result ≡ Err (Put ZeroRandom)) (g.R.Randoms.left c.args.random.now) (g.R.Randoms.left c.make_vault_of.new.random) (λ _. c.in-Err.is ∙ ap Err (c.answer_to_make.ensures.zeros same)) c.make_vault_of.ensures.drew;
  shared = λ sees at same.
      absurd (never_taken c.in-Err.fault (c.in-Err.ensures.chance sees.view sees.seen (can_make_target c.args.leg count (g.F.Folder.told c.args.folder.now) sees sees.view sees.seen)) (c.answer_to_make.ensures.taken at same));
  others = λ sees.
      c.answer_to_make.ensures.chance (item_of_chance c.in-Err.fault (c.in-Err.ensures.chance sees.view sees.seen (can_make_target c.args.leg count (g.F.Folder.told c.args.folder.now) sees sees.view sees.seen)));
}

pub returns-in_err-root-clause-goes : goal.returns-in_err-root-clause-goes
returns-in_err-root-clause-goes g c = goes_nowhere (g.F.Folder.told c.args.folder.now) (g.F.Folder.told c.args.folder.now) refl

pub returns-in-Ok-clause-goes : goal.returns-in-Ok-clause-goes
returns-in-Ok-clause-goes g c = goes_beside _ (g.F.Folder.told c.args.folder.now) (g.F.Folder.told c.make_vault_of.new.folder) c.make_vault_of.ensures.beside
