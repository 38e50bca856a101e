use Rattle.std.proofs.Common.{arith, ◌≡◌, ◌+◌, Ok, Err, inr, refl}
use Rattle.std.proofs.lemmas.Result.{err_from_is_err_and}
use Rattle.folder_spec.proofs.Tellings.{from_to_on, from_to_same}
use Rattle.item_making.specs.Making.{is_apart}
use Rattle.demo_core.specs.Making.{HoldsAlone}
use Rattle.demo_core.proofs.Beside.{beside_nowhere, beside_then, carried, still_told}
use Rattle.demo_core.proofs.Drawn.{drew_for, drew_nothing, drew_then}
use Rattle.demo_core.proofs.Shared.{goes_beside, shares_since}
use Rattle.demo_core.proofs.making.place_items.Goals as goal

pub returns-in_err-place_item-clause-beside : goal.returns-in_err-place_item-clause-beside
returns-in_err-place_item-clause-beside g c =
    beside_then (is_apart c.args.work.now c.args.vault.now.root) _ _ _ c.loop-number.invariant.beside c.place_item.ensures.beside

pub loop-number-preserved : goal.loop-number-preserved
loop-number-preserved g c = record {
  ready = c.in_ok-place_item.ensures.ready;
  adds = from_to_on
      (λ a b. HoldsAlone c.args.vault.now c.args.seed 0 a.state → HoldsAlone c.args.vault.now c.args.seed c.loop-number.number b.state)
      (λ a b. HoldsAlone c.args.vault.now c.args.seed c.loop-number.number a.state → HoldsAlone c.args.vault.now c.args.seed (c.loop-number.number + 1) b.state)
      (λ a b. HoldsAlone c.args.vault.now c.args.seed 0 a.state → HoldsAlone c.args.vault.now c.args.seed (c.loop-number.number + 1) b.state)
      (g.F.Folder.told c.args.folder.now) (g.F.Folder.told c.loop-number.folder) (g.F.Folder.told c.place_item.new.folder)
      (λ a b d first next holds. next (first holds)) c.loop-number.invariant.adds c.in_ok-place_item.ensures.adds;
  beside = beside_then (is_apart c.args.work.now c.args.vault.now.root) _ _ _ c.loop-number.invariant.beside c.place_item.ensures.beside;
  drew = drew_then c.draws_compose.ensures.composed ⊥ ⊥ _ _ _ _ (λ never. absurd never) c.loop-number.invariant.drew c.place_item.ensures.drew;
  grows = omega (arith, c.loop-number.invariant.grows, c.place_item.ensures.grows);
  counted = omega (arith, c.loop-number.invariant.counted, c.place_item.ensures.counted);
}

pub loop-number-init : goal.loop-number-init
loop-number-init g c =
    let told = g.F.Folder.told c.args.folder.now in
    record {
      ready = c.requires.may.ready;
      adds = from_to_same _ told told refl (λ a holds. holds);
      beside = beside_nowhere (is_apart c.args.work.now c.args.vault.now.root) told told refl;
      drew = drew_nothing c.draws_compose.ensures.none ⊥ _ _ refl (λ never. never);
      grows = omega arith;
      counted = omega arith;
    }

pub returns-in_err-place_item-clause-drew : goal.returns-in_err-place_item-clause-drew
returns-in_err-place_item-clause-drew g c =
    let p = err_from_is_err_and c.from_residual.result c.from_residual.ensures.1 in
    rw (p.1, p.2) (drew_then c.draws_compose.ensures.composed _ ⊥ _ _ _ _
    (λ why. inr (still_told _ (g.F.Folder.told c.args.folder.now) (g.F.Folder.told c.loop-number.folder) c.loop-number.invariant.beside why.0, why.1)) c.loop-number.invariant.drew c.in_err-place_item.ensures.drew)

pub returns-in_err-place_item-clause-chance : goal.returns-in_err-place_item-clause-chance
returns-in_err-place_item-clause-chance g c =
    let p = err_from_is_err_and c.from_residual.result c.from_residual.ensures.1 in
    rw (p.1, p.2) (λ a told is_go holds.
    let now = carried (λ a b. HoldsAlone c.args.vault.now c.args.seed 0 a.state → HoldsAlone c.args.vault.now c.args.seed c.loop-number.number b.state)
    (g.F.Folder.told c.args.folder.now) (g.F.Folder.told c.loop-number.folder) c.loop-number.invariant.adds a told in
    c.in_err-place_item.ensures.chance now.0 now.1 is_go (now.2 holds))

pub returns-clause-drew : goal.returns-clause-drew
returns-clause-drew g c = drew_for _ ⊥ _ _ (λ why. let never : Ok tt ≡ Err _ = why.1 in cc never) c.loop-number.invariant.drew

pub returns-in_err-place_item-clause-shared : goal.returns-in_err-place_item-clause-shared
returns-in_err-place_item-clause-shared g c =
    let p = err_from_is_err_and c.from_residual.result c.from_residual.ensures.1 in
    rw (p.1, p.2) (λ taken a told holds.
    let now = carried (λ a b. HoldsAlone c.args.vault.now c.args.seed 0 a.state → HoldsAlone c.args.vault.now c.args.seed c.loop-number.number b.state)
    (g.F.Folder.told c.args.folder.now) (g.F.Folder.told c.loop-number.folder) c.loop-number.invariant.adds a told in
    shares_since c.draws_compose.ensures.composed c.args.vault.now.root (g.F.Folder.told c.args.folder.now) (g.F.Folder.told c.loop-number.folder) _ _ _ _ (c.loop-number.number + 1) c.args.count
    c.loop-number.invariant.drew.drawn (omega arith) (goes_beside (is_apart c.args.work.now c.args.vault.now.root) _ _ c.loop-number.invariant.beside) c.loop-number.invariant.drew.were_drawn
    (c.in_err-place_item.ensures.shared taken now.0 now.1 (now.2 holds)))
