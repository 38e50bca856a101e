use Rattle.std.proofs.Common.{◌≡◌, ◌∙◌, None, Err, refl, sym, ap, subst, arith}
use Rattle.item_making.specs.declared.fault.PutFault.TheVariants as put
use Rattle.demo_core.proofs.Drawn.{drew_for, drew_nothing, not_zeros}
use Rattle.folder_model.proofs.Counting.{rose_since}
use Rattle.folder_model.specs.Text.{parts_of}
use Rattle.folder_spec.specs.Region.{apart_from_both}
use Rattle.vault_write.specs.Founding.{MayFound}
use Rattle.work_folder.specs.Entering.{EntersAs, IsFresh, IsReady}
use Rattle.work_folder.specs.Looking.{Gives}
use Rattle.folder_spec.specs.Path.{below}
use Rattle.folder_spec.specs.Seen.{ShowsFree, seen}
use Rattle.item_making.specs.Making.{is_apart}
use Rattle.demo_core.specs.Making.{IsBeside, MakesBeside, making_folder}
use Rattle.demo_core.proofs.Chances.{enter_chance, free_stays, fresh_stays}
use Rattle.demo_core.proofs.Beside.{beside_nowhere, beside_then, made_beside, may_found, shown_told, told_after, work_beside, work_first}
use Rattle.folder_model.proofs.ByFault.{at_fault, never_ok, one_fault}
use Rattle.demo_core.proofs.Faults.{put_failed, test_draws_nothing, test_own, work_failed}
use Rattle.demo_core.specs.declared.fault.MakeFault.TheVariants.{NoMemory, Put, Work}
use Rattle.demo_core.proofs.making.make_vault.Goals as goal

pub returns-in_err-at : goal.returns-in_err-at
returns-in_err-at g c =
    let by_fault = c.from_residual.ensures.1 in
    record {
      work = never_ok c.from_residual.result _ _ by_fault;
      fresh = never_ok c.from_residual.result _ _ by_fault;
      stands = never_ok c.from_residual.result _ _ by_fault;
      beside = beside_nowhere _ _ _ refl;
      failed = at_fault c.from_residual.result _ NoMemory by_fault (λ failed. absurd failed);
      own = at_fault c.from_residual.result _ NoMemory by_fault tt;
      chance = at_fault c.from_residual.result _ NoMemory by_fault (λ v is can. tt);
      random = λ same. let is : NoMemory ≡ Put put.Random = one_fault c.from_residual.result _ _ by_fault same in cc is;
      drew = drew_nothing c.draws_compose.ensures.none _ _ _ refl (λ zeros. let is : NoMemory ≡ Put put.ZeroRandom = one_fault c.from_residual.result _ _ by_fault zeros in cc is);
      grows = omega arith;
      counted = omega arith;
    }

pub returns-in_err-place : goal.returns-in_err-place
returns-in_err-place g c =
    let by_fault = c.from_residual-in_err-place.ensures.1 in
    record {
      work = never_ok c.from_residual-in_err-place.result _ _ by_fault;
      fresh = never_ok c.from_residual-in_err-place.result _ _ by_fault;
      stands = never_ok c.from_residual-in_err-place.result _ _ by_fault;
      beside = beside_nowhere _ _ _ refl;
      failed = at_fault c.from_residual-in_err-place.result _ NoMemory by_fault (λ failed. absurd failed);
      own = at_fault c.from_residual-in_err-place.result _ NoMemory by_fault tt;
      chance = at_fault c.from_residual-in_err-place.result _ NoMemory by_fault (λ v is can. tt);
      random = λ same. let is : NoMemory ≡ Put put.Random = one_fault c.from_residual-in_err-place.result _ _ by_fault same in cc is;
      drew = drew_nothing c.draws_compose.ensures.none _ _ _ refl (λ zeros. let is : NoMemory ≡ Put put.ZeroRandom = one_fault c.from_residual-in_err-place.result _ _ by_fault zeros in cc is);
      grows = omega arith;
      counted = omega arith;
    }

pub returns-in_err-work : goal.returns-in_err-work
returns-in_err-work g c =
    let why = c.in_err-work.field-0.0 in
    let entered = c.in_err-work.ensures.enters in
    let by_fault = c.from_residual-in_err-work.ensures.1 in
    record {
      work = never_ok c.from_residual-in_err-work.result _ _ by_fault;
      fresh = never_ok c.from_residual-in_err-work.result _ _ by_fault;
      stands = never_ok c.from_residual-in_err-work.result _ _ by_fault;
      beside = work_beside (parts_of c.args.name.now) _ _ (work_first c.in_ok-place.field-0 (parts_of c.args.name.now) _ _ _ _ c.in_ok-place.ensures.is c.enter-2.ensures.enters.moments);
      failed = at_fault c.from_residual-in_err-work.result _ (Work why) by_fault (work_failed why _ _ (λ same. entered.failed (ap Err same)));
      own = at_fault c.from_residual-in_err-work.result _ (Work why) by_fault tt;
      chance = at_fault c.from_residual-in_err-work.result _ (Work why) by_fault (λ v is can.
          enter_chance (g.F.Folder.told c.args.folder.now) (g.met.F.Folder.sound c.args.folder.now) making_folder v is can.work why
          (subst (λ w. Gives {T = Unit {0}} (EntersAs v w) (Err why)) c.in_ok-place.ensures.is (entered.answer v is)));
      random = λ same. let is : Work why ≡ Put put.Random = one_fault c.from_residual-in_err-work.result _ _ by_fault same in cc is;
      drew = drew_nothing c.draws_compose.ensures.none _ _ _ refl (λ zeros. let is : Work why ≡ Put put.ZeroRandom = one_fault c.from_residual-in_err-work.result _ _ by_fault zeros in cc is);
      grows = entered.grows;
      counted = omega arith;
    }

pub found-requires : goal.found-requires
found-requires g c =
    let work : c.in_ok-work.work ≡ making_folder = c.in_ok-work.ensures.path ∙ c.in_ok-place.ensures.is in
    let entered = g.F.Folder.told c.enter-2.new.folder in
    let at = c.in_ok-at.at in
    subst (λ t. MayFound t c.in_ok-work.work at) (sym c.test_free.ensures.told)
    (may_found c.in_ok-work.work at (parts_of c.args.name.now) entered work c.in_ok-at.ensures.is
    (λ v is. subst (λ p. IsReady v p) (sym c.in_ok-work.ensures.path) (c.in_ok-work.ensures.enters.ready v is).ready) c.requires.apart c.requires.beside c.in_ok-test_free.ensures.free)

pub returns-in_err-test_free : goal.returns-in_err-test_free
returns-in_err-test_free g c =
    let why = c.in_err-test_free.field-0.0 in
    let t = g.F.Folder.told c.args.folder.now in
    let u = g.F.Folder.told c.enter-2.new.folder in
    let at = parts_of c.args.name.now in
    let beside = work_first c.in_ok-place.field-0 at _ _ t u c.in_ok-place.ensures.is c.enter-2.ensures.enters.moments in
    let tested = c.in_err-test_free.ensures in
    let entered = c.enter-2.ensures.enters.grows in
    let by_fault = c.from_residual-in_err-test_free.ensures.1 in
    record {
      work = never_ok c.from_residual-in_err-test_free.result _ _ by_fault;
      fresh = never_ok c.from_residual-in_err-test_free.result _ _ by_fault;
      stands = never_ok c.from_residual-in_err-test_free.result _ _ by_fault;
      beside = subst (λ t. MakesBeside at (g.F.Folder.told c.args.folder.now) t) (sym c.test_free.ensures.told) (work_beside at _ _ beside);
      failed = at_fault c.from_residual-in_err-test_free.result _ (Put why) by_fault (put_failed why _ _ (λ same. rose_since _ _ _ entered (tested.failed (ap Err same))));
      own = at_fault c.from_residual-in_err-test_free.result _ (Put why) by_fault (test_own c.in_ok-at.at why tested.fault);
      chance = at_fault c.from_residual-in_err-test_free.result _ (Put why) by_fault (λ v is can.
          let now = told_after _ t u beside v is in
          let shown = shown_told u now.0 now.1 in
          tested.chance (seen now.0.state) shown
          (subst (ShowsFree (seen now.0.state)) (sym c.in_ok-at.ensures.is)
          (free_stays making_folder at t u (g.met.F.Folder.sound c.args.folder.now) c.requires.apart beside v is can.free (seen now.0.state) shown)));
      random = λ same. absurd (test_draws_nothing c.in_ok-at.at why tested.fault (let is : why ≡ put.Random = (let same : Put why ≡ Put put.Random = one_fault c.from_residual-in_err-test_free.result _ _ by_fault same in cc same) in is));
      drew = drew_nothing c.draws_compose.ensures.none _ _ _ refl (λ zeros. not_zeros c.in_ok-at.at why tested.fault (let same : why ≡ put.ZeroRandom = (let same : Put why ≡ Put put.ZeroRandom = one_fault c.from_residual-in_err-test_free.result _ _ by_fault zeros in cc same) in same));
      grows = omega (arith, entered, tested.grows);
      counted = omega arith;
    }

pub returns-in_err-found : goal.returns-in_err-found
returns-in_err-found g c =
    let why = c.in_err-found.field-0.0 in
    let at = parts_of c.args.name.now in
    let last = g.F.Folder.told c.found.new.folder in
    let founds = c.in_err-found.ensures in
    let entered = c.enter-2.ensures.enters.grows in
    let tested = c.test_free.ensures.grows in
    let by_fault = c.from_residual-in_err-found.ensures.1 in
    record {
      work = never_ok c.from_residual-in_err-found.result _ _ by_fault;
      fresh = never_ok c.from_residual-in_err-found.result _ _ by_fault;
      stands = never_ok c.from_residual-in_err-found.result _ _ by_fault;
      beside = beside_then (apart_from_both making_folder at) _ (g.F.Folder.told c.enter-2.new.folder) last
          (work_beside at _ _ (work_first c.in_ok-place.field-0 at _ _ _ _ c.in_ok-place.ensures.is c.enter-2.ensures.enters.moments))
          (subst (λ t. MakesBeside at t last) c.test_free.ensures.told
          (made_beside c.in_ok-work.work c.in_ok-at.at at _ last (c.in_ok-work.ensures.path ∙ c.in_ok-place.ensures.is) c.in_ok-at.ensures.is c.found.ensures.beside));
      failed = at_fault c.from_residual-in_err-found.result _ (Put why) by_fault (put_failed why _ _ (λ same. rose_since _ _ _ (omega (arith, entered, tested)) (founds.failed (ap Err same))));
      own = at_fault c.from_residual-in_err-found.result _ (Put why) by_fault (founds.own);
      chance = at_fault c.from_residual-in_err-found.result _ (Put why) by_fault (λ v is can. founds.chance);
      random = λ same. founds.random (let is : why ≡ put.Random = (let same : Put why ≡ Put put.Random = one_fault c.from_residual-in_err-found.result _ _ by_fault same in cc same) in ap Err is);
      drew = drew_for _ _ _ _ (λ zeros. let is : why ≡ put.ZeroRandom = (let same : Put why ≡ Put put.ZeroRandom = one_fault c.from_residual-in_err-found.result _ _ by_fault zeros in cc same) in ap Err is) founds.drew;
      grows = omega (arith, entered, tested, founds.grows);
      counted = founds.counted;
    }

pub returns-clause-beside : goal.returns-clause-beside
returns-clause-beside g c =
    let at = parts_of c.args.name.now in
    let last = g.F.Folder.told c.found.new.folder in
    beside_then (apart_from_both making_folder at) _ (g.F.Folder.told c.enter-2.new.folder) last
    (work_beside at _ _ (work_first c.in_ok-place.field-0 at _ _ _ _ c.in_ok-place.ensures.is c.enter-2.ensures.enters.moments))
    (subst (λ t. MakesBeside at t last) c.test_free.ensures.told
    (made_beside c.in_ok-work.work c.in_ok-at.at at _ last (c.in_ok-work.ensures.path ∙ c.in_ok-place.ensures.is) c.in_ok-at.ensures.is c.found.ensures.beside))

pub returns-clause-fresh : goal.returns-clause-fresh
returns-clause-fresh g c =
    let at = c.in_ok-at.at in
    let u = g.F.Folder.told c.enter-2.new.folder in
    let work : c.in_ok-work.work ≡ making_folder = c.in_ok-work.ensures.path ∙ c.in_ok-place.ensures.is in
    fresh_stays c.in_ok-work.work at u (g.F.Folder.told c.found.new.folder) (g.met.F.Folder.sound c.enter-2.new.folder)
    (subst (λ w. below at w ≡ None) (sym work) (subst (λ p. below p making_folder ≡ None) (sym c.in_ok-at.ensures.is) c.requires.beside))
    (subst (λ w. below w at ≡ None) (sym work) (subst (λ p. below making_folder p ≡ None) (sym c.in_ok-at.ensures.is) c.requires.apart))
    (subst (λ t. IsBeside (is_apart c.in_ok-work.work at) t (g.F.Folder.told c.found.new.folder)) c.test_free.ensures.told c.found.ensures.beside)
    (λ v is. subst (IsFresh v) (sym c.in_ok-work.ensures.path) (c.in_ok-work.ensures.enters.ready v is)) c.in_ok-found.ensures.ready

pub returns-clause-work : goal.returns-clause-work
returns-clause-work g c = c.in_ok-work.ensures.path ∙ c.in_ok-place.ensures.is

pub returns-clause-random : goal.returns-clause-random
returns-clause-random g c = λ same. cc same

pub returns-clause-drew : goal.returns-clause-drew
returns-clause-drew g c = drew_for _ _ _ _ (λ zeros. cc zeros) c.found.ensures.drew

pub returns-clause-grows : goal.returns-clause-grows
returns-clause-grows g c = omega (arith, c.enter-2.ensures.enters.grows, c.test_free.ensures.grows, c.found.ensures.grows)

pub returns-clause-counted : goal.returns-clause-counted
returns-clause-counted g c = c.found.ensures.counted
