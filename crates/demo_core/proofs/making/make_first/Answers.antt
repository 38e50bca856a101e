use Rattle.std.proofs.Common.{◌≡◌, ◌≢◌, ◌∙◌, ◌∷◌, [], None, Ok, Err, codes, arith, inr, refl, sym, ap, subst}
use Rattle.item_making.specs.declared.fault.PutFault.TheVariants as put
use Rattle.folder_model.proofs.Counting.{rose_since}
use Rattle.folder_spec.specs.Region.{apart_from_both}
use Rattle.folder_spec.specs.Seen.{IsSeen}
use Rattle.vault_read.specs.declared.vault.VaultKind.TheVariants as kind
use Rattle.item_making.specs.Making.{is_apart}
use Rattle.work_folder.specs.Entering.{IsFresh, IsReady}
use Rattle.demo_core.specs.Making.{IsBeside, IsNotPut, MakesBeside, making_folder}
use Rattle.demo_core.specs.Sharing.{GoesOn, SharesPlace}
use Rattle.demo_core.proofs.Shared.{goes_beside, shares_since}
use Rattle.demo_core.proofs.Beside.{beside_then, made_beside, still_told, told_after}
use Rattle.demo_core.proofs.Chances.{chance_free, chance_items, fresh_stays, load_free}
use Rattle.demo_core.proofs.Drawn.{drew_for, drew_then}
use Rattle.folder_model.proofs.ByFault.{at_fault, never_done, one_fault}
use Rattle.demo_core.proofs.Faults.{not_put_own, put_failed}
use Rattle.demo_core.proofs.Standing.{holds_in_order, holds_seen}
use Rattle.demo_core.specs.declared.fault.MakeFault.TheVariants.{Put}
use Rattle.demo_core.proofs.making.make_first.Goals as goal

pub returns-in_err-work : goal.returns-in_err-work
returns-in_err-work g c =
    let why = c.in_err-work.field-0.0 in
    let made = c.in_err-work.ensures in
    let by_fault = c.from_residual.ensures.1 in
    record {
      holds = never_done c.from_residual.result _ _ by_fault;
      beside = made.beside;
      alone = never_done c.from_residual.result _ _ by_fault;
      fresh = never_done c.from_residual.result _ _ by_fault;
      failed = at_fault c.from_residual.result _ why by_fault made.failed;
      own = at_fault c.from_residual.result _ why by_fault made.own;
      chance = at_fault c.from_residual.result _ why by_fault (λ v is can. chance_items why (made.chance v is can));
      shared = at_fault c.from_residual.result _ why by_fault (λ taken v is can. absurd (chance_free why (made.chance v is can) taken));
      random = λ same. made.random (let is : why ≡ Put put.Random = one_fault c.from_residual.result _ _ by_fault same in ap Err is);
      drew = drew_for _ _ _ _ (λ zeros. let is : why ≡ Put put.ZeroRandom = one_fault c.from_residual.result _ _ by_fault zeros.1 in ap Err is) made.drew;
      grows = made.grows;
      counted = made.counted;
    }

pub returns-in_err-vault : goal.returns-in_err-vault
returns-in_err-vault g c =
    let why = c.in_err-vault.field-0.0 in
    let made = c.make_vault.ensures in
    let loads = c.in_err-vault.ensures in
    let by_fault = c.from_residual-in_err-vault.ensures.1 in
    record {
      holds = never_done c.from_residual-in_err-vault.result _ _ by_fault;
      beside = subst (MakesBeside (codes "g" ∷ []) (g.F.Folder.told c.args.folder.now)) (sym c.load.ensures.told) made.beside;
      alone = never_done c.from_residual-in_err-vault.result _ _ by_fault;
      fresh = never_done c.from_residual-in_err-vault.result _ _ by_fault;
      failed = at_fault c.from_residual-in_err-vault.result _ why by_fault (λ failed. rose_since _ _ _ made.grows (loads.failed failed));
      own = at_fault c.from_residual-in_err-vault.result _ why by_fault (not_put_own why loads.fault);
      chance = at_fault c.from_residual-in_err-vault.result _ why by_fault (λ v is can.
          let now = told_after _ (g.F.Folder.told c.args.folder.now) (g.F.Folder.told c.make_vault.new.folder) c.make_vault.ensures.beside v is in
          chance_items why (c.in_err-vault.ensures.chance now.0 (c.load.ensures.told ∙ now.1) (c.in_ok-work.ensures.stands now.0 now.1)));
      shared = at_fault c.from_residual-in_err-vault.result _ why by_fault (λ taken v is can. absurd (load_free why loads.fault taken));
      random = λ same. absurd (subst IsNotPut (let is : why ≡ Put put.Random = one_fault c.from_residual-in_err-vault.result _ _ by_fault same in is) loads.fault);
      drew = drew_for _ _ _ _ (λ zeros. absurd (subst IsNotPut (let is : why ≡ Put put.ZeroRandom = one_fault c.from_residual-in_err-vault.result _ _ by_fault zeros.1 in is) loads.fault)) made.drew;
      grows = omega (arith, made.grows, c.load.ensures.grows);
      counted = made.counted;
    }

pub returns-in_err-place_items : goal.returns-in_err-place_items
returns-in_err-place_items g c =
    let why = c.in_err-place_items.field-0.0 in
    let made = c.make_vault.ensures in
    let placed = c.in_err-place_items.ensures in
    let last = g.F.Folder.told c.place_items.new.folder in
    let told = still_told _ (g.F.Folder.told c.args.folder.now) (g.F.Folder.told c.make_vault.new.folder) c.make_vault.ensures.beside in
    let by_fault = c.from_residual-in_err-place_items.ensures.1 in
    record {
      holds = never_done c.from_residual-in_err-place_items.result _ _ by_fault;
      beside = beside_then (apart_from_both making_folder (codes "g" ∷ [])) _ _ last c.make_vault.ensures.beside
          (made_beside c.in_ok-work.work c.in_ok-vault.vault.root (codes "g" ∷ []) (g.F.Folder.told c.make_vault.new.folder) last c.in_ok-work.ensures.work c.in_ok-vault.ensures.root
          (subst (λ t. IsBeside (is_apart c.in_ok-work.work c.in_ok-vault.vault.root) t last) c.load.ensures.told c.place_items.ensures.beside));
      alone = never_done c.from_residual-in_err-place_items.result _ _ by_fault;
      fresh = never_done c.from_residual-in_err-place_items.result _ _ by_fault;
      failed = at_fault c.from_residual-in_err-place_items.result _ (Put why) by_fault (put_failed why _ _ (λ same. rose_since _ _ _ (omega (arith, made.grows, c.load.ensures.grows)) (placed.failed (ap Err same))));
      own = at_fault c.from_residual-in_err-place_items.result _ (Put why) by_fault placed.own;
      chance = at_fault c.from_residual-in_err-place_items.result _ (Put why) by_fault (λ v is can.
          let now = told_after _ (g.F.Folder.told c.args.folder.now) (g.F.Folder.told c.make_vault.new.folder) c.make_vault.ensures.beside v is in
          let new = c.in_ok-work.ensures.stands now.0 now.1 in
          let told = c.load.ensures.told ∙ now.1 in
          c.in_err-place_items.ensures.chance now.0 told (c.in_ok-vault.ensures.kind now.0 told new) (c.in_ok-vault.ensures.holds c.args.seed now.0 told new));
      shared = at_fault c.from_residual-in_err-place_items.result _ (Put why) by_fault (λ taken v is can.
          let now = told_after _ (g.F.Folder.told c.args.folder.now) (g.F.Folder.told c.make_vault.new.folder) c.make_vault.ensures.beside v is in
          let new = c.in_ok-work.ensures.stands now.0 now.1 in
          let told = c.load.ensures.told ∙ now.1 in
          let start = g.F.Folder.told c.args.folder.now in
          let root = codes "g" ∷ [] in
          shares_since c.draws_compose.ensures.composed root start (g.F.Folder.told c.load.new.folder) (g.F.Folder.told c.place_items.new.folder) _ _ _ c.args.count c.args.count c.make_vault.ensures.drew.drawn (omega arith)
          (subst (GoesOn start) (sym c.load.ensures.told) (goes_beside (apart_from_both making_folder root) start (g.F.Folder.told c.make_vault.new.folder) c.make_vault.ensures.beside)) c.make_vault.ensures.drew.were_drawn
          (subst (λ r. SharesPlace r (g.F.Folder.told c.load.new.folder) (g.F.Folder.told c.place_items.new.folder) (g.R.Randoms.left c.make_vault.new.random) (g.R.Randoms.left c.place_items.new.random) c.args.count) c.in_ok-vault.ensures.root
          (c.in_err-place_items.ensures.shared taken now.0 told (c.in_ok-vault.ensures.holds c.args.seed now.0 told new))));
      random = λ same. rose_since _ _ _ made.counted (placed.random (let is : why ≡ put.Random = (let same : Put why ≡ Put put.Random = one_fault c.from_residual-in_err-place_items.result _ _ by_fault same in cc same) in ap Err is));
      drew = drew_then c.draws_compose.ensures.composed _ _ _ _ _ _
          (λ zeros. inr (subst (λ t. t ≢ None) (sym c.load.ensures.told) (told zeros.0), let same : why ≡ put.ZeroRandom = (let all : Put why ≡ Put put.ZeroRandom = one_fault c.from_residual-in_err-place_items.result _ _ by_fault zeros.1 in cc all) in ap Err same)) c.make_vault.ensures.drew c.in_err-place_items.ensures.drew;
      grows = omega (arith, made.grows, c.load.ensures.grows, placed.grows);
      counted = omega (arith, made.counted, placed.counted);
    }

pub returns-clause-alone : goal.returns-clause-alone
returns-clause-alone g c =
    holds_in_order c.in_ok-vault.vault (codes "g" ∷ []) c.args.seed c.args.count (g.F.Folder.told c.load.new.folder) (g.F.Folder.told c.place_items.new.folder) c.in_ok-vault.ensures.root
    (λ a told.
    let new = c.in_ok-work.ensures.stands a (sym c.load.ensures.told ∙ told) in
    (c.in_ok-vault.ensures.kind a told new, c.in_ok-vault.ensures.holds c.args.seed a told new)) c.in_ok-place_items.ensures.adds

pub returns-clause-holds : goal.returns-clause-holds
returns-clause-holds g c =
    holds_seen kind.Gocryptfs (codes "g" ∷ []) c.args.seed c.args.count (g.F.Folder.told c.place_items.new.folder)
    (holds_in_order c.in_ok-vault.vault (codes "g" ∷ []) c.args.seed c.args.count (g.F.Folder.told c.load.new.folder) (g.F.Folder.told c.place_items.new.folder) c.in_ok-vault.ensures.root
    (λ a told.
    let new = c.in_ok-work.ensures.stands a (sym c.load.ensures.told ∙ told) in
    (c.in_ok-vault.ensures.kind a told new, c.in_ok-vault.ensures.holds c.args.seed a told new)) c.in_ok-place_items.ensures.adds)

pub returns-clause-beside : goal.returns-clause-beside
returns-clause-beside g c =
    let last = g.F.Folder.told c.place_items.new.folder in
    beside_then (apart_from_both making_folder (codes "g" ∷ [])) _ _ last c.make_vault.ensures.beside
    (made_beside c.in_ok-work.work c.in_ok-vault.vault.root (codes "g" ∷ []) (g.F.Folder.told c.make_vault.new.folder) last c.in_ok-work.ensures.work c.in_ok-vault.ensures.root
    (subst (λ t. IsBeside (is_apart c.in_ok-work.work c.in_ok-vault.vault.root) t last) c.load.ensures.told c.place_items.ensures.beside))

pub returns-clause-fresh : goal.returns-clause-fresh
returns-clause-fresh g c =
    let work : c.in_ok-work.work ≡ making_folder = c.in_ok-work.ensures.work in
    let root = codes "g" ∷ [] in
    let u = g.F.Folder.told c.place_items.new.folder in
    fresh_stays making_folder root (g.F.Folder.told c.load.new.folder) u (g.met.F.Folder.sound c.load.new.folder) refl refl
    (subst (λ w. IsBeside (is_apart w root) (g.F.Folder.told c.load.new.folder) u) work
    (subst (λ p. IsBeside (is_apart c.in_ok-work.work p) (g.F.Folder.told c.load.new.folder) u) c.in_ok-vault.ensures.root c.place_items.ensures.beside))
    (λ v is. subst (IsFresh v) work (c.in_ok-work.ensures.fresh v (subst (λ t. IsSeen t v) c.load.ensures.told is)))
    (λ v is. subst (IsReady v) work (c.in_ok-place_items.ensures.ready v is))

pub returns-clause-drew : goal.returns-clause-drew
returns-clause-drew g c =
    drew_then c.draws_compose.ensures.composed _ _ _ _ _ _ (λ zeros. let never : Ok tt ≡ Err _ = zeros.1 in cc never) c.make_vault.ensures.drew c.place_items.ensures.drew

pub returns-clause-random : goal.returns-clause-random
returns-clause-random g c = λ same. cc same

pub returns-clause-grows : goal.returns-clause-grows
returns-clause-grows g c = omega (arith, c.make_vault.ensures.grows, c.load.ensures.grows, c.place_items.ensures.grows)

pub returns-clause-counted : goal.returns-clause-counted
returns-clause-counted g c = omega (arith, c.make_vault.ensures.counted, c.place_items.ensures.counted)
