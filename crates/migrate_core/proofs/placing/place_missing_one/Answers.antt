use Rattle.std.proofs.Common.{Ok, true, false, refl, sym, ◌∙◌, Contains, [], cond, not, subst, ◌∷◌}
use Rattle.folder_spec.specs.Seen.{seen}
use Rattle.migration_spec.specs.Alone.{Begun}
use Rattle.migrate_core.proofs.Leadings.{nothing_told, still_guards, still_leads}
use Rattle.migrate_core.proofs.Movings.{moves_nowhere}
use Rattle.migrate_core.proofs.Planned.{seen_of}
use Rattle.migrate_core.proofs.Searched.{there_by, there_where}
use Rattle.migrate_core.proofs.Writings.{only_nowhere, texts_alone}
use Rattle.migrate_core.specs.Written.{BringsOnlyTo, WritesAll, WritesBy, WritesFirst, lacked}
use Rattle.migrate_core.proofs.Copyings.{stands_copied}
use Rattle.migrate_core.proofs.Drawing.{drew_err, drew_failed, drew_none, drew_ok, drew_tested}
use Rattle.migrate_core.proofs.Sharing.{lacks_where, stops_more}
use Rattle.migrate_core.specs.Sharing.{Lacks, LacksOther, SharesFrom}
use Rattle.migrate_core.proofs.placing.place_missing_one.Goals as goal
use Rattle.folder_spec.proofs.Seen.{one_view}
use Rattle.migration_sides.proofs.Chains.{fault_as, refused_as}

pub returns-in_err-place-clause-none : goal.returns-in_err-place-clause-none
returns-in_err-place-clause-none g c stands =
    let told = g.F.Folder.told c.args.folder.now in
    nothing_told _ told (g.F.Folder.told c.place.new.folder) c.place.ensures.moves
    (λ a is. (let same = sym c.if-stands.false ∙ c.stands.ensures (c.requires.there (seen a.state) (seen_of told a is)) ∙ there_where c.args.item.now c.args.there.now stands in cc same))

pub returns-clause-none : goal.returns-clause-none
returns-clause-none g c stands =
    let told = g.F.Folder.told c.args.folder.now in
    nothing_told _ told (g.F.Folder.told c.place.new.folder) c.place.ensures.moves
    (λ a is. (let same = sym c.if-stands.false ∙ c.stands.ensures (c.requires.there (seen a.state) (seen_of told a is)) ∙ there_where c.args.item.now c.args.there.now stands in cc same))

pub returns-then-stands-clause-guard : goal.returns-then-stands-clause-guard
returns-then-stands-clause-guard g c m sides =
    let told = g.F.Folder.told c.args.folder.now in
    (still_guards m Begun told told refl, still_leads m Begun told told refl)

pub returns-then-stands-clause-moves : goal.returns-then-stands-clause-moves
returns-then-stands-clause-moves g c = moves_nowhere _ _ c.args.sides.now.target.root _ _ refl

pub returns-in_err-place-clause-written : goal.returns-in_err-place-clause-written
returns-in_err-place-clause-written g c ordered =
    let from = c.args.sides.now.source in
    let to = c.args.sides.now.target in
    let told = g.F.Folder.told c.args.folder.now in
    let left = g.R.Randoms.left c.args.random.now in
    let item = c.args.item.now in
    let told' = g.F.Folder.told c.place.new.folder in
    let left' = g.R.Randoms.left c.place.new.random in
    refused_as (λ answer. WritesBy answer from to (lacked c.args.there.now (item ∷ [])) [] left left' told told') c.from_residual.result c.from_residual.ensures.1
    (subst (λ b. WritesFirst c.in_err-place.field-0.0 from to (cond (not b) (item ∷ []) []) [] left left' told told') (sym c.if-stands.false ∙ c.stands.ensures ordered) c.in_err-place.ensures.written)

pub returns-clause-written : goal.returns-clause-written
returns-clause-written g c ordered =
    let from = c.args.sides.now.source in
    let to = c.args.sides.now.target in
    let told = g.F.Folder.told c.args.folder.now in
    let left = g.R.Randoms.left c.args.random.now in
    let item = c.args.item.now in
    let told' = g.F.Folder.told c.place.new.folder in
    let left' = g.R.Randoms.left c.place.new.random in
    subst (λ b. WritesAll from to (cond (not b) (item ∷ []) []) [] left left' told told') (sym c.if-stands.false ∙ c.stands.ensures ordered) c.in_ok-place.ensures.written

pub returns-then-stands-clause-written : goal.returns-then-stands-clause-written
returns-then-stands-clause-written g c ordered =
    let from = c.args.sides.now.source in
    let to = c.args.sides.now.target in
    let told = g.F.Folder.told c.args.folder.now in
    let left = g.R.Randoms.left c.args.random.now in
    let item = c.args.item.now in
    subst (λ b. WritesAll from to (cond (not b) (item ∷ []) []) [] left left told told) (sym c.if-stands.true ∙ c.stands.ensures ordered)
    (texts_alone from to [] [] left left told told (c.draws_compose.ensures.none left) (only_nowhere (BringsOnlyTo to.root (λ at. ⊥)) (λ file. Contains [] file) told told refl))

pub returns-in_err-place-clause-moving : goal.returns-in_err-place-clause-moving
returns-in_err-place-clause-moving g c =
    fault_as _ c.from_residual.result c.from_residual.ensures.1 c.in_err-place.ensures.moving

pub returns-then-stands-clause-copies : goal.returns-then-stands-clause-copies
returns-then-stands-clause-copies g c v w is_v is_w h =
    let there = c.args.there.now in
    let item = c.args.item.now in
    stands_copied c.args.sides.now.names c.args.sides.now.source c.args.sides.now.target there item v w (one_view (g.F.Folder.told c.args.folder.now) w v is_w is_v)
    (there_by item.path there (sym (c.stands.ensures (c.requires.there v is_v)) ∙ c.if-stands.true)) h

pub returns-clause-copies : goal.returns-clause-copies
returns-clause-copies g c v w is_v is_w h = c.in_ok-place.ensures.copies v w is_v is_w h.copying

pub returns-in_err-place-clause-stops : goal.returns-in_err-place-clause-stops
returns-in_err-place-clause-stops g c =
    let rule = c.args.sides.now.names in
    let from = c.args.sides.now.source in
    let to = c.args.sides.now.target in
    let work = c.args.work.now in
    let there = c.args.there.now in
    let item = c.args.item.now in
    let told = g.F.Folder.told c.args.folder.now in
    let told' = g.F.Folder.told c.place.new.folder in
    let left = g.R.Randoms.left c.args.random.now in
    let left' = g.R.Randoms.left c.place.new.random in
    fault_as _ c.from_residual.result c.from_residual.ensures.1
    (stops_more (SharesFrom (Lacks rule from to item) to work (item ∷ []) left left' told told') (SharesFrom (LacksOther rule from to there item) to work (item ∷ []) left left' told told') c.in_err-place.field-0.0
    (λ shares v is h. shares v is (lacks_where rule from to there item v (sym (c.stands.ensures (c.requires.there v is)) ∙ c.if-stands.false) h)) c.in_err-place.ensures.stops)

pub returns-then-stands-clause-drew : goal.returns-then-stands-clause-drew
returns-then-stands-clause-drew g c =
    let left = g.R.Randoms.left c.args.random.now in
    drew_tested (Ok false) left left tt (drew_none c.draws_compose.ensures.none left)

pub returns-in_err-place-clause-drew : goal.returns-in_err-place-clause-drew
returns-in_err-place-clause-drew g c =
    let left = g.R.Randoms.left c.args.random.now in
    let left' = g.R.Randoms.left c.place.new.random in
    drew_failed left left' c.from_residual.result c.from_residual.ensures.1 (drew_err (Unit {0}) c.in_err-place.field-0.0 left left' c.in_err-place.ensures.drew)

pub returns-clause-drew : goal.returns-clause-drew
returns-clause-drew g c =
    let left = g.R.Randoms.left c.args.random.now in
    let left' = g.R.Randoms.left c.place.new.random in
    drew_tested (Ok true) left left' tt (drew_ok tt left left' c.in_ok-place.ensures.drew)
