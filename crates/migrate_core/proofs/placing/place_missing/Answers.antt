use Rattle.std.proofs.Common.{◌∙◌, ◌+◌, Bool, Ok, true, false, refl, sym, ap, arith, Contains, [], drop, subst, take, ◌++◌, ◌∷◌}
use Rattle.std.proofs.lemmas.List.{take_all}
use Rattle.migrate_core.proofs.Searched.{counted_on}
use Rattle.migrate_core.specs.Moved.{lacking}
use Rattle.migration_spec.specs.Alone.{Begun}
use Rattle.item_making.specs.Making.{is_apart}
use Rattle.migrate_core.proofs.Blaming.{blamed_since}
use Rattle.migrate_core.proofs.Leadings.{goes_failed, goes_on, guards_on, leads_on, still_guards, still_leads}
use Rattle.migrate_core.proofs.Compared.{source_tells}
use Rattle.migrate_core.proofs.Movings.{moves_nowhere, moves_on, mapped_stay}
use Rattle.migrate_core.specs.Written.{BringsOnlyTo, WritesAll, WritesBy, WritesFirst, lacked, slices}
use Rattle.migrate_core.proofs.Writings.{all_on, first_of_more, first_on, only_nowhere, texts_alone}
use Rattle.migrate_core.proofs.SourcePlaces.{lacked_is, lacked_next, lacked_split, next_among, next_kept}
use Rattle.migrate_core.proofs.Stopping.{stops_before}
use Rattle.migrate_core.proofs.Copyings.{all_copied, none_copied, one_copied, there_copied}
use Rattle.migrate_core.proofs.Entered.{next_enters}
use Rattle.migrate_core.specs.Copying.{Enters, HasCopied}
use Rattle.migrate_core.proofs.Sharing.{next_lacks, none_filled, one_filled, shares_before, stops_more}
use Rattle.migrate_core.specs.Sharing.{IsFilled, LacksOther, SharesFrom}
use Rattle.migrate_core.specs.Faults.{is_of_apart}
use Rattle.vault_write.specs.Calls.{IsKept}
use Rattle.migrate_core.proofs.Drawing.{drew_err, drew_failed, drew_none, drew_ok, drew_tested, drew_then}
use Rattle.migrate_core.proofs.placing.place_missing.Goals as goal
use Rattle.migrate_core.proofs.placing.place_missing.Goals.{then-branch, else-branch}
use Rattle.folder_spec.proofs.Seen.{one_view}
use Rattle.migration_spec.proofs.Tellings.{seen_before, seen_then}
use Rattle.migration_sides.proofs.Chains.{fault_as, refused_as}

pub loop-item-init : goal.loop-item-init
loop-item-init g c =
    let told = g.F.Folder.told c.args.folder.now in
    record {
      grows = omega arith;
      random = omega arith;
      drew = drew_none c.draws_compose.ensures.none (g.R.Randoms.left c.args.random.now);
      few = omega arith;
      ready = c.requires.ready;
      led = λ m sides. (still_guards m Begun told told refl, still_leads m Begun told told refl);
      moves = moves_nowhere c.args.work.now _ c.args.sides.now.target.root _ _ refl;
      counted = λ ordered. refl;
      written = λ ordered. texts_alone c.args.sides.now.source c.args.sides.now.target [] [] (g.R.Randoms.left c.args.random.now) (g.R.Randoms.left c.args.random.now) told told
          (c.draws_compose.ensures.none (g.R.Randoms.left c.args.random.now)) (only_nowhere (BringsOnlyTo c.args.sides.now.target.root (λ at. ⊥)) (λ file. Contains [] file) told told refl);
      copied = λ v w is_v is_w h. none_copied c.args.sides.now.names c.args.sides.now.source c.args.sides.now.target c.args.there.now v w (one_view told w v is_w is_v) h;
      none = λ all. refl;
      kept = subst (λ dir. IsKept c.args.sides.now.target told dir) (sym c.new.ensures.dir) tt;
      fills = λ v w is_v is_w h. none_filled c.args.sides.now.target c.args.there.now v w (one_view told w v is_w is_v) h.1;
    }

pub place_missing_one-requires-clause-item : goal.place_missing_one-requires-clause-item
place_missing_one-requires-clause-item g c =
    let told = g.F.Folder.told c.args.folder.now in
    let here = g.F.Folder.told c.loop-item.folder in
    let from = c.args.sides.now.source in
    let to = c.args.sides.now.target in
    let work = c.args.work.now in
    record {
      items = c.args.items.now;
      walked = mapped_stay c.args.sides.now.names from to.root work c.args.items.now told here c.requires.apart (g.met.F.Folder.sound c.args.folder.now) c.loop-item.invariant.moves c.requires.walked;
      among = (c.loop-item.item-index, c.loop-item-test.true, sym c.item-item.is);
    }

pub place_missing_one-requires-clause-there : goal.place_missing_one-requires-clause-there
place_missing_one-requires-clause-there g c v is =
    let before = seen_before _ (g.F.Folder.told c.args.folder.now) (g.F.Folder.told c.loop-item.folder) c.loop-item.invariant.moves v is in
    c.requires.there before.0 before.1

pub returns-in_err-place_missing_one-clause-guard : goal.returns-in_err-place_missing_one-clause-guard
returns-in_err-place_missing_one-clause-guard g c m sides =
    let told = g.F.Folder.told c.args.folder.now in
    let here = g.F.Folder.told c.loop-item.folder in
    let told' = g.F.Folder.told c.place_missing_one.new.folder in
    let led = c.loop-item.invariant.led m sides in
    goes_failed _ m Begun Begun Begun told told' c.place_missing_one.result c.from_residual.result c.from_residual.ensures.1
    (goes_on m Begun Begun Begun told here told' c.place_missing_one.result led.0 led.1 (c.place_missing_one.ensures.guard m sides))

pub returns-in_err-place_missing_one-clause-moves : goal.returns-in_err-place_missing_one-clause-moves
returns-in_err-place_missing_one-clause-moves g c =
    let to = c.args.sides.now.target in
    moves_on c.args.work.now (is_apart c.args.work.now to.root) to.root (g.F.Folder.told c.args.folder.now) (g.F.Folder.told c.loop-item.folder) (g.F.Folder.told c.place_missing_one.new.folder)
    c.loop-item.invariant.moves c.place_missing_one.ensures.moves

pub returns-in_err-place_missing_one-clause-none : goal.returns-in_err-place_missing_one-clause-none
returns-in_err-place_missing_one-clause-none g c all =
    c.place_missing_one.ensures.none (all c.item-item.result (c.loop-item.item-index, c.loop-item-test.true, sym c.item-item.is)) ∙ c.loop-item.invariant.none all

pub returns-in_err-place_missing_one-clause-grows : goal.returns-in_err-place_missing_one-clause-grows
returns-in_err-place_missing_one-clause-grows g c = omega (arith, c.loop-item.invariant.grows, c.place_missing_one.ensures.grows)

pub returns-in_err-place_missing_one-clause-random : goal.returns-in_err-place_missing_one-clause-random
returns-in_err-place_missing_one-clause-random g c = omega (arith, c.loop-item.invariant.random, c.place_missing_one.ensures.random)

pub returns-in_err-place_missing_one-clause-blamed : goal.returns-in_err-place_missing_one-clause-blamed
returns-in_err-place_missing_one-clause-blamed g c =
    fault_as _ c.from_residual.result c.from_residual.ensures.1
    (blamed_since is_of_apart is_of_apart (λ why begins. begins) _ _ _ _ _ _ c.loop-item.invariant.grows c.loop-item.invariant.random c.in_err-place_missing_one.field-0.0 c.in_err-place_missing_one.ensures.blamed)

pub returns-clause-grows : goal.returns-clause-grows
returns-clause-grows g c = c.loop-item.invariant.grows

pub returns-clause-random : goal.returns-clause-random
returns-clause-random g c = c.loop-item.invariant.random

pub returns-clause-guard : goal.returns-clause-guard
returns-clause-guard g c = c.loop-item.invariant.led

pub returns-clause-moves : goal.returns-clause-moves
returns-clause-moves g c = c.loop-item.invariant.moves

pub returns-clause-ready : goal.returns-clause-ready
returns-clause-ready g c = c.loop-item.invariant.ready

pub returns-clause-none : goal.returns-clause-none
returns-clause-none g c = c.loop-item.invariant.none

pub loop-item-preserved : goal.loop-item-preserved
loop-item-preserved g c =
    let rule = c.args.sides.now.names in
    let from = c.args.sides.now.source in
    let to = c.args.sides.now.target in
    let work = c.args.work.now in
    let items = c.args.items.now in
    let there = c.args.there.now in
    let told = g.F.Folder.told c.args.folder.now in
    let here = g.F.Folder.told c.loop-item.folder in
    let told' = g.F.Folder.told c.place_missing_one.new.folder in
    let left = g.R.Randoms.left c.args.random.now in
    let left1 = g.R.Randoms.left c.loop-item.random in
    let left2 = g.R.Randoms.left c.place_missing_one.new.random in
    let k = c.loop-item.item-index in
    let item = c.item-item.result in
    let kept = next_kept rule from to.root work items k item (lacked there (item ∷ [])) told here c.requires.apart (g.met.F.Folder.sound c.args.folder.now) c.requires.walked c.loop-item-test.true c.item-item.is
    (lacked_is there (item ∷ [])) c.loop-item.invariant.moves in
    let i = c.loop-item.invariant in
    record {
      grows = omega (arith, i.grows, c.place_missing_one.ensures.grows);
      random = omega (arith, i.random, c.place_missing_one.ensures.random);
      drew = drew_then c.draws_compose.ensures.composed ⊥ left left1 left2 i.drew (drew_ok c.in_ok-place_missing_one.field-0 left1 left2 c.in_ok-place_missing_one.ensures.drew);
      few = elim c.if-branch.branch [
        | then-branch w ↦ omega (arith, w.placed-is, i.few)
        | else-branch w ↦ omega (arith, w.placed-is, i.few)
      ];
      ready = c.in_ok-place_missing_one.ensures.ready;
      led = λ m sides.
          let led = i.led m sides in
          let more = c.in_ok-place_missing_one.ensures.guard m sides in
          (guards_on m Begun Begun told here told' led.0 led.1 more.0, leads_on m Begun Begun Begun told here told' led.1 more.1);
      moves = moves_on c.args.work.now (is_apart c.args.work.now to.root) to.root told here told' i.moves c.place_missing_one.ensures.moves;
      counted = λ ordered.
          let one = c.in_ok-place_missing_one.ensures.counted ordered in
          elim c.if-branch.branch [
            | then-branch w ↦ counted_on c.args.there.now c.args.items.now c.loop-item.item-index c.item-item.result c.loop-item.placed c.if-branch.placed true c.loop-item-test.true c.item-item.is (i.counted ordered)
                (sym w.if-branch.true ∙ one) w.placed-is
            | else-branch w ↦ counted_on c.args.there.now c.args.items.now c.loop-item.item-index c.item-item.result c.loop-item.placed c.if-branch.placed false c.loop-item-test.true c.item-item.is (i.counted ordered)
                (sym w.if-branch.false ∙ one) w.placed-is
          ];
      written = λ ordered.
          subst (λ xs. WritesAll from to xs [] left left2 told told') (lacked_next there items k item c.loop-item-test.true c.item-item.is)
          (all_on c.draws_compose.ensures.composed from to (lacked there (take k items)) (lacked there (item ∷ [])) [] [] left left1 left2 told here told' kept
          (i.written ordered) (c.in_ok-place_missing_one.ensures.written ordered));
      copied = λ v w is_v is_w h.
          let mid = seen_before _ here told' c.place_missing_one.ensures.moves w is_w in
          let before = i.copied v mid.0 is_v mid.1 h in
          one_copied rule from to there items k item mid.0 w c.loop-item-test.true c.item-item.is before
          (c.in_ok-place_missing_one.ensures.copies mid.0 w mid.1 is_w (there_copied rule from to there (take k items) mid.0 before));
      fills = λ v w is_v is_w h.
          let mid = seen_before _ here told' c.place_missing_one.ensures.moves w is_w in
          one_filled rule from to there items k item v mid.0 w c.loop-item-test.true c.item-item.is (i.fills v mid.0 is_v mid.1 h)
          (c.in_ok-place_missing_one.ensures.copies mid.0 w mid.1 is_w (there_copied rule from to there (take k items) mid.0 (i.copied v mid.0 is_v mid.1 h.0)));
      kept = c.in_ok-place_missing_one.ensures.kept;
      none = λ all. c.place_missing_one.ensures.none (all c.item-item.result (c.loop-item.item-index, c.loop-item-test.true, sym c.item-item.is)) ∙ i.none all;
    }

pub returns-clause-counted : goal.returns-clause-counted
returns-clause-counted g c ordered = c.loop-item.invariant.counted ordered ∙ ap (lacking c.args.there.now) (take_all c.loop-item.item-index c.args.items.now c.loop-item-test.false)

pub returns-in_err-place_missing_one-clause-written : goal.returns-in_err-place_missing_one-clause-written
returns-in_err-place_missing_one-clause-written g c ordered =
    let rule = c.args.sides.now.names in
    let from = c.args.sides.now.source in
    let to = c.args.sides.now.target in
    let work = c.args.work.now in
    let items = c.args.items.now in
    let there = c.args.there.now in
    let told = g.F.Folder.told c.args.folder.now in
    let here = g.F.Folder.told c.loop-item.folder in
    let told' = g.F.Folder.told c.place_missing_one.new.folder in
    let left = g.R.Randoms.left c.args.random.now in
    let left1 = g.R.Randoms.left c.loop-item.random in
    let left2 = g.R.Randoms.left c.place_missing_one.new.random in
    let k = c.loop-item.item-index in
    let item = c.item-item.result in
    let kept = next_kept rule from to.root work items k item (lacked there (item ∷ [])) told here c.requires.apart (g.met.F.Folder.sound c.args.folder.now) c.requires.walked c.loop-item-test.true c.item-item.is
    (lacked_is there (item ∷ [])) c.loop-item.invariant.moves in
    refused_as (λ answer. WritesBy answer from to (lacked there items) [] left left2 told told') c.from_residual.result c.from_residual.ensures.1
    (subst (λ xs. WritesFirst c.in_err-place_missing_one.field-0.0 from to xs [] left left2 told told') (ap (λ xs. xs ++ lacked there (drop (k + 1) items)) (lacked_next there items k item c.loop-item-test.true c.item-item.is) ∙ lacked_split there items (k + 1))
    (first_of_more from to (lacked there (take k items) ++ lacked there (item ∷ [])) [] left left2 told told' (lacked there (drop (k + 1) items)) c.in_err-place_missing_one.field-0.0
    (first_on c.draws_compose.ensures.composed from to (lacked there (take k items)) (lacked there (item ∷ [])) [] [] left left1 left2 told here told' kept
    (c.loop-item.invariant.written ordered) c.in_err-place_missing_one.field-0.0 (c.in_err-place_missing_one.ensures.written ordered))))

pub returns-clause-written : goal.returns-clause-written
returns-clause-written g c ordered =
    let left = g.R.Randoms.left c.args.random.now in
    subst (λ xs. WritesAll c.args.sides.now.source c.args.sides.now.target (lacked c.args.there.now xs) [] left (g.R.Randoms.left c.loop-item.random) (g.F.Folder.told c.args.folder.now) (g.F.Folder.told c.loop-item.folder))
    (take_all c.loop-item.item-index c.args.items.now c.loop-item-test.false) (c.loop-item.invariant.written ordered)

pub returns-in_err-place_missing_one-clause-moving : goal.returns-in_err-place_missing_one-clause-moving
returns-in_err-place_missing_one-clause-moving g c =
    let rule = c.args.sides.now.names in
    let from = c.args.sides.now.source in
    let to = c.args.sides.now.target in
    let work = c.args.work.now in
    let items = c.args.items.now in
    let told = g.F.Folder.told c.args.folder.now in
    let here = g.F.Folder.told c.loop-item.folder in
    let k = c.loop-item.item-index in
    let item = c.item-item.result in
    let kept = next_kept rule from to.root work items k item (item ∷ []) told here c.requires.apart (g.met.F.Folder.sound c.args.folder.now) c.requires.walked c.loop-item-test.true c.item-item.is (λ one among. among)
    c.loop-item.invariant.moves in
    let walked = mapped_stay rule from to.root work items told here c.requires.apart (g.met.F.Folder.sound c.args.folder.now) c.loop-item.invariant.moves c.requires.walked in
    fault_as _ c.from_residual.result c.from_residual.ensures.1
    (stops_before (Enters to item) (HasCopied rule from to c.args.there.now) from (item ∷ []) items told here c.in_err-place_missing_one.field-0.0 kept (next_among items k item c.loop-item-test.true c.item-item.is)
    (λ v w is_v is_w h.
    let copied = c.loop-item.invariant.copied v w is_v is_w h in
    next_enters c.what_stands_is_found_step_by_step.ensures.below c.what_is_found_stands.ensures.enters c.prefix_comes_first.ensures.child rule from to c.args.there.now items k item w
    (source_tells c.walks_tell_the_tree.ensures.plan c.mapped_walks_tell_the_mapped_tree.ensures.apart rule from items here w walked is_w copied.copying.source.orderly) c.loop-item-test.true c.item-item.is copied)
    c.in_err-place_missing_one.ensures.moving)

pub place_missing_one-requires-clause-allowed : goal.place_missing_one-requires-clause-allowed
place_missing_one-requires-clause-allowed g c = c.requires.allowed c.item-item.result (c.loop-item.item-index, c.loop-item-test.true, sym c.item-item.is)

pub returns-clause-copies : goal.returns-clause-copies
returns-clause-copies g c v w is_v is_w h =
    let rule = c.args.sides.now.names in
    let from = c.args.sides.now.source in
    let to = c.args.sides.now.target in
    let there = c.args.there.now in
    all_copied rule from to there c.args.items.now w
    (subst (λ xs. HasCopied rule from to (there ++ xs) w) (take_all c.loop-item.item-index c.args.items.now c.loop-item-test.false) (c.loop-item.invariant.copied v w is_v is_w h))

pub returns-in_err-place_missing_one-clause-stops : goal.returns-in_err-place_missing_one-clause-stops
returns-in_err-place_missing_one-clause-stops g c =
    let rule = c.args.sides.now.names in
    let from = c.args.sides.now.source in
    let to = c.args.sides.now.target in
    let work = c.args.work.now in
    let items = c.args.items.now in
    let there = c.args.there.now in
    let told = g.F.Folder.told c.args.folder.now in
    let here = g.F.Folder.told c.loop-item.folder in
    let told' = g.F.Folder.told c.place_missing_one.new.folder in
    let left = g.R.Randoms.left c.args.random.now in
    let left1 = g.R.Randoms.left c.loop-item.random in
    let left2 = g.R.Randoms.left c.place_missing_one.new.random in
    let k = c.loop-item.item-index in
    let item = c.item-item.result in
    let i = c.loop-item.invariant in
    let walked = mapped_stay rule from to.root work items told here c.requires.apart (g.met.F.Folder.sound c.args.folder.now) i.moves c.requires.walked in
    fault_as _ c.from_residual.result c.from_residual.ensures.1
    (stops_more (SharesFrom (LacksOther rule from to there item) to work (item ∷ []) left1 left2 here told') (SharesFrom (IsFilled rule from to there) to work items left left2 told told') c.in_err-place_missing_one.field-0.0
    (shares_before (LacksOther rule from to there item) (IsFilled rule from to there) to work (item ∷ []) items left left1 left2 told here told' (seen_then _ told here i.moves)
    (λ v w is_v is_w h.
    let copied = i.copied v w is_v is_w h.0 in
    next_lacks rule from to there items k item w (source_tells c.walks_tell_the_tree.ensures.plan c.mapped_walks_tell_the_mapped_tree.ensures.apart rule from items here w walked is_w copied.copying.source.orderly) c.loop-item-test.true c.item-item.is
    copied (i.fills v w is_v is_w h).only)
    (λ v w is_v is_w h. let filled = i.fills v w is_v is_w h in (filled.loads, filled.tidy)) (next_among items k item c.loop-item-test.true c.item-item.is) c.draws_compose.ensures.composed
    (λ v is. let w = i.written (c.requires.there v is) in (slices w.made, w.writes.drawn))) c.in_err-place_missing_one.ensures.stops)

pub returns-in_err-place_missing_one-clause-drew : goal.returns-in_err-place_missing_one-clause-drew
returns-in_err-place_missing_one-clause-drew g c =
    let left = g.R.Randoms.left c.args.random.now in
    let left1 = g.R.Randoms.left c.loop-item.random in
    let left2 = g.R.Randoms.left c.place_missing_one.new.random in
    drew_failed left left2 c.from_residual.result c.from_residual.ensures.1
    (drew_then c.draws_compose.ensures.composed _ left left1 left2 c.loop-item.invariant.drew (drew_err Bool c.in_err-place_missing_one.field-0.0 left1 left2 c.in_err-place_missing_one.ensures.drew))

pub returns-clause-drew : goal.returns-clause-drew
returns-clause-drew g c = drew_tested (Ok c.loop-item.placed) (g.R.Randoms.left c.args.random.now) (g.R.Randoms.left c.loop-item.random) tt c.loop-item.invariant.drew
