use Rattle.std.proofs.Common.{Bool, List, [], ◌∷◌}
use Rattle.folder_spec.specs.Edit.{view_after, Edit, HasSettled, IsOutside}
use Rattle.folder_spec.specs.Path.{Path}
use Rattle.folder_spec.specs.Region.{apart_from}
use Rattle.folder_spec.specs.State.{present, State}
use Rattle.folder_spec.specs.View.{View, Shows, ShowsAmong}
use Rattle.migration_spec.proofs.Journals.{writes_on, written_on, begun_at, finished_at}
use Rattle.migration_spec.specs.Alone.{Unbegun, Begun, Finished}
use Rattle.migration_spec.proofs.laws.journals_keep_migrations_guarded.Goals as goal

pub returns : goal.returns
returns c =
    let alike = c.roots_show_their_own.ensures.alike in
    let elsewhere = c.roots_show_their_own.ensures.edited_elsewhere in
    let shown = c.images_show_views.ensures.one in
    let settled : (stage : Path) (edits : List Edit) (s0 s : State) → HasSettled stage edits s0 s → (region : Path → Bool) (v : View) → IsOutside stage region → Shows region s0 (present s0) v → ShowsAmong region s (view_after v edits ∷ []) =
    λ stage. c.edits_are_published.ensures.alone (apart_from stage) in
    record {
      begins = λ g j a b at apart allows journal phase tells. writes_on alike shown g Unbegun Begun j a b at (begun_at elsewhere g j a.state at apart allows journal phase tells);
      begun = λ g j a b at apart allows journal phase tells. written_on alike shown settled g Unbegun Begun j a b at (begun_at elsewhere g j a.state at apart allows journal phase tells);
      finishes = λ g j a b at all journal phase tells. writes_on alike shown g Begun Finished j a b at (finished_at alike elsewhere g j a.state at all journal phase tells);
      finished = λ g j a b at all journal phase tells. written_on alike shown settled g Begun Finished j a b at (finished_at alike elsewhere g j a.state at all journal phase tells);
    }
