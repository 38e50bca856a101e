-- What stands at a path apart from a staged one stays, and with it what a content tells.
use Rattle.std.proofs.Common.{◌≡◌, ℕ, List, [], ◌∷◌, Option, Some, None, is_none, refl, sym, ap, ◌∙◌, subst}
use Rattle.folder_spec.specs.Path.{Path, below}
use Rattle.folder_spec.specs.State.{IsSound}
use Rattle.folder_spec.specs.Event.{Told, FromTo}
use Rattle.folder_spec.specs.Region.{apart_from}
use Rattle.folder_spec.specs.Replace.{IsStaging}
use Rattle.folder_spec.specs.View.{Found, View}
use Rattle.folder_spec.specs.Seen.{seen}
use Rattle.folder_spec.proofs.Moments.{went_to}
use Rattle.folder_spec.proofs.Tellings.{from_to_more, from_to_same}
use Rattle.folder_spec.proofs.Stages.{Staging, staging_none, one_file}
use Rattle.folder_spec.proofs.Regions.{seen_as_before}
use Rattle.folder_staging.specs.Pieces.{Stages}
use Rattle.content_writing.specs.Content.{Coming, IsReady, IsTold, still_coming}
use Rattle.content_writing.specs.Streaming.{IsStaged, StagesFront}
use Rattle.content_writing.specs.Writing.{ReadsApart}

pub stays : (files : List (List ℕ)) (at q : Path) (t u : Option Told) → ((a : Told) → t ≡ Some a → IsSound a.state) → Stages files at t u → below at q ≡ None
    → FromTo (λ a b. seen b.state q ≡ seen a.state q) t u
stays files at q t u sound stages apart =
    from_to_more (Staging files at) (λ a b. seen b.state q ≡ seen a.state q) t u
    (λ a b is h. seen_as_before (apart_from at) a.state b.state (sound a is) (went_to (IsStaging files at a.state) _ a b h).others q (ap is_none apart)) stages

-- what a content reads is still as it was
abbrev pub IsStill : Option Path → Option Told → Option Told → Type 0
IsStill None t u = Unit {0}
IsStill (Some q) t u = FromTo (λ a b. seen b.state q ≡ seen a.state q) t u

pub still_staged : (reads : Option Path) (at : Path) (files : List (List ℕ)) (t u : Option Told) → ((a : Told) → t ≡ Some a → IsSound a.state) → ReadsApart reads at → Stages files at t u
    → IsStill reads t u
still_staged None at files t u sound apart stages = tt
still_staged (Some q) at files t u sound apart stages = stays files at q t u sound stages apart

pub still_same : (reads : Option Path) (t u : Option Told) → IsStill reads t u → (f : Found → Option Coming) → still_coming reads u f ≡ still_coming reads t f
still_same None t u still f = refl
still_same (Some q) None None still f = refl
still_same (Some q) (Some a) (Some b) still f = ap f still
still_same (Some q) None (Some b) still f = absurd still
still_same (Some q) (Some a) None still f = absurd still

pub ready_now : (reads : Option Path) (t u : Option Told) → IsStill reads t u → (f : Found → Option Coming) → IsReady reads t f → IsReady reads u f
ready_now None t u still f ready = tt
ready_now (Some q) None None still f ready = λ v is. absurd is
ready_now (Some q) (Some a) (Some b) still f ready =
    λ v is. subst (λ x. IsTold (f x)) (sym still ∙ sym (ap (λ (w : View). w q) is)) (ready (seen a.state) refl)
ready_now (Some q) None (Some b) still f ready = absurd still
ready_now (Some q) (Some a) None still f ready = absurd still

pub ready_before : (reads : Option Path) (t u : Option Told) → IsStill reads t u → (f : Found → Option Coming) → IsReady reads u f → IsReady reads t f
ready_before None t u still f ready = tt
ready_before (Some q) None None still f ready = λ v is. absurd is
ready_before (Some q) (Some a) (Some b) still f ready =
    λ v is. subst (λ x. IsTold (f x)) (still ∙ sym (ap (λ (w : View). w q) is)) (ready (seen b.state) refl)
ready_before (Some q) None (Some b) still f ready = absurd still
ready_before (Some q) (Some a) None still f ready = absurd still

-- ---- what is staged

pub staged_stages : (at : Path) (made : List ℕ) (t u : Option Told) → IsStaged at made t u → StagesFront at made t u
staged_stages at made t u staged files front = (staged files front).stages

-- nothing was staged yet
pub stages_none : (at : Path) (made : List ℕ) (t u : Option Told) → u ≡ t → StagesFront at made t u
stages_none at made t u same files front = from_to_same (Staging files at) t u same (staging_none files at)

pub staged_still : (reads : Option Path) (at : Path) (made : List ℕ) (t u : Option Told) → ((a : Told) → t ≡ Some a → IsSound a.state) → ReadsApart reads at → IsStaged at made t u
    → IsStill reads t u
staged_still reads at made t u sound apart staged = still_staged reads at (made ∷ []) t u sound apart (staged (made ∷ []) (one_file made)).stages
