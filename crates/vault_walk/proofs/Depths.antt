-- Which directories were visited and which wait, by what is reached.
use Rattle.std.proofs.Common.{◌≡◌, ◌⊎◌, ◌↔◌, ℕ, List, [], ◌++◌, sym, ap, ◌∙◌, inl, inr, subst, length, arith, Contains, ⊎_elim}
use Rattle.std.proofs.lemmas.List.Elements.{Contains-append_left, Contains-append_right, Contains-append_cases}
use Rattle.folder_spec.specs.Path.{Path}
use Rattle.folder_spec.specs.View.{View}
use Rattle.vault_spec.specs.Findings.{IsFinding}
use Rattle.vault_spec.specs.Format.{Format, Directory}
use Rattle.vault_spec.specs.Listing.{node_of}
use Rattle.vault_spec.specs.Reached.{Leads, IsReached, IsReachedIn}
use Rattle.vault_spec.specs.Standing.{standing_in}
use Rattle.vault_spec.specs.declared.Finding.{Finding}
use Rattle.vault_walk.specs.Here.{IsFindingApart, IsFoundIn, IsFindingHere}
use Rattle.vault_walk.specs.Survey.{IsTooDeep, depth_limit}
use Rattle.vault_walk.specs.Walking.{Way, IsAmong, IsWalked, HoldsItem, IsFoundAmong}
use Rattle.vault_walk.proofs.Heres.{found_where}
use Rattle.vault_walk.proofs.Walks.{StandBehind, LeadThrough, ended_walk, way_reached}

-- once nobody waits, what was visited is what is reached
pub visited_is_reached : StandBehind → LeadThrough → (f : Format) (v : View) (steps : ℕ) (visits : List Way) → IsWalked f v steps visits [] → (dir : Directory) → IsReached f v dir ↔ IsAmong visits dir
visited_is_reached behind through f v steps visits walked dir = (
  λ reached. ended_walk behind through f v steps visits walked reached.0 dir reached.1,
  λ among. subst (IsReached f v) among.2 (among.0.path, walked.leads among.0 (Contains-append_left visits [] among.0 among.1)),
)

-- and what is found is found in what was visited, or apart
pub found_among : StandBehind → LeadThrough → (f : Format) (v : View) (steps : ℕ) (visits : List Way) → IsWalked f v steps visits [] → (finding : Finding) (at : Path)
    → IsFinding f v finding at ↔ (IsFoundAmong f v visits finding at ⊎ IsFindingApart f v finding at)
found_among behind through f v steps visits walked finding at = (
  λ found. ⊎_elim (λ one. inl (on one)) (λ apart. inr apart) ((found_where f v finding at).0 found),
  λ found. (found_where f v finding at).1 (⊎_elim (λ one. inl (back one)) (λ apart. inr apart) found),
)
  where
    on : IsFoundIn f v finding at → IsFoundAmong f v visits finding at
    on found =
        let among : IsAmong visits found.dir = (visited_is_reached behind through f v steps visits walked found.dir).0 found.reached in
        (among.0, among.1, subst (λ d. IsFindingHere f v d finding at) (sym among.2) found.here)

    back : IsFoundAmong f v visits finding at → IsFoundIn f v finding at
    back found = record { dir = found.0.dir; reached = (found.0.path, walked.leads found.0 (Contains-append_left visits [] found.0 found.1)); here = found.2 }

-- a vault is too deep where one that waits at the limit holds an item
pub deep_waits : (f : Format) (v : View) (visits waiting : List Way) → IsWalked f v depth_limit visits waiting → IsTooDeep f v ↔ ((way : Way) × Contains waiting way × HoldsItem f v way)
deep_waits f v visits waiting walked = (on, back)
  where
    on : IsTooDeep f v → (way : Way) × Contains waiting way × HoldsItem f v way
    on deep =
        let size : length deep.deep.path ≡ depth_limit = deep.deep.size in
        let among : IsAmong (visits ++ waiting) deep.spot.dir = walked.near deep.deep.path deep.spot.dir deep.deep.leads (omega (arith, size)) in
        ⊎_elim
        (λ old. absurd (deep.deep.least among.0.path (subst (Leads f v among.0.path) among.2 (walked.leads among.0 among.1)) (walked.before among.0 old)))
        (λ new. (among.0, new, (deep.spot.name, deep.item.node, ap (λ d. node_of (standing_in f v d deep.spot.name)) among.2 ∙ deep.item.stands)))
        (Contains-append_cases visits waiting among.0 among.1)

    back : (way : Way) × Contains waiting way × HoldsItem f v way → IsTooDeep f v
    back found =
        let reached : IsReachedIn f v (length found.0.path) found.0.dir = way_reached f v depth_limit visits waiting walked found.0 (Contains-append_right visits waiting found.0 found.1) in
        record {
          spot = record { dir = found.0.dir; name = found.2.0 };
          item = record { reached = (reached.path, reached.leads); node = found.2.1; stands = found.2.2 };
          deep = subst (λ n. IsReachedIn f v n found.0.dir) (walked.level found.0 found.1) reached;
        }
