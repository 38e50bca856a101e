-- The items at whose contents comparing two vaults stops.
use Rattle.std.proofs.Common.{◌≡◌, ◌⊎◌, inl, inr, suc, ◌<◌, ◌&&◌, nat_eq, List, [], ◌∷◌, length, Bool, true, false, if◌then◌else◌, Option, Some, None, Contains, refl, subst₂, arith}
use Rattle.std.specs.List.{starts_with}
use Rattle.std.specs.Str.{bytes_eq}
use Rattle.chunk_files.specs.Keys.{Keys}
use Rattle.chunk_files.specs.Reading.{Ending}
use Rattle.folder_spec.specs.Path as folder
use Rattle.folder_spec.specs.View.{View}
use Rattle.plain_tree.specs.declared.NodeKind.{NodeKind}
use Rattle.plain_tree.specs.declared.NodeKind.TheVariants as node
use Rattle.vault_spec.specs.Plan.{Planned}
use Rattle.tree_match.proofs.HeldTrees.{found_with}
use Rattle.tree_match.specs.Comparing.{Content, Outcome, Is, Stops, compared, content_at, is_cut}
use Rattle.tree_match.specs.Matching.{by_item, content_held, first_differing, first_further, held_as, held_by, item_with, matched}
use Rattle.tree_match.specs.declared.answer.How.{How}
use Rattle.tree_match.specs.declared.answer.Match.{Match}

-- the one content is read to this ending, at this path, and the other begins with all that was read of it
pub record EndsWithin (at : folder.Path) (ending : Ending) (one other : Content) : Type 0 where
  pub place : one.at ≡ at
  pub ends : one.ending ≡ ending
  pub begins : starts_with nat_eq other.bytes one.bytes ≡ true

-- a file of both, at one plain path, at whose contents comparing stops
pub record IsCutItem (a b : Keys) (v : View) (items others : List Planned) (at : folder.Path) (ending : Ending) : Type 0 where
  pub item : Planned
  pub other : Planned
  pub among : Contains items item
  pub among_others : Contains others other
  pub same : other.path ≡ item.path
  pub file : item.node ≡ node.File
  pub other_file : other.node ≡ node.File
  pub stops : compared (content_at a v item.at) (content_at b v other.at) ≡ Stops at ending

abbrev stopped : (A : Type 0) → folder.Path → Ending → Outcome A
stopped A at ending = Stops at ending

is_stop : (A : Type 0) {p q : folder.Path} {e f : Ending} → stopped A p e ≡ stopped A q f → (p ≡ q) × (e ≡ f)
is_stop A is = (cc is, cc is)

-- an item at which it stops
record IsStop (held : Planned → Outcome (Option How)) (items : List Planned) (at : folder.Path) (ending : Ending) : Type 0 where
  item : Planned
  among : Contains items item
  stops : held item ≡ Stops at ending

stop_of : (held : Planned → Outcome (Option How)) (last : Match) (at : folder.Path) (ending : Ending) (items : List Planned) → first_differing held items (Is last) ≡ Stops at ending → IsStop held items at ending
unfolding first_differing
stop_of held last at ending [] is = cc is
stop_of held last at ending (x ∷ xs) is = by (held x) refl is (stop_of held last at ending xs)
  where
    by : (outcome : Outcome (Option How)) → held x ≡ outcome → by_item x.path outcome (first_differing held xs (Is last)) ≡ Stops at ending → (first_differing held xs (Is last) ≡ Stops at ending → IsStop held xs at ending)
        → IsStop held (x ∷ xs) at ending
    by (Is None) e is later =
        let rest : IsStop held xs at ending = later is in
        let few : rest.among.0 < length xs = rest.among.1 in
        record { item = rest.item; among = (suc rest.among.0, omega (arith, few), rest.among.2); stops = rest.stops }
    by (Is (Some how)) e is later = cc is
    by (Stops at' ending') e is later =
        let same = is_stop Match is in
        record { item = x; among = (0, omega arith, refl); stops = subst₂ (λ p f. held x ≡ stopped (Option How) p f) same.0 same.1 e }

content_stops : (outcome : Outcome Bool) (at : folder.Path) (ending : Ending) → content_held outcome ≡ Stops at ending → outcome ≡ Stops at ending
content_stops (Is true) at ending is = cc is
content_stops (Is false) at ending is = cc is
content_stops (Stops at' ending') at ending is = let same = is_stop (Option How) is in subst₂ (λ p f. stopped Bool at' ending' ≡ stopped Bool p f) same.0 same.1 refl

-- both are files
record AreFiles (n m : NodeKind) (outcome : Outcome Bool) (at : folder.Path) (ending : Ending) : Type 0 where
  one : n ≡ node.File
  other : m ≡ node.File
  stops : outcome ≡ Stops at ending

files_stop : (n m : NodeKind) (outcome : Outcome Bool) (at : folder.Path) (ending : Ending) → held_as n m outcome ≡ Stops at ending → AreFiles n m outcome at ending
files_stop node.Dir node.Dir outcome at ending is = cc is
files_stop node.Dir node.File outcome at ending is = cc is
files_stop node.File node.Dir outcome at ending is = cc is
files_stop node.File node.File outcome at ending is = record { one = refl; other = refl; stops = content_stops outcome at ending is }

pub cut_item : (a b : Keys) (v : View) (items others : List Planned) (at : folder.Path) (ending : Ending) → matched a items b others v ≡ Stops at ending → IsCutItem a b v items others at ending
cut_item a b v items others at ending is =
    let stop = stop_of (λ item. held_by a b v item (item_with item.path others)) (first_further items others) at ending items is in
    by stop.item stop.among (item_with stop.item.path others) refl stop.stops
  where
    by : (x : Planned) → Contains items x → (found : Option Planned) → item_with x.path others ≡ found → held_by a b v x found ≡ Stops at ending → IsCutItem a b v items others at ending
    by x among None e stops = cc stops
    by x among (Some y) e stops =
        let found = found_with x.path others y e in
        let files = files_stop x.node y.node (compared (content_at a v x.at) (content_at b v y.at)) at ending stops in
        record { item = x; other = y; among = among; among_others = found.0; same = found.1; file = files.one; other_file = files.other; stops = files.stops }

-- ---- which of two contents it is

pub cut_content : (one other : Content) (at : folder.Path) (ending : Ending) → compared one other ≡ Stops at ending → EndsWithin at ending one other ⊎ EndsWithin at ending other one
unfolding compared
cut_content one other at ending is =
    by (is_cut one.ending) (starts_with nat_eq other.bytes one.bytes) (is_cut other.ending) (starts_with nat_eq one.bytes other.bytes) refl refl is
  where
    by : (cut begins cut' begins' : Bool) → starts_with nat_eq other.bytes one.bytes ≡ begins → starts_with nat_eq one.bytes other.bytes ≡ begins'
        → (if cut && begins then Stops one.at one.ending else if cut' && begins' then Stops other.at other.ending else Is (bytes_eq one.bytes other.bytes)) ≡ Stops at ending
        → EndsWithin at ending one other ⊎ EndsWithin at ending other one
    by true true cut' begins' e e' is = let same = is_stop Bool is in inl (record { place = same.0; ends = same.1; begins = e })
    by true false true true e e' is = let same = is_stop Bool is in inr (record { place = same.0; ends = same.1; begins = e' })
    by true false true false e e' is = cc is
    by true false false begins' e e' is = cc is
    by false begins true true e e' is = let same = is_stop Bool is in inr (record { place = same.0; ends = same.1; begins = e' })
    by false begins true false e e' is = cc is
    by false begins false begins' e e' is = cc is
