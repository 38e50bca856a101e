-- Why placing stops: a content that is damaged or passes the limit.
use Rattle.std.proofs.Common.{◌≡◌, ◌≢◌, ℕ, zero, arith, List, [], ◌∷◌, ◌++◌, Contains, Option, Some, None, Result, Ok, Err, IfErr, inl, inr, refl, sym, ap, ◌∙◌, subst}
use Rattle.chunk_files.specs.Reading as reading
use Rattle.chunk_files.specs.declared.fault.ChunkFault.{ChunkFault}
use Rattle.item_making.specs.Ending.{Ending, Damaged, TooLong}
use Rattle.content_writing.specs.Content.{Coming}
use Rattle.vault_write.specs.ContentsComing.{ending_of}
use Rattle.item_making.specs.declared.fault.PutFault.{PutFault}
use Rattle.item_making.specs.declared.fault.PutFault.TheVariants as put
use Rattle.folder_spec.proofs.Paths.{base_or_child}
use Rattle.folder_spec.specs.Event.{Told}
use Rattle.folder_spec.specs.Path.{Path}
use Rattle.folder_spec.specs.Seen.{IfSeen, IsSeen, seen, under}
use Rattle.folder_spec.specs.View.{Found, View}
use Rattle.plain_tree.specs.declared.NodeKind.TheVariants.{File}
use Rattle.plain_tree.specs.declared.name_map.NameMap.{NameMap}
use Rattle.tree_match.specs.Comparing.{bytes_found, content_at}
use Rattle.vault_read.specs.Contents.{IsOfPath, limited_reading}
use Rattle.vault_read.specs.Finding.{Refuses}
use Rattle.vault_faults.specs.declared.fault.FindFault.{FindFault}
use Rattle.vault_faults.specs.declared.fault.FindFault.TheVariants as finds
use Rattle.vault_spec.specs.Find.{Locked, NotFound, Refusal, WrongKind, enter}
use Rattle.vault_spec.specs.Format.{Directory}
use Rattle.vault_spec.specs.declared.Lack.TheVariants as lacks
use Rattle.vault_spec.specs.Opened.{OpenedVault}
use Rattle.vault_faults.specs.declared.fault.Limit.{Limit}
use Rattle.vault_faults.specs.declared.fault.Limit.TheVariants as limit
use Rattle.plain_tree.specs.Names as plain
use Rattle.vault_spec.specs.Making.{Allows, NewItem}
use Rattle.vault_spec.specs.Plan.{Planned}
use Rattle.vault_spec.specs.Vault.{format_of}
use Rattle.vault_write.specs.Calls.{MakesAt, MakesOne, New}
use Rattle.vault_write.specs.Faults.{IsDirectoryFault, IsFileFault}
use Rattle.item_making.specs.Making.{Placing}
use Rattle.vault_write.specs.Refusing.{Answers, TakesRoot}
use Rattle.migrate_core.proofs.Causing.{stop_more}
use Rattle.migrate_core.proofs.Planned.{FilesFit}
use Rattle.migrate_core.proofs.Writings.{Kept}
use Rattle.migrate_core.proofs.WrittenItems.{ToldContent, content_told}
use Rattle.migrate_core.specs.Causes.{Answer, EndsSo, IsStop, StopsAt, StopsLater, StopsSeen, nothing_stops}
use Rattle.migrate_core.specs.Copying.{Enters}
use Rattle.migrate_core.specs.Sides.{AllowsLast, IsItemOf}
use Rattle.migrate_core.specs.declared.fault.MoveFault.{MoveFault}

-- ---- among more items, and by what was seen before

ends_as : (from : OpenedVault) (v w : View) (items more : List Planned) (at : Path) (ending : reading.Ending) → ((item : Planned) → Contains items item → Contains more item × (w item.at ≡ v item.at))
    → EndsSo from w items at ending → EndsSo from v more at ending
ends_as from v w items more at ending same e = record {
  item = e.item;
  among = (same e.item e.among).0;
  file = e.file;
  place = e.place;
  ends = ap (λ (found : Found). (limited_reading (format_of from.vault).content (bytes_found found)).ending) (sym (same e.item e.among).1) ∙ e.ends;
}

stops_as : (Is More : Type 0) (from : OpenedVault) (v w : View) (items more : List Planned) → (More → Is) → ((item : Planned) → Contains items item → Contains more item × (w item.at ≡ v item.at)) → (why : PutFault)
    → StopsAt Is from w items why → StopsAt More from v more why
stops_as Is More from v w items more given same (put.Damaged at fault) is = ends_as from v w items more at (reading.Faulty fault) same is
stops_as Is More from v w items more given same (put.Limit (limit.Length at)) is = ends_as from v w items more at reading.Wanting same is
stops_as Is More from v w items more given same (put.Limit limit.Items) is = is
stops_as Is More from v w items more given same (put.Limit limit.Depth) is = is
stops_as Is More from v w items more given same (put.Limit limit.Input) is = is
stops_as Is More from v w items more given same put.Source is = is
stops_as Is More from v w items more given same (put.Find why) is = λ m. is (given m)
stops_as Is More from v w items more given same (put.NotAllowed path) is = is
stops_as Is More from v w items more given same (put.Taken at) is = tt
stops_as Is More from v w items more given same put.ZeroRandom is = tt
stops_as Is More from v w items more given same put.Random is = tt
stops_as Is More from v w items more given same put.Failed is = tt
stops_as Is More from v w items more given same put.NoMemory is = tt

-- what was so before is so later
abbrev pub Stays : (View → Type 0) → (View → Type 0) → Option Told → Option Told → Type 0
Stays More Is t u = (v w : View) → IsSeen t v → IsSeen u w → More v → Is w

pub stops_before : (Is More : View → Type 0) (from : OpenedVault) (items more : List Planned) (t u : Option Told) (fault : MoveFault) → Kept items t u → ((item : Planned) → Contains items item → Contains more item)
    → Stays More Is t u → StopsSeen Is u from items fault → StopsSeen More t from more fault
stops_before Is More from items more (Some a) (Some b) fault kept within stays later v is =
    let given : More v → Is (seen b.state) = stays v (seen b.state) is refl in
    stop_more (Is (seen b.state)) (More v) (StopsAt (Is (seen b.state)) from (seen b.state) items) (StopsAt (More v) from v more) fault given
    (stops_as (Is (seen b.state)) (More v) from v (seen b.state) items more given (λ item among. (within item among, kept item among ∙ sym (ap (λ (w : View). w item.at) is)))) (later (seen b.state) refl)
stops_before Is More from items more None u fault kept within stays later v is = absurd is
stops_before Is More from items more (Some a) None fault kept within stays later v is = absurd kept

pub if_stops_before : {T : Type 0} (result : Answer T) (Is More : View → Type 0) (from : OpenedVault) (items : List Planned) (t u : Option Told) → Kept items t u → Stays More Is t u
    → IfErr result (StopsSeen Is u from items) → IfErr result (StopsSeen More t from items)
if_stops_before (Ok value) Is More from items t u kept stays later = tt
if_stops_before (Err fault) Is More from items t u kept stays later = stops_before Is More from items items t u fault kept (λ item among. among) stays later

-- what stops later, when all is placed
pub later_seen : {T : Type 0} (result : Answer T) (Is More : View → Type 0) (from : OpenedVault) (items : List Planned) (t u : Option Told) → Stays More Is t u → IfSeen t (λ v. (w : View) × IsSeen u w)
    → IfErr result (StopsLater Is u) → IfErr result (StopsSeen More t from items)
later_seen (Ok value) Is More from items t u stays after later = tt
later_seen (Err fault) Is More from items t u stays after later = λ v is.
    let w : (w : View) × IsSeen u w = after v is in
    stop_more (Is w.0) (More v) nothing_stops (StopsAt (More v) from v items) fault (stays v w.0 is w.1) (λ why none. absurd none) (later w.0 w.1)

pub seen_stops : {T : Type 0} (result : Answer T) (Is : View → Type 0) (from : OpenedVault) (items : List Planned) (t : Option Told) (v : View) → IsSeen t v → IfErr result (StopsSeen Is t from items)
    → IfErr result (IsStop (Is v) (StopsAt (Is v) from v items))
seen_stops (Ok value) Is from items t v is stops = tt
seen_stops (Err fault) Is from items t v is stops = stops v is

-- ---- one item

-- what a refusal tells: of the directory that is to have the item and of its name, and how the content ends
abbrev pub Tells : OpenedVault → plain.Path → View → Ending → PutFault → Type 0
Tells to path v ending (put.Find why) =
    IsOfPath why → (front : plain.Path) × (name : List ℕ) × (path ≡ front ++ name ∷ []) × ((dir : Directory) → enter (format_of to.vault) (under to.root v) front ≢ Ok dir)
Tells to path v ending (put.NotAllowed at) = (front : plain.Path) × (name : List ℕ) × (path ≡ front ++ name ∷ []) × (¬ Allows (format_of to.vault) name)
Tells to path v ending (put.Damaged at fault) = ending ≡ Damaged at fault
Tells to path v ending (put.Limit which) = ending ≡ TooLong which
Tells to path v ending put.Source = Unit {0}
Tells to path v ending fault = Unit {0}

entered_or_not : (root : Path) (entered : Result Directory Refusal) (why : FindFault) → IsOfPath why → Refuses root entered why → (dir : Directory) → entered ≢ Ok dir
entered_or_not root entered (finds.NotFound at) of h dir e = let never : Err (NotFound at) ≡ Ok dir = sym h ∙ e in cc never
entered_or_not root entered (finds.WrongKind at) of h dir e = let never : Err (WrongKind at) ≡ Ok dir = sym h ∙ e in cc never
entered_or_not root entered (finds.NoDirKey at) of h dir e = let never : Err (Locked h.0 lacks.NoDirKey) ≡ Ok dir = sym h.2 ∙ e in cc never
entered_or_not root entered (finds.NoFolder at) of h dir e = let never : Err (Locked h.0 lacks.NoFolder) ≡ Ok dir = sym h.2 ∙ e in cc never
entered_or_not root entered finds.Failed of h dir e = absurd of
entered_or_not root entered finds.NoMemory of h dir e = absurd of

named_tells : (p : Placing) (drawn : List ℕ) (ending : Ending) (path : plain.Path) (v : View) (why : PutFault) → path ≡ p.front ++ p.name ∷ [] → Answers p drawn ending (under p.vault.root v) (Err why) → Tells p.vault path v ending why
named_tells p drawn ending path v (put.Damaged at fault) is h = h.1
named_tells p drawn ending path v (put.Limit which) is h = h.1
named_tells p drawn ending path v put.Source is h = tt
named_tells p drawn ending path v (put.Find why) is h = λ of. (p.front, p.name, is, entered_or_not p.vault.root (enter (format_of p.vault.vault) (under p.vault.root v) p.front) why of h.0)
named_tells p drawn ending path v (put.NotAllowed at) is h = (p.front, p.name, is, h.1.forbidden)
named_tells p drawn ending path v (put.Taken at) is h = tt
named_tells p drawn ending path v put.ZeroRandom is h = tt
named_tells p drawn ending path v put.Random is h = tt
named_tells p drawn ending path v put.Failed is h = tt
named_tells p drawn ending path v put.NoMemory is h = tt

abbrev Given : PutFault → Result (Unit {0}) PutFault
Given why = Err why

root_tells : (to : OpenedVault) (path : plain.Path) (v : View) (ending : Ending) (why : PutFault) → TakesRoot to.root (Err why) → Tells to path v ending why
root_tells to path v ending (put.Damaged at fault) h = let never : Given (put.Damaged at fault) ≡ Err put.NoMemory = h (λ e. cc e) in cc never
root_tells to path v ending (put.Limit which) h = let never : Given (put.Limit which) ≡ Err put.NoMemory = h (λ e. cc e) in cc never
root_tells to path v ending put.Source h = tt
root_tells to path v ending (put.Find why) h = let never : Given (put.Find why) ≡ Err put.NoMemory = h (λ e. cc e) in cc never
root_tells to path v ending (put.NotAllowed at) h = let never : Given (put.NotAllowed at) ≡ Err put.NoMemory = h (λ e. cc e) in cc never
root_tells to path v ending (put.Taken at) h = tt
root_tells to path v ending put.ZeroRandom h = tt
root_tells to path v ending put.Random h = tt
root_tells to path v ending put.Failed h = tt
root_tells to path v ending put.NoMemory h = tt

pub refusal_tells : (to : OpenedVault) (work : Path) (path : plain.Path) (item : NewItem) (ending : Ending) (drawn : List ℕ) (t u : Option Told) (why : PutFault) → MakesAt New to work path item ending drawn t u (Err why)
    → IfSeen t (λ v. Tells to path v ending why)
refusal_tells to work path item ending drawn t u why made v is = elim (base_or_child path) [
  | inl root ↦ root_tells to path v ending why (made.root root).2
  | inr named ↦
      let p : Placing = record { vault = to; work = work; front = named.0; name = named.1; item = item } in
      let one : MakesOne New p ending drawn t u (Err why) = made.named named.0 named.1 named.2 in
      named_tells p drawn ending path v why named.2 (one.answer v is)
]

not_found : (to : OpenedVault) (item : Planned) (v : View) (ending : Ending) (why : FindFault) → IsOfPath why → Tells to item.path v ending (put.Find why) → ¬ Enters to item v
not_found to item v ending why of tells enters =
    let told = tells of in
    let way = enters told.0 told.1 told.2 in
    told.3 way.0 way.1

name_forbidden : (to : OpenedVault) (item : Planned) (v : View) (ending : Ending) (at : plain.Path) → AllowsLast (format_of to.vault) item.path → Tells to item.path v ending (put.NotAllowed at) → ⊥
name_forbidden to item v ending at allowed tells = tells.3 (allowed tells.0 tells.1 tells.2)

pub directory_stops : (from to : OpenedVault) (item : Planned) (v : View) (ending : Ending) → AllowsLast (format_of to.vault) item.path → (why : PutFault) → IsDirectoryFault why → Tells to item.path v ending why
    → StopsAt (Enters to item v) from v (item ∷ []) why
directory_stops from to item v ending allowed (put.Damaged at fault) can tells = absurd can
directory_stops from to item v ending allowed (put.Limit which) can tells = absurd can
directory_stops from to item v ending allowed put.Source can tells = absurd can
directory_stops from to item v ending allowed (put.Find why) can tells = not_found to item v ending why can tells
directory_stops from to item v ending allowed (put.NotAllowed at) can tells = name_forbidden to item v ending at allowed tells
directory_stops from to item v ending allowed (put.Taken at) can tells = tt
directory_stops from to item v ending allowed put.ZeroRandom can tells = tt
directory_stops from to item v ending allowed put.Random can tells = tt
directory_stops from to item v ending allowed put.Failed can tells = tt
directory_stops from to item v ending allowed put.NoMemory can tells = tt

-- so its reading ends
record ReadSo (at : Path) (ending : reading.Ending) (at' : Path) (ending' : reading.Ending) : Type 0 where
  place : at ≡ at'
  ends : ending ≡ ending'

damaged_so : (at at' : Path) (ending : reading.Ending) (fault : ChunkFault) → ending_of at ending ≡ Damaged at' fault → ReadSo at ending at' (reading.Faulty fault)
damaged_so at at' reading.Whole fault e = cc e
damaged_so at at' reading.Wanting fault e = cc e
damaged_so at at' (reading.Faulty other) fault e = record { place = cc e; ends = cc e }

too_long_so : (at at' : Path) (ending : reading.Ending) → ending_of at ending ≡ TooLong (limit.Length at') → ReadSo at ending at' reading.Wanting
too_long_so at at' reading.Whole e = cc e
too_long_so at at' reading.Wanting e = record { place = cc e; ends = refl }
too_long_so at at' (reading.Faulty other) e = cc e

no_other : (at : Path) (ending : reading.Ending) (which : Limit) → ((path : Path) → which ≢ limit.Length path) → ending_of at ending ≢ TooLong which
no_other at reading.Whole which other e = cc e
no_other at reading.Wanting which other e = other at (cc e)
no_other at (reading.Faulty fault) which other e = cc e

by_ending : (reads : Option Path) (from to : OpenedVault) (item : Planned) (v : View) (why : PutFault) → item.node ≡ File → why ≢ put.Source → AllowsLast (format_of to.vault) item.path → IsFileFault reads why
    → Tells to item.path v (ending_of item.at (content_at (format_of from.vault).content v item.at).ending) why → StopsAt (Enters to item v) from v (item ∷ []) why
by_ending reads from to item v (put.Damaged at fault) node read allowed can told =
    let so = damaged_so item.at at (content_at (format_of from.vault).content v item.at).ending fault told in
    record { item = item; among = (zero, omega arith, refl); file = node; place = so.place; ends = so.ends }
by_ending reads from to item v (put.Limit (limit.Length at)) node read allowed can told =
    let so = too_long_so item.at at (content_at (format_of from.vault).content v item.at).ending told in
    record { item = item; among = (zero, omega arith, refl); file = node; place = so.place; ends = so.ends }
by_ending reads from to item v (put.Limit limit.Items) node read allowed can told = no_other item.at (content_at (format_of from.vault).content v item.at).ending limit.Items (λ path e. cc e) told
by_ending reads from to item v (put.Limit limit.Depth) node read allowed can told = no_other item.at (content_at (format_of from.vault).content v item.at).ending limit.Depth (λ path e. cc e) told
by_ending reads from to item v (put.Limit limit.Input) node read allowed can told = no_other item.at (content_at (format_of from.vault).content v item.at).ending limit.Input (λ path e. cc e) told
by_ending reads from to item v put.Source node read allowed can told = read refl
by_ending reads from to item v (put.Find why) node read allowed can told = not_found to item v (ending_of item.at (content_at (format_of from.vault).content v item.at).ending) why can told
by_ending reads from to item v (put.NotAllowed path) node read allowed can told = name_forbidden to item v (ending_of item.at (content_at (format_of from.vault).content v item.at).ending) path allowed told
by_ending reads from to item v (put.Taken at) node read allowed can told = tt
by_ending reads from to item v put.ZeroRandom node read allowed can told = tt
by_ending reads from to item v put.Random node read allowed can told = tt
by_ending reads from to item v put.Failed node read allowed can told = tt
by_ending reads from to item v put.NoMemory node read allowed can told = tt

-- a file of which the content was told
pub file_stops : (reads : Option Path) → FilesFit → (rule : NameMap) (from to : OpenedVault) (item : Planned) (t : Option Told) (content : List ℕ) (ending : Ending) (why : PutFault) → item.node ≡ File → why ≢ put.Source → AllowsLast (format_of to.vault) item.path → IsFileFault reads why
    → IsItemOf rule t from item → ToldContent from item t content ending → IfSeen t (λ v. Tells to item.path v ending why) → IfSeen t (λ v. StopsAt (Enters to item v) from v (item ∷ []) why)
file_stops reads fits rule from to item t content ending why node read allowed can of told ends v is =
    by_ending reads from to item v why node read allowed can
    (subst (λ (x : Ending). Tells to item.path v x why) (ap (λ (c : Coming). c.ending) (content_told fits rule from item t content ending node of told v is)) (ends v is))
