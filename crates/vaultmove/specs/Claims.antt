-- What a command claims, by its row, its words and the journal that it found; and which commands claim only to read.
use Rattle.std.specs.Prelude.{◌≡◌, ◌⊎◌, ◌||◌, Bool, true, false, List, [], ◌∷◌, ◌++◌, Option, None, Some, drop, flat_map, is_some, IsTrue}
use Rattle.std.specs.List.{list_all, list_any}
use Rattle.command_words.specs.Commands.{first}
use Rattle.command_words.specs.Requests.{Request}
use Rattle.command_words.specs.Values.{folder_value}
use Rattle.command_words.specs.declared.rows.Claim.{Claim}
use Rattle.command_words.specs.declared.rows.Claim.TheVariants.{Shared, Alone}
use Rattle.command_words.specs.declared.rows.Place.{Place}
use Rattle.command_words.specs.declared.rows.Place.TheVariants.{Value, JournalSource, JournalTarget}
use Rattle.folder_spec.specs.Path.{Path}
use Rattle.host_ports.specs.Ground.{Ground}
use Rattle.host_places.specs.declared.claims.Hold.{Hold}
use Rattle.host_places.specs.declared.claims.Hold.TheVariants as held
use Rattle.host_places.specs.declared.claims.Wanted.{Wanted}
use Rattle.move_journal.specs.declared.journal.Journal.{Journal}

-- a value of the words, beside other runs that read the same
abbrev pub is_read : Claim → Bool
is_read (Shared (Value number)) = true
is_read (Shared JournalSource) = false
is_read (Shared JournalTarget) = false
is_read (Alone place) = false

-- all that is claimed is
abbrev pub only_reads : List Claim → Bool
only_reads claims = list_all is_read claims

-- what the journal in the work folder names
abbrev pub is_of_journal : Place → Bool
is_of_journal (Value number) = false
is_of_journal JournalSource = true
is_of_journal JournalTarget = true

abbrev pub place_of : Claim → Place
place_of (Shared place) = place
place_of (Alone place) = place

abbrev pub hold_of : Claim → Hold
hold_of (Shared place) = held.Shared
hold_of (Alone place) = held.Alone

abbrev pub names_roots : List Claim → Bool
names_roots claims = list_any (λ claim. is_of_journal (place_of claim)) claims

-- the path at a place
abbrev pub path_of : Place → Request → Option Journal → Option Path
path_of (Value number) request journal = folder_value (first (drop number request.values))
path_of JournalSource request (Some journal) = Some journal.source
path_of JournalTarget request (Some journal) = Some journal.target
path_of place request journal = None

abbrev pub wanted_at : Option Path → Hold → List Wanted
wanted_at None hold = []
wanted_at (Some at) hold = record { at = at; hold = hold } ∷ []

abbrev pub claimed : Request → Option Journal → Claim → List Wanted
claimed request journal claim = wanted_at (path_of (place_of claim) request journal) (hold_of claim)

-- all that a command claims, in the order of its row
abbrev pub claims_of : Request → Option Journal → List Wanted
claims_of request journal = flat_map (claimed request journal) request.row.claims

-- all of that was asked for, last
pub record HasAsked (request : Request) (journal : Option Journal) (ground : Ground) : Type 0 where
  pub before : List Wanted
  pub is : ground.asked ≡ before ++ claims_of request journal

-- all that the command claims was asked for, also what a journal names; or nothing is changed any more
abbrev pub AsksOrIsBarred : Request → Ground → Type 0
AsksOrIsBarred request ground = IsTrue ground.barred.changes ⊎ ((journal : Option Journal) × (IsTrue (names_roots request.row.claims) → IsTrue (is_some journal)) × HasAsked request journal ground)
