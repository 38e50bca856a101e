-- The commands: a row for each.
use Rattle.std.specs.Prelude.{ℕ, Bool, true, false, List, [], ◌∷◌, ◌++◌, codes, map, if◌then◌else◌, Option, None, Some}
use Rattle.std.specs.Str.{bytes_eq}
use Rattle.command_words.specs.declared.rows.Claim.{Claim}
use Rattle.command_words.specs.declared.rows.Claim.TheVariants.{Shared, Alone}
use Rattle.command_words.specs.declared.rows.Kind.{Kind}
use Rattle.command_words.specs.declared.rows.Kind.TheVariants.{FolderPath, PlainPath, PlainPathOrRoot, Format, Key, Number}
use Rattle.command_words.specs.declared.rows.Place.{Place}
use Rattle.command_words.specs.declared.rows.Place.TheVariants.{Value, JournalSource, JournalTarget}
use Rattle.command_words.specs.declared.rows.Row as code
use Rattle.command_words.specs.declared.rows.Valued as code_of_option
use Rattle.command_words.specs.declared.rows.Verb.{Verb}
use Rattle.command_words.specs.declared.rows.Verb.TheVariants.{DecryptFile, Init, Ls, Cat, Fsck, Mkdir, Put, Repair, Migrate, Resume, Retire, Passwd, Demo}

-- an option, and what its value writes
pub record Valued : Type 0 where
  pub name : List ℕ
  pub kind : Kind

-- a command: its name; what its positional words write; its options, each of which stands once; its flags, each of which stands once at
-- most and has no value; what it claims before it begins, and the two folders of these that have to be on one file system;
-- whether it prints before all is done; its statuses beside 0 and 3; and those of a folder alone that contradicts itself
pub record Row : Type 0 where
  pub verb : Verb
  pub name : List ℕ
  pub words : List Kind
  pub options : List Valued
  pub flags : List (List ℕ)
  pub claims : List Claim
  pub one_file_system : Option (Place × Place)
  pub streams : Bool
  pub statuses : List ℕ
  pub contradicted : List ℕ

abbrev pub path : List ℕ → Valued
path name = record { name = name; kind = FolderPath }

abbrev pub pass : List Valued
pass = path (codes "--pass") ∷ []

abbrev pub pass_and_work : List Valued
pass_and_work = path (codes "--pass") ∷ path (codes "--work") ∷ []

abbrev pub both_passes : List Valued
both_passes = path (codes "--from-pass") ∷ path (codes "--to-pass") ∷ []

abbrev pub row_of : Verb → Row
row_of DecryptFile = record {
  verb = DecryptFile;
  name = codes "decrypt-file";
  words = Key ∷ [];
  options = [];
  flags = [];
  claims = [];
  one_file_system = None;
  streams = true;
  statuses = 5 ∷ 6 ∷ 12 ∷ 23 ∷ [];
  contradicted = [];
}
row_of Init = record {
  verb = Init;
  name = codes "init";
  words = Format ∷ FolderPath ∷ [];
  options = pass_and_work;
  flags = [];
  claims = Alone (Value 1) ∷ Alone (Value 3) ∷ [];
  one_file_system = Some (Value 1, Value 3);
  streams = false;
  statuses = 4 ∷ 7 ∷ 10 ∷ 11 ∷ 15 ∷ 16 ∷ 17 ∷ 21 ∷ 23 ∷ [];
  contradicted = [];
}
row_of Mkdir = record {
  verb = Mkdir;
  name = codes "mkdir";
  words = FolderPath ∷ PlainPath ∷ [];
  options = pass_and_work;
  flags = [];
  claims = Alone (Value 0) ∷ Alone (Value 3) ∷ [];
  one_file_system = Some (Value 0, Value 3);
  streams = false;
  statuses = 4 ∷ 7 ∷ 8 ∷ 9 ∷ 10 ∷ 11 ∷ 12 ∷ 13 ∷ 15 ∷ 16 ∷ 17 ∷ 21 ∷ 22 ∷ 23 ∷ [];
  contradicted = [];
}
row_of Put = record {
  verb = Put;
  name = codes "put";
  words = FolderPath ∷ PlainPath ∷ [];
  options = pass_and_work;
  flags = [];
  claims = Alone (Value 0) ∷ Alone (Value 3) ∷ [];
  one_file_system = Some (Value 0, Value 3);
  streams = false;
  statuses = 4 ∷ 5 ∷ 7 ∷ 8 ∷ 9 ∷ 10 ∷ 11 ∷ 12 ∷ 13 ∷ 15 ∷ 16 ∷ 17 ∷ 21 ∷ 22 ∷ 23 ∷ [];
  contradicted = [];
}
row_of Passwd = record {
  verb = Passwd;
  name = codes "passwd";
  words = FolderPath ∷ [];
  options = path (codes "--pass") ∷ path (codes "--new-pass") ∷ path (codes "--work") ∷ [];
  flags = [];
  claims = Alone (Value 0) ∷ Alone (Value 3) ∷ [];
  one_file_system = Some (Value 0, Value 3);
  streams = false;
  statuses = 4 ∷ 7 ∷ 8 ∷ 9 ∷ 10 ∷ 11 ∷ 15 ∷ 16 ∷ 17 ∷ 21 ∷ 23 ∷ [];
  contradicted = [];
}
row_of Ls = record {
  verb = Ls;
  name = codes "ls";
  words = FolderPath ∷ PlainPathOrRoot ∷ [];
  options = pass;
  flags = [];
  claims = [];
  one_file_system = None;
  streams = false;
  statuses = 4 ∷ 6 ∷ 8 ∷ 9 ∷ 10 ∷ 11 ∷ 12 ∷ 23 ∷ [];
  contradicted = [];
}
row_of Cat = record {
  verb = Cat;
  name = codes "cat";
  words = FolderPath ∷ PlainPath ∷ [];
  options = pass;
  flags = [];
  claims = [];
  one_file_system = None;
  streams = true;
  statuses = 4 ∷ 6 ∷ 8 ∷ 9 ∷ 10 ∷ 11 ∷ 12 ∷ 23 ∷ [];
  contradicted = [];
}
row_of Fsck = record {
  verb = Fsck;
  name = codes "fsck";
  words = FolderPath ∷ [];
  options = pass;
  flags = [];
  claims = Shared (Value 0) ∷ [];
  one_file_system = None;
  streams = false;
  statuses = 1 ∷ 4 ∷ 6 ∷ 8 ∷ 9 ∷ 10 ∷ 11 ∷ 23 ∷ [];
  contradicted = [];
}
row_of Repair = record {
  verb = Repair;
  name = codes "repair";
  words = FolderPath ∷ FolderPath ∷ [];
  options = pass;
  flags = [];
  claims = Alone (Value 0) ∷ Alone (Value 1) ∷ [];
  one_file_system = Some (Value 0, Value 1);
  streams = false;
  statuses = 4 ∷ 6 ∷ 8 ∷ 9 ∷ 10 ∷ 11 ∷ 15 ∷ 16 ∷ 23 ∷ [];
  contradicted = [];
}
row_of Migrate = record {
  verb = Migrate;
  name = codes "migrate";
  words = FolderPath ∷ FolderPath ∷ FolderPath ∷ [];
  options = both_passes;
  flags = codes "--nfc" ∷ [];
  claims = Shared (Value 0) ∷ Alone (Value 1) ∷ Alone (Value 2) ∷ [];
  one_file_system = Some (Value 1, Value 2);
  streams = false;
  statuses = 4 ∷ 6 ∷ 7 ∷ 8 ∷ 9 ∷ 10 ∷ 11 ∷ 12 ∷ 13 ∷ 14 ∷ 15 ∷ 16 ∷ 17 ∷ 21 ∷ 22 ∷ 23 ∷ 25 ∷ [];
  contradicted = 20 ∷ [];
}
row_of Resume = record {
  verb = Resume;
  name = codes "resume";
  words = FolderPath ∷ [];
  options = both_passes;
  flags = [];
  claims = Alone (Value 0) ∷ Shared JournalSource ∷ Alone JournalTarget ∷ [];
  one_file_system = Some (JournalTarget, Value 0);
  streams = false;
  statuses = 4 ∷ 6 ∷ 7 ∷ 8 ∷ 9 ∷ 10 ∷ 11 ∷ 12 ∷ 13 ∷ 14 ∷ 15 ∷ 16 ∷ 18 ∷ 19 ∷ 20 ∷ 21 ∷ 22 ∷ 23 ∷ 24 ∷ 25 ∷ [];
  contradicted = 17 ∷ [];
}
row_of Retire = record {
  verb = Retire;
  name = codes "retire";
  words = FolderPath ∷ [];
  options = both_passes;
  flags = [];
  claims = Alone (Value 0) ∷ Alone JournalSource ∷ Alone JournalTarget ∷ [];
  one_file_system = Some (JournalSource, Value 0);
  streams = false;
  statuses = 4 ∷ 6 ∷ 8 ∷ 9 ∷ 10 ∷ 11 ∷ 12 ∷ 13 ∷ 14 ∷ 15 ∷ 16 ∷ 18 ∷ 20 ∷ 23 ∷ 25 ∷ [];
  contradicted = 17 ∷ [];
}
row_of Demo = record {
  verb = Demo;
  name = codes "demo";
  words = Number 18446744073709551615 ∷ Number 2000 ∷ [];
  options = [];
  flags = [];
  claims = [];
  one_file_system = None;
  streams = false;
  statuses = 6 ∷ 21 ∷ 22 ∷ [];
  contradicted = [];
}

abbrev pub verbs : List Verb
verbs = DecryptFile ∷ Init ∷ Mkdir ∷ Put ∷ Passwd ∷ Ls ∷ Cat ∷ Fsck ∷ Repair ∷ Migrate ∷ Resume ∷ Retire ∷ Demo ∷ []

abbrev pub row_in : List ℕ → List Row → Option Row
row_in name [] = None
row_in name (row ∷ rest) = if bytes_eq row.name name then Some row else row_in name rest

-- the row of the command of this name
abbrev pub row_named : List ℕ → Option Row
row_named name = row_in name (map row_of verbs)

-- what a row's values write: its words, and then its options
abbrev pub kinds_of : Row → List Kind
kinds_of row = row.words ++ map (λ valued. valued.kind) row.options

-- a row as the code has it
abbrev pub option_of_code : code_of_option.Valued → Valued
option_of_code valued = record { name = valued.name.now; kind = valued.value.kind }

abbrev pub row_of_code : code.Row → Row
row_of_code row = record {
  verb = row.verb;
  name = row.name.now;
  words = map (λ word. word.kind) row.words.now;
  options = map option_of_code row.options.now;
  flags = map (λ flag. flag.name.now) row.flags.now;
  claims = row.claims.now;
  one_file_system = row.one_file_system;
  streams = row.streams;
  statuses = row.statuses.now;
  contradicted = row.contradicted.now;
}
