-- The streams in memory, which fail at the calls that a list names.
use Rattle.std.specs.Prelude.{ℕ, Bool, List, [], ◌==◌, ◌||◌, nat_lt, length}
use Rattle.std.specs.List.{list_any}
use Rattle.port_model.specs.Counts.{counted_up}

-- a source, or a random source, over a list of bytes
pub record Unread : Type 0 where
  pub left : List ℕ
  pub calls : ℕ
  pub fails : List ℕ
  pub faults : ℕ

-- a sink over a list of bytes, with room for so many more
pub record Written : Type 0 where
  pub taken : List ℕ
  pub room : ℕ
  pub calls : ℕ
  pub fails : List ℕ
  pub faults : ℕ

-- whether the list names the call after so many calls; calls are counted from 1
abbrev pub fails_next : List ℕ → ℕ → Bool
fails_next fails calls = list_any (λ call. call == counted_up calls) fails

-- a new source, of which no byte was taken
abbrev pub unread : List ℕ → List ℕ → Unread
unread bytes fails = record { left = bytes; calls = 0; fails = fails; faults = 0 }

-- a new sink, which took no byte
abbrev pub unwritten : ℕ → List ℕ → Written
unwritten room fails = record { taken = []; room = room; calls = 0; fails = fails; faults = 0 }

-- whether the next piece makes the sink fail: its call is listed, or it has no room
abbrev pub refuses : Written → List ℕ → Bool
refuses sink piece = fails_next sink.fails sink.calls || nat_lt sink.room (length piece)

-- whether the next call makes a random source fail: it is listed, or fewer bytes are left than it asks for
abbrev pub lacks : Unread → List ℕ → Bool
lacks random out = fails_next random.fails random.calls || nat_lt (length random.left) (length out)
