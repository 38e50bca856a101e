-- What is written to a terminal.
use Rattle.std.specs.Prelude.{ℕ, Bool, ◌&&◌, nat_le, nat_lt}

-- behind the byte 0xC2, what UTF-8 writes of the control characters U+0080 to U+009F
abbrev pub is_control : ℕ → Bool
is_control byte = nat_le 0x80 byte && nat_lt byte 0xa0
