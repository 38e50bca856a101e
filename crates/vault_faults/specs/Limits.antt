-- How long a content may be.
use Rattle.std.specs.Prelude.{ℕ}

-- the most bytes of a content, and of a content file: 2^40
abbrev pub content_limit : ℕ
content_limit = 1099511627776
