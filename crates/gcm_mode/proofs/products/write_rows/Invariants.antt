use Rattle.std.proofs.Common.{◌≡◌, ℕ, ◌+◌, ◌*◌, ◌^◌, ◌<◌, length, get_or}
use Rattle.gcm_mode.specs.Field.{product}
use Rattle.gcm_mode.specs.Pairs.{byte_of, lane}
use Rattle.gcm_mode.specs.declared.vectors.Row.{Row}
use Rattle.gcm_mode.proofs.products.write_rows.Given as goal

abbrev pub invariant-loop-b : goal.invariant-loop-b
invariant-loop-b l =
    (length l.rows ≡ 16)
    × ((none : Row) (k m n : ℕ) → k < l.b → m < 2 → n < 16 → get_or (get_or l.rows k none).high (16 * m + n) 0 ≡ byte_of k (product (n * 2 ^ 124) (lane m l.fn.powers)))
    × ((none : Row) (k m n : ℕ) → k < l.b → m < 2 → n < 16 → get_or (get_or l.rows k none).low (16 * m + n) 0 ≡ byte_of k (product (n * 2 ^ 120) (lane m l.fn.powers)))
