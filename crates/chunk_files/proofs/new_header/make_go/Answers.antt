use Rattle.std.proofs.Common.{◌≡◌, ℕ, List, length, take, ap, sym, ◌∙◌, arith}
use Rattle.std.proofs.lemmas.Result.{err_from_is_err_and}
use Rattle.chunk_files.specs.Gocryptfs.{go_header_of}
use Rattle.chunk_files.proofs.Beginnings.{started-go}
use Rattle.chunk_files.proofs.new_header.make_go.Goals as goal

pub returns-clause-header : goal.returns-clause-header
returns-clause-header g c keys empty go =
    let id : List ℕ = c.in_ok-drawn.drawn in
    let buffer : List ℕ = c.put_front.new.self in
    let size : length c.go_header.result ≡ 18 = omega (arith, ap length c.go_header.ensures, c.in_ok-drawn.ensures.sixteen) in
    let header : take 18 buffer ≡ go_header_of id = ap (λ (n : ℕ). take n buffer) (sym size) ∙ c.put_front.ensures.front ∙ c.go_header.ensures in
    started-go keys empty _ _ id (take 18 buffer) go c.in_ok-drawn.ensures.drawn c.in_ok-drawn.ensures.sixteen c.in_ok-drawn.ensures.some_bit header

pub returns-in_err-drawn-clause-fault : goal.returns-in_err-drawn-clause-fault
returns-in_err-drawn-clause-fault g c = λ key.
    let p = err_from_is_err_and c.from_residual.result c.from_residual.ensures.1 in
    rw (p.1, p.2) (c.in_err-drawn.ensures.fault key)
