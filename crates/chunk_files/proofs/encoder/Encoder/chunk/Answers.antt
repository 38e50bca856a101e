use Rattle.std.proofs.Common.{◌≤◌, ℕ, List, length, take, ap, sym, ◌∙◌, subst, arith}
use Rattle.port_model.specs.Draws.{Draws}
use Rattle.chunk_files.specs.Encoding.{Encoding}
use Rattle.chunk_files.specs.Keys.{format_of}
use Rattle.chunk_files.specs.Contents.{is_refused}
use Rattle.chunk_files.specs.Told.{header_of}
use Rattle.chunk_files.proofs.Beginnings.{buffer-nonce, next-stored}
use Rattle.chunk_files.proofs.Encrypting.{goes-on}
use Rattle.chunk_files.proofs.encoder.Encoder.chunk.Goals as goal

pub returns-clause-goes_on : goal.returns-clause-goes_on
returns-clause-goes_on g c =
    let e = c.self.inside in
    let nonce : List ℕ = take c.in_ok-nonce.nonce.size c.in_ok-nonce.nonce.bytes in
    let made : Encoding = record { keys = e.keys; header = header_of e.told; number = e.number; is_open = e.is_open } in
    let stored : List ℕ = take c.seal_chunk-size.result c.seal_chunk-size.new.out in
    let is = c.seal_chunk-size.ensures.stored in
    let most : length c.args.plain.now ≤ (format_of e.keys).full_size = omega (arith, ap (λ (x : Encoding). (format_of x.keys).full_size) c.self.view_is, c.requires.at_most) in
    let next = next-stored e.keys (header_of e.told) e.number nonce c.args.plain.now c.in_ok-nonce.ensures.size stored c.in_ok-nonce.ensures.accepted is in
    rw (← c.self.view_is) (goes-on made c.args.plain.now stored c.requires.some most next)

pub returns-clause-stored : goal.returns-clause-stored
returns-clause-stored g c =
    let e = c.self.inside in
    let nonce : List ℕ = take c.in_ok-nonce.nonce.size c.in_ok-nonce.nonce.bytes in
    let is = c.seal_chunk-size.ensures.stored in
    let front = buffer-nonce e.keys (header_of e.told) e.number nonce c.args.plain.now c.in_ok-nonce.ensures.size c.seal_chunk-size.new.out c.seal_chunk-size.result is in
    rw (← c.self.view_is) (is ∙ ap (λ (n : List ℕ). (format_of e.keys).sealed_chunk (header_of e.told) e.number n c.args.plain.now) (sym front))

pub returns-clause-drawn : goal.returns-clause-drawn
returns-clause-drawn g c =
    let e = c.self.inside in
    let nonce : List ℕ = take c.in_ok-nonce.nonce.size c.in_ok-nonce.nonce.bytes in
    let is = c.seal_chunk-size.ensures.stored in
    let front = buffer-nonce e.keys (header_of e.told) e.number nonce c.args.plain.now c.in_ok-nonce.ensures.size c.seal_chunk-size.new.out c.seal_chunk-size.result is in
    rw (← c.self.view_is) (subst (λ (bytes : List ℕ). Draws (g.R.Randoms.left c.args.random.now) (g.R.Randoms.left c.draw_nonce.new.random) bytes) (sym front) c.in_ok-nonce.ensures.drawn)

pub returns-clause-accepted : goal.returns-clause-accepted
returns-clause-accepted g c =
    let e = c.self.inside in
    let nonce : List ℕ = take c.in_ok-nonce.nonce.size c.in_ok-nonce.nonce.bytes in
    let is = c.seal_chunk-size.ensures.stored in
    let front = buffer-nonce e.keys (header_of e.told) e.number nonce c.args.plain.now c.in_ok-nonce.ensures.size c.seal_chunk-size.new.out c.seal_chunk-size.result is in
    rw (← c.self.view_is) (ap (is_refused (format_of e.keys)) front ∙ c.in_ok-nonce.ensures.accepted)
