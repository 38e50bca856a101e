use Rattle.std.proofs.Common.{◌∙◌, refl}
use Rattle.siv_mode.specs.Siv.{siv_encrypt}
use Rattle.siv_mode.proofs.siv.Siv.seal.Goals as goal

pub returns : goal.returns
unfolding siv_encrypt
returns g c =
    let vector = c.s2v-vector.ensures in
    let body = c.in_ok-body.ensures in
    let start = c.in_ok-sealed.ensures.items in
    let first = c.in_ok-extend_from_slice.ensures.items in
    let second = c.in_ok-extend_from_slice-2.ensures.items in
    second ∙ rw (first, start, c.as_slice.ensures.value, body, vector) refl
