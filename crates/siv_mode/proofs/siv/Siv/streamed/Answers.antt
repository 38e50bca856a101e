use Rattle.std.proofs.Common.{◌≡◌, length, ◌∙◌, refl, ap, arith}
use Rattle.std.proofs.lemmas.List.{take_at}
use Rattle.siv_mode.specs.Keys.{Keys}
use Rattle.siv_mode.proofs.siv.Siv.streamed.Goals as goal

pub returns : goal.returns
returns g c =
    let same : length c.ctr128_xor.new.bytes ≡ c.in_ok-streamed.streamed.len =
    omega (arith, c.ctr128_xor.auto.bytes, c.as_mut_slice.ensures.len) in
    let key : c.self.inside.ctr ≡ c.args.self.now.ctr = ap (λ (k : Keys _). k.ctr) c.self.view_is in
    take_at _ _ _ same ∙ c.ctr128_xor.ensures
    ∙ rw (key, c.first_counter.ensures, c.as_mut_slice.ensures.value, c.in_ok-streamed.ensures.items) refl
