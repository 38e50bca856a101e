use Rattle.gocrypt_conf.proofs.unlocking.master_in.Goals as goal

pub returns-in-Err-clause-wrong_pass : goal.returns-in-Err-clause-wrong_pass
returns-in-Err-clause-wrong_pass c =
    λ _ master holds. c.in-Err.ensures.bad_tag master (rw (c.in_ok-key.ensures, c.as_slice.ensures) holds)
