use Rattle.aes_lanes.proofs.rounds.cipher_block.Goals as goal

pub returns-in-Forward : goal.returns-in-Forward
returns-in-Forward c = λ words keys. rw c.in-Forward.is (c.encrypt_block.ensures words keys)

pub returns-in-Backward : goal.returns-in-Backward
returns-in-Backward c = λ words keys. rw c.in-Backward.is (c.decrypt_block.ensures words keys)
