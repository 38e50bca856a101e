-- The two keys of SIV: RFC 5297, section 2.2.

-- the key of S2V, and the key of counter mode
pub record Keys (C : Type 0) : Type 0 where
  pub mac : C
  pub ctr : C
