-- The bytes of a reading, of a Q with coefficients on keys. What they are of the least Q stands in proofs/.
--
--   byte_of M c i        byte i of the Q with the coefficients c on keys
--   former_length        82: the bytes of document 01, before Q1 had orders 17 to 32
use Prim.Native.Nat.{ℕ}
use Rattle.galois.specs.Field16.{GF, value}
use Rattle.interpolant.specs.LeastQ.{byte_key}

unfoldable pub byte_of : ℕ → (ℕ → GF) → ℕ → ℕ
byte_of M c i = value (c (byte_key M i))

-- ---- document 01's 82 bytes
abbrev pub former_length : ℕ
former_length = 82
