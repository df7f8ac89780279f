-- Which key a byte of the reading is of, by the byte's number.
--
--   key-plain   bytes 0 to 64 are those without z
--   key-z       bytes from 65 on are those with z
use Rattle.std.specs.Prelude.{◌≡◌, ℕ, ◌+◌, ◌-◌, ◌*◌, ◌≤◌}
use Rattle.std.proofs.Common.{ap, ◌∙◌, arith}
use Rattle.interpolant.specs.LeastQ.{byte_key}
use Rattle.interpolant.proofs.Reading.{byte_key-plain, byte_key-z}

pub key-plain : (M i : ℕ) → i ≤ 64 → byte_key M i ≡ 2 * i
key-plain M i h = byte_key-plain M i h

pub key-z : (M i : ℕ) → 65 ≤ i → byte_key M i ≡ 2 * (i - 65 + M) + 1
key-z M i h =
    let e : i ≡ 65 + (i - 65) = omega arith in
    ap (byte_key M) e ∙ byte_key-z M (i - 65)
