-- What encoding and reading back return and leave in the caller's buffer, for all arguments, in the order of document 01's checks: the
-- family's, at GF(16) with w = 4 and rates 6 to 52.
--
--   fits_frame          there are 64 bytes of the frame from the start
--   encode_call         encode: rate; message of k bytes and 64 bytes of the frame; symbols
--   read_back_call       read back: rate; word of 64 and message buffer of k bytes; symbols; codeword
use Rattle.std.specs.Prelude.{Bool, List, ℕ}
use Rattle.family.specs.Member.{m16}
use Rattle.family.specs.Calls as Family
use Rattle.family.specs.Calls.{Answered}
use Rattle.code.specs.Encoding.{known_rate}

abbrev pub fits_frame : List ℕ → ℕ → Bool
fits_frame frame start = Family.fits_frame m16 frame start

abbrev pub encode_call : ℕ → List ℕ → List ℕ → ℕ → Answered
encode_call rate message frame start = Family.encode_call m16 known_rate rate message frame start

abbrev pub read_back_call : ℕ → List ℕ → List ℕ → Answered
read_back_call rate word message = Family.read_back_call m16 known_rate rate word message
