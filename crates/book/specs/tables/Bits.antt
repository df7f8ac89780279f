-- Decoding from bit values: rate, then sizes, then doubt, then blank places, then nearness, as table decoding has them; and why it answers as table decoding
-- does. Of every modem and any number b of bits a symbol; what speaks of tables asks that the modem has 2 ^ b symbols.
--
--   frame_length            b values for each place: 256 bytes where there are 64 places and four bits
--   table_made frame        the table that a frame makes
--   bits_of rate frame doubt message report   1 if the rate is unknown, 2 if a buffer has the wrong size, 4 if the doubt is too large;
--                          else what decoding by the frame's columns and the places of smallest gap answers
use Rattle.std.specs.Prelude.{Bool, ◌&&◌, leb, length}
use Rattle.std.proofs.Math.Bool.{cond}
use mathlib.Core.List.{List}
use Prim.Native.Nat.{ℕ, ◌*◌}
use Rattle.std.proofs.Math.Dec.{eqb}
use Rattle.refusals.specs.Refusal.{unknown_rate, wrong_size, wrong_doubt}
use Rattle.soft.specs.Doubt.{doubtful_of}
use Rattle.soft.specs.Bits.{bit_columns, bit_table}
use Rattle.book.specs.Model.{Model, places}
use Rattle.book.specs.closing.Closing.{report_length, Closed, refused_closing, decode_of}

module _ (𝓓 : Model) (b : ℕ) where
  open 𝓓 use {known, most_doubt}

  abbrev pub frame_length : ℕ
  frame_length = b * places 𝓓

  abbrev pub table_made : List ℕ → List ℕ
  table_made frame = bit_table b (places 𝓓) frame

  -- a frame and a report of their lengths, and a message of k, where k is the rate
  unfoldable pub bits_fit : ℕ → List ℕ → List ℕ → List ℕ → Bool
  bits_fit rate frame message report = eqb (length frame) frame_length && (eqb (length message) rate && eqb (length report) (report_length 𝓓))

  unfoldable pub bits_of : ℕ → List ℕ → ℕ → List ℕ → List ℕ → Closed
  bits_of rate frame doubt message report =
      cond (known rate)
      (cond (bits_fit rate frame message report)
      (cond (leb doubt most_doubt)
      (decode_of 𝓓 rate (bit_columns b frame) (doubtful_of (places 𝓓) doubt (bit_columns b frame)) message report)
      (refused_closing wrong_doubt message report))
      (refused_closing wrong_size message report))
      (refused_closing unknown_rate message report)
