-- What each answer of encoding and of reading back comes to, by the checks that led to it: for every member, and any rates that are known.
--
--   encode-rate, encode-message, encode-frame, encode-symbol   what encoding refuses, each past the checks before it
--   encode-done       past all of them: the codeword stands in the part of the frame that was lent for it
--   read-rate, read_word, read-buffer, read-symbol   what reading back refuses, each past the checks before it
--   last-check        past all of them the search for a message decides
--   read-refused, read_done   so at a rate up to n − g the message extracted does, by whether it encodes to the word
use Rattle.std.specs.Prelude.{Bool, true, false, ◌≡◌, List, ◌++◌, ℕ, ◌+◌, ◌-◌, ◌<◌, ◌≤◌}
use Rattle.std.proofs.Common.{sym, ◌∙◌, arith, drop-drop}
use Rattle.std.proofs.Math.Path.{ap, ap₂}
use Rattle.std.proofs.Math.ListN.{length, take, drop}
use borrow.Author.Tests.{eq-eqb, ne_eqb, le-leb, lt-leb}
use Rattle.lists.specs.Words.{all_below}
use Rattle.refusals.specs.Refusal.{accepted, unknown_rate, wrong_size, no_symbol, no_codeword}
use Rattle.hermitian.specs.Present.{genus}
use Rattle.family.specs.Member.{Member, symbols, places}
use Rattle.family.specs.Encoding.{encode_of, read_back_of}
use Rattle.family.specs.Evaluation.{encode-length}
use Rattle.family.specs.Extraction.{extract_of}
use Rattle.family.specs.Laws.{read-by-extraction-some, read-by-extraction-none}
use Rattle.family.specs.Calls.{outcome, placed, found, fits_frame, encode_call, read_back_call}

module _ (𝓜 : Member) (known : ℕ → Bool) where
  module _ (rate : ℕ) (m frame : List ℕ) (start : ℕ) where
    -- what a lent part leaves in the frame
    lent-part : (part : List ℕ) (end : ℕ) → end ≡ start + places 𝓜 → part ≡ encode_of 𝓜 rate m
        → take start frame ++ (part ++ drop (end - start) (drop start frame)) ≡ placed frame start (encode_of 𝓜 rate m)
    unfolding placed
    lent-part part end e q =
        let n : start + (end - start) ≡ start + length (encode_of 𝓜 rate m) = omega (arith, encode-length 𝓜 rate m) in
        ap₂ (λ x y. take start frame ++ (x ++ y)) q (drop-drop (end - start) start frame ∙ ap (λ k. drop k frame) n)

    pub encode-rate : known rate ≡ false → outcome unknown_rate frame ≡ encode_call 𝓜 known rate m frame start
    unfolding encode_call
    encode-rate unknown = simp unknown

    module _ (rated : known rate ≡ true) where
      pub encode-message : (length m ≡ rate → ⊥) → outcome wrong_size frame ≡ encode_call 𝓜 known rate m frame start
      unfolding encode_call
      encode-message n = simp (rated, ne_eqb (length m) rate n)

      module _ (sized : length m ≡ rate) where
        pub encode-frame : length frame < start + places 𝓜 → outcome wrong_size frame ≡ encode_call 𝓜 known rate m frame start
        unfolding encode_call fits_frame
        encode-frame h = simp (rated, eq-eqb (length m) rate sized, lt-leb (start + places 𝓜) (length frame) h)

        module _ (fits : start + places 𝓜 ≤ length frame) where
          pub encode-symbol : all_below (symbols 𝓜) m ≡ false → outcome no_symbol frame ≡ encode_call 𝓜 known rate m frame start
          unfolding encode_call fits_frame
          encode-symbol s = simp (rated, eq-eqb (length m) rate sized, le-leb (start + places 𝓜) (length frame) fits, s)

          pub encode-done : (part : List ℕ) (end : ℕ) → all_below (symbols 𝓜) m ≡ true → end ≡ start + places 𝓜 → part ≡ encode_of 𝓜 rate m
              → outcome accepted (take start frame ++ (part ++ drop (end - start) (drop start frame))) ≡ encode_call 𝓜 known rate m frame start
          unfolding encode_call fits_frame
          encode-done part end s e q =
              ap (outcome accepted) (lent-part part end e q)
              ∙ simp (rated, eq-eqb (length m) rate sized, le-leb (start + places 𝓜) (length frame) fits, s)

  module _ (rate : ℕ) (word buffer : List ℕ) where
    pub read-rate : known rate ≡ false → outcome unknown_rate buffer ≡ read_back_call 𝓜 known rate word buffer
    unfolding read_back_call
    read-rate unknown = simp unknown

    module _ (rated : known rate ≡ true) where
      pub read_word : (length word ≡ places 𝓜 → ⊥) → outcome wrong_size buffer ≡ read_back_call 𝓜 known rate word buffer
      unfolding read_back_call
      read_word n = simp (rated, ne_eqb (length word) (places 𝓜) n)

      module _ (whole : length word ≡ places 𝓜) where
        pub read-buffer : (length buffer ≡ rate → ⊥) → outcome wrong_size buffer ≡ read_back_call 𝓜 known rate word buffer
        unfolding read_back_call
        read-buffer n = simp (rated, eq-eqb (length word) (places 𝓜) whole, ne_eqb (length buffer) rate n)

        module _ (sized : length buffer ≡ rate) where
          pub read-symbol : all_below (symbols 𝓜) word ≡ false → outcome no_symbol buffer ≡ read_back_call 𝓜 known rate word buffer
          unfolding read_back_call
          read-symbol s = simp (rated, eq-eqb (length word) (places 𝓜) whole, eq-eqb (length buffer) rate sized, s)

          module _ (small : all_below (symbols 𝓜) word ≡ true) where
            pub last-check : read_back_call 𝓜 known rate word buffer ≡ found (read_back_of 𝓜 rate word) buffer
            unfolding read_back_call
            last-check = simp (rated, eq-eqb (length word) (places 𝓜) whole, eq-eqb (length buffer) rate sized, small)

            module _ (few : rate ≤ places 𝓜 - genus 𝓜.w) where
              pub read-refused : (encode_of 𝓜 rate (extract_of 𝓜 rate word) ≡ word → ⊥)
                  → outcome no_codeword buffer ≡ read_back_call 𝓜 known rate word buffer
              read-refused n = sym (last-check ∙ ap (λ r. found r buffer) (read-by-extraction-none 𝓜 rate few word n))

              pub read_done : encode_of 𝓜 rate (extract_of 𝓜 rate word) ≡ word
                  → outcome accepted (extract_of 𝓜 rate word) ≡ read_back_call 𝓜 known rate word buffer
              read_done e = sym (last-check ∙ ap (λ r. found r buffer) (read-by-extraction-some 𝓜 rate few word e))
