-- Encoding and reading back undo each other (demand 2), at every rate up to n − g.
--
--   encoding-injective   two messages that encode to one word are one
--   read-encoded         reading back an encoding gives the message
--   read-accepted        what was read back encodes to the word
--   read_none            a word to which no message encodes is not read
--   read-by-extraction-some, -none   the message read back is the one extracted, if that encodes to the word; else there is none
use Rattle.std.specs.Prelude.{◌≡◌, List, ℕ, ◌-◌, ◌≤◌}
use Rattle.std.proofs.Math.Path.{sym, ap}
use Rattle.std.proofs.Common.{◌∙◌, subst}
use Rattle.std.proofs.Math.Option.{some, none}
use Rattle.lists.specs.Words.{Word}
use Rattle.lists.specs.Answers.{Found, first_that-words, first_that-only, first_that-none, answers-some, Answers, free}
use Rattle.lists.specs.Same.{same-yes, same_of}
use Rattle.galois.specs.BinaryField.{size}
use Rattle.hermitian.specs.Present.{genus}
use Rattle.family.specs.Member.{Member, places}
use Rattle.family.specs.Encoding.{encode_of, encodes_to, read_back_of}
use Rattle.family.specs.Extraction.{extract_of, extract-word, extract-encode}

module _ (𝓜 : Member) where
  open 𝓜 use {gf, w}

  module _ (k : ℕ) (most : k ≤ places 𝓜 - genus w) where
    pub encoding-injective : (m n : List ℕ) → Word (size gf) k m → Word (size gf) k n → encode_of 𝓜 k m ≡ encode_of 𝓜 k n → m ≡ n
    encoding-injective m n u v e = sym (extract-encode 𝓜 k m most u) ∙ ap (extract_of 𝓜 k) e ∙ extract-encode 𝓜 k n most v

    -- whatever encodes to a word is what is extracted from it
    only-extracted : (v m : List ℕ) → Found (size gf) k (encodes_to 𝓜 k v) m → m ≡ extract_of 𝓜 k v
    unfolding encodes_to
    only-extracted v m f = sym (extract-encode 𝓜 k m most f.word) ∙ ap (extract_of 𝓜 k) (same-yes (encode_of 𝓜 k m) v f.passed)

    pub read-by-extraction-some : (v : List ℕ) → encode_of 𝓜 k (extract_of 𝓜 k v) ≡ v → read_back_of 𝓜 k v ≡ some (extract_of 𝓜 k v)
    unfolding read_back_of encodes_to
    read-by-extraction-some v e =
        first_that-only (size gf) k (encodes_to 𝓜 k v) (extract_of 𝓜 k v)
        (record { word = extract-word 𝓜 k v; passed = same_of (encode_of 𝓜 k (extract_of 𝓜 k v)) v e }) (only-extracted v)

    pub read-by-extraction-none : (v : List ℕ) → (encode_of 𝓜 k (extract_of 𝓜 k v) ≡ v → ⊥) → read_back_of 𝓜 k v ≡ none
    unfolding read_back_of encodes_to
    read-by-extraction-none v n =
        first_that-none (size gf) k (encodes_to 𝓜 k v)
        (λ m f. n (ap (encode_of 𝓜 k) (sym (only-extracted v m f)) ∙ same-yes (encode_of 𝓜 k m) v f.passed))

    pub read-encoded : (m : List ℕ) → Word (size gf) k m → read_back_of 𝓜 k (encode_of 𝓜 k m) ≡ some m
    read-encoded m u =
        read-by-extraction-some (encode_of 𝓜 k m) (ap (encode_of 𝓜 k) (extract-encode 𝓜 k m most u)) ∙ ap some (extract-encode 𝓜 k m most u)

  -- at every rate: what is read back is a message of that rate, and encodes to the word
  pub read-accepted : (k : ℕ) (v m : List ℕ) → read_back_of 𝓜 k v ≡ some m → (encode_of 𝓜 k m ≡ v) × Word (size gf) k m
  unfolding read_back_of encodes_to
  read-accepted k v m e =
      let f : Found (size gf) k (encodes_to 𝓜 k v) m = answers-some (subst (Answers free (Found (size gf) k (encodes_to 𝓜 k v))) e (first_that-words (size gf) k (encodes_to 𝓜 k v))) in
      (same-yes (encode_of 𝓜 k m) v f.passed, f.word)

  pub read_none : (k : ℕ) (v : List ℕ) → ((m : List ℕ) → Word (size gf) k m → encode_of 𝓜 k m ≡ v → ⊥) → read_back_of 𝓜 k v ≡ none
  unfolding read_back_of encodes_to
  read_none k v other = first_that-none (size gf) k (encodes_to 𝓜 k v) (λ m f. other m f.word (same-yes (encode_of 𝓜 k m) v f.passed))
