-- A word of symbols is what its planes show, and a message symbol is the coefficient of its order; the front of the longest message that a word
-- shows, and its codeword.
use mathlib.Core.Bool.{true}
use mathlib.Core.Path.{◌≡◌, sym, ap, ◌∙◌}
use mathlib.Core.List.{List}
use Prim.Native.Nat.{ℕ, ◌%◌, ◌<◌, ◌≤◌}
use native.Mathlib.Nat.{mod-eq_of_lt}
use native.Mathlib.Omega.{arith}
use lib.ListN.{length, get_or, take}
use Rattle.lists.specs.Every.{true-T}
use Rattle.lists.specs.Listed.{listed_at, listed_by}
use Rattle.lists.specs.Words.{all_below, all_below-at}
use Rattle.galois.specs.Field16.{to_f-injective}
use Rattle.hermitian.specs.Orders.{order_of}
use Rattle.family.specs.Member.{m16, places, symbols}
use Rattle.family.specs.Evaluation.{present-yes, encode-length, encode-beyond}
use Rattle.family.specs.Extraction as Extraction
use Rattle.family.specs.Extraction.{extract-word, extract-take}
use Rattle.code.specs.Encoding.{known_rate, encode_of}
use Rattle.code.specs.Extraction.{message_at, extract_of}
use Rattle.code.specs.Rates.{longest, order-fits, known_small}
use Rattle.planes.specs.Arrays.{Carries, symbols_of, symbol_at, symbol-lt, element-symbol}
use Rattle.planes.specs.Words.{word_of}
use Rattle.functions.specs.Duals.{coefficient_at}
use Rattle.functions.specs.Duals as Duals
use Rattle.coefficients.specs.Reading.{coefficients_of}

pub shown-word : (word a : List ℕ) → length word ≡ places m16 → all_below (symbols m16) word ≡ true → Carries (symbols_of word) a → word_of a ≡ word
unfolding word_of
shown-word word a size below held =
    sym
    (listed_by 0 (places m16) word (symbol_at a) size
    (λ p h. to_f-injective _ _ (all_below-at (symbols m16) word (true-T _ below) p (omega arith)) (symbol-lt a p) (sym (held.lanes p h) ∙ element-symbol a p)))

pub message-entry : (v : List ℕ) (t : ℕ) {shown : List ℕ} {o : ℕ} → t < longest → shown ≡ coefficients_of v → o ≡ order_of m16.w (t % longest) → get_or shown o 0 ≡ message_at v t
unfolding Duals.coefficients_of coefficient_at Extraction.message_at
message-entry v t {shown} {o} h e q =
    let fits = order-fits t q in
    ap (λ l. get_or l o 0) e ∙ listed_at (places m16) o (coefficient_at m16 v) 0 fits.1 ∙ present-yes m16 o _ fits.0
    ∙ ap (Extraction.extracted_at m16 v) (q ∙ ap (order_of m16.w) (mod-eq_of_lt h))

-- the codeword of the message that a word shows
pub record Again (rate : ℕ) (word again : List ℕ) : Type 0 where
  pub is : again ≡ encode_of rate (extract_of rate word)
  pub long : length again ≡ places m16

module _ (rate : ℕ) (word : List ℕ) {found : List ℕ} (shown : found ≡ extract_of longest word) where
  pub found-long : length found ≡ longest
  found-long = ap length shown ∙ (extract-word m16 longest word).size

  module _ (known : known_rate rate ≡ true) where
    few : rate ≤ longest
    few = known_small rate known

    pub front-is : take rate found ≡ extract_of rate word
    front-is = ap (take rate) shown ∙ extract-take m16 rate longest word few

    pub front-long : length (take rate found) ≡ rate
    front-long = ap length front-is ∙ (extract-word m16 rate word).size

    pub again-is : {again : List ℕ} → again ≡ encode_of longest (take rate found) → Again rate word again
    again-is {again} e =
        let l = front-long in
        let is : again ≡ encode_of rate (extract_of rate word) =
        e ∙ encode-beyond m16 longest rate (take rate found) (omega (arith, few)) (omega (arith, l)) ∙ ap (encode_of rate) front-is in
        record { is = is; long = ap length is ∙ encode-length m16 rate (extract_of rate word) }
