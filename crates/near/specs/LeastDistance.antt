-- The least distance of the code: how many places any two different codewords differ in at least, and two that differ in no more.
--
--   Codeword k v           v is the codeword of a message of k symbols
--   LeastDistance k d      two codewords that are not equal differ in at least d places, and two of them in exactly d
--   codewords-far          for every member: in at least n − M
--   zero-codeword          the zero word is a codeword,
--   least-distance         so n − M is the least distance if a codeword has so many symbols that are not zero
--   codeword-terms         the codeword of a function with few terms, by what is computed of it
use Rattle.std.specs.Prelude.{◌≡◌, List, ◌≢◌, ℕ, ◌+◌, ◌-◌, ◌<◌, ◌≤◌, T, replicate}
use Rattle.std.proofs.Common.{sym, ap, ◌∙◌, subst₂, arith}
use Rattle.std.proofs.lemmas.List.{length-replicate, get_or-replicate}
use Rattle.lists.specs.Every.{every}
use Rattle.lists.specs.Listed.{listed, listed-length}
use Rattle.lists.specs.Words.{Word, all_below, all_below-from}
use Rattle.galois.specs.BinaryField.{one-lt}
use Rattle.hermitian.specs.Orders.{order_of}
use Rattle.soft.specs.Total.{everywhere, differing}
use Rattle.soft.specs.TotalLaws.{differing-self}
use Rattle.family.specs.Member.{Member, symbols, places}
use Rattle.family.specs.Encoding.{encode_of}
use Rattle.family.specs.Evaluation.{encode-zeros}
use Rattle.family.specs.Sparse.{Term, coefficient_in, message_of, terms_of, holds, encode-terms}
use Rattle.near.specs.Near.{m_of}
use Rattle.near.specs.Reach.{Workable, count-everywhere}
use Rattle.near.specs.Distance.{codewords-apart}

module _ (𝓜 : Member) where
  pub record Codeword (k : ℕ) (v : List ℕ) : Type 0 where
    pub message : List ℕ
    pub word : Word (symbols 𝓜) k message
    pub encodes : encode_of 𝓜 k message ≡ v

  pub record LeastDistance (k d : ℕ) : Type 0 where
    pub apart : (u v : List ℕ) → Codeword k u → Codeword k v → u ≢ v → d ≤ differing (places 𝓜) u v
    pub one : List ℕ
    pub another : List ℕ
    pub one_codeword : Codeword k one
    pub another_codeword : Codeword k another
    pub different : one ≢ another
    pub exactly : differing (places 𝓜) one another ≡ d

  pub codewords-far : {k : ℕ} → Workable 𝓜 k → (u v : List ℕ) → Codeword k u → Codeword k v → u ≢ v
      → places 𝓜 - m_of 𝓜 k ≤ differing (places 𝓜) u v
  codewords-far {k} rate u v a b other =
      subst₂ (λ x y. places 𝓜 - m_of 𝓜 k ≤ differing (places 𝓜) x y) a.encodes b.encodes
      (omega (
        arith,
        count-everywhere (places 𝓜),
        codewords-apart 𝓜 everywhere rate a.word b.word (λ e. other (sym a.encodes ∙ ap (encode_of 𝓜 k) e ∙ b.encodes)),
      ))

  abbrev pub zero_word : List ℕ
  zero_word = replicate (places 𝓜) 0

  pub zero-codeword : (k : ℕ) → Codeword k zero_word
  zero-codeword k =
      record {
        message = replicate k 0;
        word =
            record {
              size = length-replicate k 0;
              symbols =
                  all_below-from (symbols 𝓜) (replicate k 0)
                  (λ i h. omega (arith, get_or-replicate {A = ℕ} k i 0 0 (omega (arith, length-replicate {A = ℕ} k 0)), one-lt 𝓜.gf));
            };
        encodes = encode-zeros 𝓜 k (replicate k 0) (λ t h. get_or-replicate k t 0 0 h);
      }

  pub least-distance : {k d : ℕ} → Workable 𝓜 k → 0 < d → places 𝓜 ≡ m_of 𝓜 k + d → {v : List ℕ} → Codeword k v
      → differing (places 𝓜) zero_word v ≡ d → LeastDistance k d
  least-distance {k} {d} rate some far {v} c weight =
      record {
        apart = λ u t a b other. omega (arith, codewords-far rate u t a b other);
        one = zero_word;
        another = v;
        one_codeword = zero-codeword k;
        another_codeword = c;
        different = λ e.
            omega (
              arith,
              ap (differing (places 𝓜) zero_word) e,
              differing-self (places 𝓜) zero_word (omega (arith, length-replicate {A = ℕ} (places 𝓜) 0)),
            );
        exactly = weight;
      }

  -- its message has symbols only and no other terms, and its value is the symbol at each place
  pub codeword-terms : (k : ℕ) (ts : List Term) (symbol : ℕ → ℕ) → T (all_below (symbols 𝓜) (message_of 𝓜 k ts)) → terms_of 𝓜 k (message_of 𝓜 k ts) ≡ ts
      → T (every (places 𝓜) (holds 𝓜 ts symbol)) → Codeword k (listed (places 𝓜) symbol)
  unfolding message_of
  codeword-terms k ts symbol below all h =
      record {
        message = message_of 𝓜 k ts;
        word = record { size = listed-length k (λ t. coefficient_in ts (order_of 𝓜.w t)); symbols = below };
        encodes = encode-terms 𝓜 k (message_of 𝓜 k ts) ts symbol all h;
      }
