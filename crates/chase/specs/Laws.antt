-- What the call of the search says in each case, in document 01's modem.
--
--   nearest-asked         what it finds, where it may be asked for
--   nearest-call          what it says of the near codewords
--   unasked               arguments that may not be asked find nothing; unasked-rate: a rate that is not known is not asked
use Rattle.std.specs.Prelude.{◌≡◌, List, ◌⊎◌, ℕ, ◌<◌, take}
use Rattle.std.proofs.Common.{ap, ⊎_elim, arith}
use Rattle.code.specs.Encoding.{least_rate, most_rate}
use Rattle.soft.specs.Column.{places, symbols, column_of}
use Rattle.soft.specs.TestWord.{test_words}
use Rattle.search.specs.CallLaws as Family
use Rattle.candidate.specs.Ranged.{known-range}
use Rattle.answers.specs.declared.Finding.{Finding}
use Rattle.answers.specs.Result.{fields_of, finding_of, nothing_found, found_of}
use Rattle.chase.specs.Call.{scope64, Asked, nearest_of, NearestCall}

module _ (rate : ℕ) (costs doubtful : List ℕ) (doubt : ℕ) where
  pub nearest-asked : Asked rate costs doubtful doubt
      → nearest_of rate costs doubtful doubt ≡ found_of rate (column_of symbols costs) (test_words places (column_of symbols costs) (take doubt doubtful))
  nearest-asked A = ap finding_of (Family.nearest-asked scope64 rate costs doubtful doubt A)

  pub nearest-call : (f : Finding) → f ≡ nearest_of rate costs doubtful doubt → NearestCall rate costs doubtful doubt f
  nearest-call f e =
      let call = Family.nearest-call scope64 rate costs doubtful doubt (fields_of f) (ap fields_of e) in
      record { asked = call.asked; refused = λ n. ap finding_of (call.refused n); encoded = call.encoded }

  pub unasked : (f : Finding) → ¬ Asked rate costs doubtful doubt → f ≡ nothing_found → f ≡ nearest_of rate costs doubtful doubt
  unasked f n e = ap finding_of (Family.unasked scope64 rate costs doubtful doubt (fields_of f) n (ap fields_of e))

  pub unasked-rate : rate < least_rate ⊎ most_rate < rate → ¬ Asked rate costs doubtful doubt
  unasked-rate h A = let r = known-range rate A.known in ⊎_elim (λ a. omega arith) (λ a. omega arith) h
