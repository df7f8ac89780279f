-- The message that values show is one of symbols, since coefficients are.
use mathlib.Core.Path.{◌≡◌, ap, ◌∙◌}
use mathlib.Core.List.{List}
use Prim.Native.Nat.{ℕ, ◌<◌}
use native.Mathlib.Omega.{arith}
use lib.Dec.{T}
use lib.ListN.{take}
use Rattle.lists.specs.Listed.{listed, listed_at, listed-length}
use Rattle.lists.specs.Padded.{padded}
use Rattle.lists.specs.Words.{all_below, all_below-from}
use Rattle.planes.specs.Words.{word_of}
use Rattle.functions.specs.Duals as Duals
use Rattle.functions.specs.Duals.{coefficient_at, coefficient_at-lt}
use Rattle.coefficients.specs.Reading.{coefficients_of}
use Rattle.code.specs.Encoding.{encode_of, most_rate}
use Rattle.soft.specs.Column.{places, symbols}
use Rattle.family.specs.Member.{m16}
use Rattle.search.specs.Candidate as Family
use Rattle.candidate.specs.declared.Candidate.{Candidate}
use Rattle.candidate.specs.Candidate.{symbol_in, fields_of, ShownOf}
use Rattle.candidate.specs.Ranged.{Ranged}

coefficients-symbols : (v : List ℕ) → T (all_below symbols (coefficients_of v))
unfolding Duals.coefficients_of
coefficients-symbols v =
    all_below-from symbols (coefficients_of v) (λ o h.
    let l : o < places = omega (arith, listed-length places (coefficient_at m16 v)) in
    omega (arith, listed_at places o (coefficient_at m16 v) 0 l, coefficient_at-lt m16 v o))

pub shown-made : {k : ℕ} → Ranged k → (values function : List ℕ) (r : Candidate) → function ≡ coefficients_of (word_of values)
    → r.message ≡ padded most_rate (listed k (symbol_in function)) → r.codeword ≡ encode_of k (take k r.message) → ShownOf k values r
shown-made {k} rate values function r function-is message-is encoded =
    Family.shown-made m16 most_rate k rate.most (coefficients_of (word_of values)) (coefficients-symbols (word_of values)) (fields_of r)
    (message-is ∙ ap (λ g. padded most_rate (listed k (symbol_in g))) function-is) encoded
