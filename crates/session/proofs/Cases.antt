-- What opening answers at an unknown rate, whatever the doubtful list.
use mathlib.Core.Bool.{false}
use mathlib.Core.Path.{◌≡◌, sym}
use mathlib.Core.List.{List, []}
use Prim.Native.Nat.{ℕ}
use Rattle.refusals.specs.Refusal.{unknown_rate}
use Rattle.code.specs.Encoding.{known_rate}
use Rattle.session.specs.View.{new_session}
use Rattle.session.specs.Calls.{Ending, refused_with, opened_of}
use Rattle.session.specs.Laws.{opened-rate}

pub unknown_first : (rate : ℕ) (list : List ℕ) → known_rate rate ≡ false
    → ◌≡◌ {A = Ending} (record { refusal = unknown_rate; session = new_session 39 [] }) (opened_of rate list)
unfolding refused_with
unknown_first rate list e = sym (opened-rate rate list e)
