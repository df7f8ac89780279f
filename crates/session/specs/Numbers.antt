-- The numbers that document 01 states of a session, each as a numeral.
--
--   new-session        a newly opened session holds 1,024 costs of zero, and none of the 64 places is taken; up to 12 places are doubtful (#109)
--   refused-session    a refused opening hands back a new session of rate 39 with an empty doubtful list
use Rattle.std.specs.Prelude.{false, ◌≡◌, refl, List, [], ℕ, replicate}
use Rattle.lists.specs.Padded.{padded}
use Rattle.session.specs.View.{new_session}
use Rattle.session.specs.Calls.{refused_with}

pub new-session : (rate : ℕ) (list : List ℕ) → ((new_session rate list).costs ≡ replicate 1024 0) × ((new_session rate list).taken ≡ replicate 64 false)
    × ((new_session rate list).doubtful ≡ padded 12 list)
unfolding new_session
new-session rate list = (refl, refl, refl)

pub refused-session : (n : ℕ) → refused_with n ≡ record { refusal = n; session = new_session 39 [] }
unfolding refused_with
refused-session n = refl
