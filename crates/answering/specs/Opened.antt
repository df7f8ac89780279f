-- Opening accepts exactly a known rate with a fit doubtful list, in every modem; said of the number r that it gives.
--
--   fit_opened, opened-fit   the two ways round
use Rattle.std.specs.Prelude.{Bool, true, false, ◌≡◌, List, ℕ}
use Rattle.std.proofs.Math.Path.{refl, sym}
use Rattle.std.proofs.Common.{ap, ◌∙◌, arith}
use Rattle.refusals.specs.Refusal.{accepted}
use Rattle.book.specs.Model.{Model}
use Rattle.book.specs.Book.{Outcome}
use Rattle.book.specs.opening.Opening.{fit_doubt, refused_opening, open_of}
use Rattle.book.specs.rows.RowLaws.{open-accepted, open-refused-rate, open-refused-list}

module _ (𝓓 : Model) (rate : ℕ) (list : List ℕ) {r : ℕ} (number : r ≡ (open_of 𝓓 rate list).number) where
  open 𝓓 use {known}

  pub fit_opened : known rate ≡ true → fit_doubt 𝓓 list ≡ true → r ≡ accepted
  fit_opened k f = number ∙ ap (λ (o : Outcome). o.number) (open-accepted 𝓓 rate list k f)

  pub opened-fit : r ≡ accepted → (known rate ≡ true) × (fit_doubt 𝓓 list ≡ true)
  unfolding refused_opening
  opened-fit e = go (known rate) refl (fit_doubt 𝓓 list) refl
    where
      given : (open_of 𝓓 rate list).number ≡ accepted
      given = sym number ∙ e

      go : (a : Bool) → known rate ≡ a → (b : Bool) → fit_doubt 𝓓 list ≡ b → (known rate ≡ true) × (fit_doubt 𝓓 list ≡ true)
      go true k true f = (k, f)
      go true k false f = absurd (omega (arith, sym (ap (λ (o : Outcome). o.number) (open-refused-list 𝓓 rate list k f)) ∙ given))
      go false k b f = absurd (omega (arith, sym (ap (λ (o : Outcome). o.number) (open-refused-rate 𝓓 rate list k)) ∙ given))
