-- What a call knows by the number r that the checks of rate and sizes returned to it, in every modem.
--
--   passed             if r is 0, the rate is known and the sizes are those wanted
--   refused            if it is not, a call that is to answer with the checks' number, and leaves the buffers, may return r
use Rattle.std.specs.Prelude.{◌≡◌, List, ◌≢◌, ℕ, length}
use Rattle.std.proofs.Math.Path.{sym, ap}
use Rattle.std.proofs.Common.{◌∙◌}
use Rattle.refusals.specs.Refusal.{accepted}
use Rattle.book.specs.Model.{Model}
use Rattle.book.specs.closing.Closing.{Closed, refused_closing}
use Rattle.book.specs.tables.Table.{closed, checks_of, Checked}
use Rattle.book.proofs.tables.Table.{checks-passed}

module _ (𝓓 : Model) where
  pub passed : (rate given wanted message report : ℕ) {r : ℕ} → r ≡ checks_of 𝓓 rate given wanted message report → r ≡ accepted
      → Checked 𝓓 rate given wanted message report
  passed rate given wanted message report e a = checks-passed 𝓓 rate given wanted message report (sym e ∙ a)

  pub refused : (rate given wanted : ℕ) (message report : List ℕ) {r : ℕ} {answer : Closed}
      → r ≡ checks_of 𝓓 rate given wanted (length message) (length report) → r ≢ accepted
      → (checks_of 𝓓 rate given wanted (length message) (length report) ≢ accepted
      → answer ≡ refused_closing (checks_of 𝓓 rate given wanted (length message) (length report)) message report)
      → closed r message report ≡ answer
  unfolding refused_closing
  refused rate given wanted message report e n with_number = ap (λ k. closed k message report) e ∙ sym (with_number (λ a. n (e ∙ a)))
