-- The modem of 512 places: GF(64) with w = 8, and what document 02, #114, fixes for it.
--
--   known_rate k          289 or 409 (known-rates)
--   modem512             the modem: those rates, a doubt of at most 12, rate 289 after a refused opening, and two bytes for each count of places
--   sizes-512            512 places, a column of 64 costs, a table of 65,536 bytes and a report of 16
--   lists-512            a doubtful list: at most 12 places, none above 511, strictly rising
--   rates-512            M = k + 27, and T with b blank places is the largest number with 2T + b < 512 − M − 28
--   report-512           where the report holds its numbers: pinned and changed places in two bytes each
use Rattle.std.specs.Prelude.{Bool, true, false, ◌||◌, ◌≡◌, refl, List, ◌↔◌, ◌⊎◌, ℕ, suc, ◌+◌, ◌-◌, ◌*◌, ◌<◌, ◌≤◌, eqb, length, get_or}
use Rattle.std.proofs.lemmas.Bool.{false≢true}
use Rattle.std.proofs.Common.{sym, subst, inl, inr, ⊎_elim, arith, lit<, lit≤, eqb-true, eq-eqb}
use Rattle.near.specs.Near.{m_of, blank_limit}
use Rattle.near.specs.Reach.{Workable, Reach}
use Rattle.book.specs.Model.{Model, places, width}
use Rattle.book.specs.opening.OpeningLaws.{DoubtfulList}
use Rattle.book.specs.closing.Closing.{report_length}
use Rattle.book.specs.tables.Table.{table_length}
use Rattle.book.specs.closing.Report.{number_in, pinned_in, changed_in, runner_in, margin_in, mark_in}
use Rattle.book.proofs.closing.Report.{number-byte}
use Rattle.member64.specs.Member64.{m64}
use Rattle.modem512.specs.Ground.{genus-8, workable-512, limits-512}

-- ---- 'Rates are 289 … and 409'

unfoldable pub known_rate : ℕ → Bool
known_rate k = eqb k 289 || eqb k 409

pub known-rates : (k : ℕ) → (known_rate k ≡ true) ↔ ((k ≡ 289) ⊎ (k ≡ 409))
unfolding known_rate
known-rates k = (λ e. go (eqb k 289) refl (eqb k 409) refl e, λ h. ⊎_elim first second h)
  where
    go : (a : Bool) → eqb k 289 ≡ a → (b : Bool) → eqb k 409 ≡ b → (a || b) ≡ true → (k ≡ 289) ⊎ (k ≡ 409)
    go true e b f t = inl (eqb-true k 289 e)
    go false e true f t = inr (eqb-true k 409 f)
    go false e false f t = absurd (false≢true t)

    first : k ≡ 289 → (eqb k 289 || eqb k 409) ≡ true
    first e = rw (eq-eqb k 289 e)

    second : k ≡ 409 → (eqb k 289 || eqb k 409) ≡ true
    second e = rw e refl

-- what holds at both rates holds at every known one
by-rates : (P : ℕ → Type 0) → P 289 → P 409 → (k : ℕ) → known_rate k ≡ true → P k
by-rates P a b k known = ⊎_elim (λ e. subst P (sym e) a) (λ e. subst P (sym e) b) ((known-rates k).0 known)

pub known-workable : (k : ℕ) → known_rate k ≡ true → Workable m64 k
known-workable = by-rates (Workable m64) (workable-512 (lit≤ tt) (lit≤ tt)) (workable-512 (lit≤ tt) (lit≤ tt))

pub known-doubt : (k : ℕ) → known_rate k ≡ true → 12 + blank_limit m64 k ≤ 512
known-doubt = by-rates (λ k. 12 + blank_limit m64 k ≤ 512) (omega (arith, limits-512.0)) (omega (arith, limits-512.2))

pub known-289 : known_rate 289 ≡ true
unfolding known_rate
known-289 = refl

pub known-409 : known_rate 409 ≡ true
unfolding known_rate
known-409 = refl

abbrev pub modem512 : Model
modem512 =
    record {
      member = m64;
      known = known_rate;
      workable = known-workable;
      most_doubt = 12;
      doubt_fits = known-doubt;
      first = 289;
      first_known = known-289;
      wide = 2;
      counts_fit = lit< tt;
      totals_fit = lit< tt;
      tests_fit = lit< tt;
    }

-- ---- its numbers

pub sizes-512 : (places modem512 ≡ 512) × (width modem512 ≡ 64) × (table_length modem512 ≡ 65536) × (report_length modem512 ≡ 16)
sizes-512 = (refl, refl, refl, refl)

pub lists-512 : (list : List ℕ)
    → DoubtfulList modem512 list
    ↔ ((length list ≤ 12) × ((i : ℕ) → i < length list → get_or list i 0 ≤ 511) × ((i : ℕ) → suc i < length list → get_or list i 0 < get_or list (suc i) 0))
lists-512 list = (
  λ d. (d.short, λ i l. omega (arith, d.in_range i l), d.rises),
  λ d. record { short = d.0; in_range = λ i l. omega (arith, d.1 i l); rises = d.2 },
)

pub rates-512 : (k b T : ℕ)
    → (m_of m64 k ≡ k + 27) × (Reach m64 k b T ↔ ((2 * T + b < 512 - (k + 27) - 28) × ((n : ℕ) → 2 * n + b < 512 - (k + 27) - 28 → n ≤ T)))
unfolding m_of
rates-512 k b T = (
  omega (arith, genus-8),
  (
    λ r. (omega (arith, r.fits, genus-8), λ n l. r.largest n (omega (arith, genus-8))),
    λ h. record { fits = omega (arith, h.0, genus-8); largest = λ n l. h.1 n (omega (arith, genus-8)) },
  ),
)

-- document 02: 'the 512-place report widens pinned and changed to two bytes each, 16 bytes in all with margin and mark'
pub report-512 : (report : List ℕ)
    → (pinned_in modem512 report ≡ 256 * get_or report 6 0 + get_or report 7 0) × (changed_in modem512 report ≡ 256 * get_or report 8 0 + get_or report 9 0)
    × (runner_in modem512 report ≡ get_or report 10 0)
    × (margin_in modem512 report ≡ 16777216 * get_or report 11 0 + 65536 * get_or report 12 0 + 256 * get_or report 13 0 + get_or report 14 0)
    × (mark_in modem512 report ≡ get_or report 15 0)
unfolding number_in
report-512 report = (omega arith, omega arith, number-byte 10 report, omega arith, number-byte 15 report)
