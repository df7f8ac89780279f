-- Costs as bytes, two each, high byte first: written and read again.
--
--   cost_bytes column       their bytes
--   cost-bytes-append, cost-bytes-length   the bytes of one list after another, and how many there are
--   cost-bytes-below       they are bytes, where no cost is above 65535
--   costs-written          costs written and read are the costs,
--   bytes_read             and bytes read and written are the bytes
use Rattle.std.specs.Prelude.{true, ◌≡◌, refl, List, [], ◌∷◌, ◌++◌, ℕ, zero, suc, ◌+◌, ◌*◌, ◌/◌, ◌%◌, ◌<◌, ◌≤◌, ltb, length, get_or}
use Rattle.std.proofs.Common.{ap, ap₂, ◌∙◌, arith, lt-ltb}
use Rattle.lists.specs.Listed.{listed_nil, listed_cons, listed-ext}
use Rattle.lists.specs.Distinct.{below, below-cons, and_both}
use Rattle.soft.specs.Column.{ceiling, cost_from, costs_from}

unfoldable pub cost_bytes : List ℕ → List ℕ
cost_bytes [] = []
cost_bytes (cost ∷ column) = cost / 256 ∷ cost % 256 ∷ cost_bytes column

pub cost-bytes-append : (a b : List ℕ) → cost_bytes (a ++ b) ≡ cost_bytes a ++ cost_bytes b
unfolding cost_bytes
cost-bytes-append [] b = refl
cost-bytes-append (c ∷ a) b = ap (λ (l : List ℕ). c / 256 ∷ c % 256 ∷ l) (cost-bytes-append a b)

pub cost-bytes-length : (column : List ℕ) → length (cost_bytes column) ≡ 2 * length column
unfolding cost_bytes
cost-bytes-length [] = refl
cost-bytes-length (c ∷ column) = omega (arith, cost-bytes-length column)

pub cost-bytes-below : (column : List ℕ) → ((i : ℕ) → get_or column i 0 ≤ ceiling) → below 256 (cost_bytes column) ≡ true
unfolding cost_bytes below
cost-bytes-below [] h = refl
cost-bytes-below (c ∷ column) h =
    let l : c ≤ ceiling = h 0 in
    and_both (ltb (c / 256) 256) (below 256 (c % 256 ∷ cost_bytes column)) (lt-ltb (c / 256) 256 (omega arith))
    (and_both (ltb (c % 256) 256) (below 256 (cost_bytes column)) (lt-ltb (c % 256) 256 (omega arith)) (cost-bytes-below column (λ i. h (suc i))))

costs-cons : (n h l : ℕ) (bytes : List ℕ) → costs_from (suc n) (h ∷ l ∷ bytes) ≡ (h * 256 + l) ∷ costs_from n bytes
unfolding costs_from
costs-cons n h l bytes =
    listed_cons n (cost_from (h ∷ l ∷ bytes))
    ∙ ap (λ (r : List ℕ). (h * 256 + l) ∷ r) (listed-ext n (λ k. cost_from (h ∷ l ∷ bytes) (suc k)) (cost_from bytes) later)
  where
    later : (k : ℕ) → k < n → cost_from (h ∷ l ∷ bytes) (suc k) ≡ cost_from bytes k
    later k b =
        let e : suc k * 2 ≡ suc (suc (k * 2)) = omega arith in
        let f : suc k * 2 + 1 ≡ suc (suc (k * 2 + 1)) = omega arith in
        rw (f, e)

no-costs : (bytes : List ℕ) → costs_from 0 bytes ≡ []
unfolding costs_from
no-costs bytes = listed_nil (cost_from bytes)

pub costs-written : (column : List ℕ) → costs_from (length column) (cost_bytes column) ≡ column
unfolding cost_bytes
costs-written [] = no-costs []
costs-written (c ∷ column) =
    costs-cons (length column) (c / 256) (c % 256) (cost_bytes column)
    ∙ ap₂ (λ x (l : List ℕ). x ∷ l) (omega arith) (costs-written column)

pub bytes_read : (n : ℕ) (bytes : List ℕ) → length bytes ≡ 2 * n → below 256 bytes ≡ true → cost_bytes (costs_from n bytes) ≡ bytes
unfolding cost_bytes
bytes_read zero [] e b = rw no-costs
bytes_read zero (h ∷ bytes) e b = absurd (omega arith)
bytes_read (suc n) [] e b = absurd (omega arith)
bytes_read (suc n) (h ∷ []) e b = absurd (omega arith)
bytes_read (suc n) (h ∷ l ∷ bytes) e b =
    let f : (h < 256) × (below 256 (l ∷ bytes) ≡ true) = below-cons 256 h (l ∷ bytes) b in
    let g : (l < 256) × (below 256 bytes ≡ true) = below-cons 256 l bytes f.1 in
    let i : l < 256 = g.0 in
    let high : (h * 256 + l) / 256 ≡ h = omega arith in
    let low : (h * 256 + l) % 256 ≡ l = omega arith in
    ap cost_bytes (costs-cons n h l bytes)
    ∙ ap₂ (λ x (r : List ℕ). x ∷ r) high (ap₂ (λ x (r : List ℕ). x ∷ r) low (bytes_read n bytes (omega arith) g.1))
