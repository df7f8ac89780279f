-- One lane alone: the planes that `single` returns, and the row that `moved` does.
use mathlib.Core.Path.{◌≡◌, refl, sym, ap, ◌∙◌}
use mathlib.Core.List.{List, [], ◌∷◌}
use Prim.Native.Nat.{ℕ, ◌*◌, ◌/◌, ◌%◌, ◌^◌, ◌<◌}
use native.Mathlib.Nat.{mod-eq_of_lt}
use Rattle.galois.specs.Gf16.{gf16, times}
use Rattle.galois.specs.Field16.{to_f}
use Rattle.family.specs.Member.{m16, places}
use Rattle.lanewise.specs.Arrays.{carries-single}
use Rattle.lanewise.specs.Rows as Rows
use Rattle.planes.specs.Arrays.{Carries, only_at, sum_of, sum_is, symbol_at, element-symbol, four-bits}
use Rattle.planes.specs.Rows.{whole_of, slope_of, joined_of, whole_is, slope-is, joined_is, Moved}

pub single-carries : (q c : ℕ)
    → Carries (only_at q c)
    (c % 2 * 2 ^ q % 2 ^ places m16 ∷ c / 2 % 2 * 2 ^ q % 2 ^ places m16 ∷ c / 4 % 2 * 2 ^ q % 2 ^ places m16 ∷ c / 8 % 2 * 2 ^ q % 2 ^ places m16 ∷ [])
single-carries q c = carries-single gf16 (places m16) c _ q (four-bits c (λ x. x * 2 ^ q % 2 ^ places m16) refl refl refl refl)

pub moved_by : (row : List ℕ) (q c : ℕ) (one : List ℕ) {w s there r : List ℕ} {d by : ℕ} → q < places m16 → s ≡ slope_of row → d ≡ symbol_at s (q % 64) → by ≡ times c d
    → w ≡ whole_of row → Carries (only_at q by) one → there ≡ sum_of w one → r ≡ joined_of there s → Moved row q c r
moved_by row q c one {w} {s} {there} {r} {d} {by} l es ed eb ew single et er =
    Rows.moved_by gf16 row q c d one l (es ∙ slope-is row) (ap to_f (ed ∙ ap (symbol_at s) (mod-eq_of_lt l)) ∙ sym (element-symbol s q)) eb (ew ∙ whole_is row) single
    (et ∙ sum_is w one) (er ∙ joined_is there s)
