-- The row that `raised` returns: both parts times x + a.
use mathlib.Core.Path.{◌≡◌, sym, ◌∙◌, subst}
use mathlib.Core.List.{List}
use Prim.Native.Nat.{ℕ}
use Rattle.galois.specs.Gf16.{gf16}
use Rattle.galois.specs.Field16.{to_f}
use Rattle.family.specs.Member.{m16, px}
use Rattle.lanewise.specs.Rows as Rows
use Rattle.planes.specs.Product.{products-16}
use Rattle.planes.specs.Arrays.{Carries, everywhere, sum_of, sum_is, product_of, product_is, spread_of, spread-carries}
use Rattle.planes.specs.Rows.{whole_of, slope_of, joined_of, whole_is, slope-is, joined_is, Raised}

pub raised_by : (row : List ℕ) (a : ℕ) (xs : List ℕ) {c by w s bw bs r : List ℕ} → Carries (px m16) xs → c ≡ spread_of a → by ≡ sum_of xs c
    → w ≡ whole_of row → bw ≡ product_of by w → s ≡ slope_of row → bs ≡ product_of by s → r ≡ joined_of bw bs → Raised row a r
raised_by row a xs {c} {by} {w} {s} {bw} {bs} {r} x ec eb ew ebw es ebs er =
    Rows.raised_by gf16 products-16 row a xs c x (subst (Carries (everywhere (to_f a))) (sym ec) (spread-carries a)) (eb ∙ sum_is xs c) (ew ∙ whole_is row)
    (ebw ∙ product_is by w) (es ∙ slope-is row) (ebs ∙ product_is by s) (er ∙ joined_is bw bs)
