-- The bytes of a margin as the code has it, and of a report with a byte for each count.
use mathlib.Core.Path.{◌≡◌, ap, ap₂, ◌∙◌}
use mathlib.Core.List.{List, [], ◌∷◌}
use mathlib.Core.Option.{Option}
use native.Mathlib.Omega.{arith}
use Prim.Native.Nat.{ℕ, ◌/◌, ◌%◌, ◌<◌}
use lib.ListN.{get_or}
use Rattle.std.specs.Prelude.{None, Some}
use Rattle.std.specs.Int.{to_be_bytes, w16, w32}
use Rattle.soft.specs.Total.{margin_bytes, report_of}
use Rattle.weighing.specs.Report as Report
use Rattle.answer.specs.Margin.{Margin, margin_is}

four-bytes : (n : ℕ) → n < 4294967296 → to_be_bytes w32 n ≡ n / 16777216 ∷ n / 65536 % 256 ∷ n / 256 % 256 ∷ n % 256 ∷ []
four-bytes n h =
    let e : n / 16777216 % 256 ≡ n / 16777216 = omega arith in
    ap (λ x. x ∷ n / 65536 % 256 ∷ n / 256 % 256 ∷ n % 256 ∷ []) e

two-bytes : (n : ℕ) → n < 65536 → to_be_bytes w16 n ≡ n / 256 ∷ n % 256 ∷ []
two-bytes n h =
    let e : n / 256 % 256 ≡ n / 256 = omega arith in
    ap (λ x. x ∷ n % 256 ∷ []) e

pub absent-bytes : {margin : Margin} → margin ≡ None → 0 ∷ 0 ∷ 0 ∷ 0 ∷ 0 ∷ [] ≡ margin_bytes (margin_is margin)
unfolding margin_is
absent-bytes e = Report.absent-bytes (ap margin_is e)

pub present-bytes : {margin : Margin} {d : ℕ} {b : List ℕ} → margin ≡ Some d → b ≡ to_be_bytes w32 d → d < 4294967296
    → 1 ∷ get_or b 0 0 ∷ get_or b 1 0 ∷ get_or b 2 0 ∷ get_or b 3 0 ∷ [] ≡ margin_bytes (margin_is margin)
unfolding margin_is
present-bytes {d = d} e b h =
    ap (λ l. 1 ∷ get_or l 0 0 ∷ get_or l 1 0 ∷ get_or l 2 0 ∷ get_or l 3 0 ∷ []) (b ∙ four-bytes d h)
    ∙ Report.present-bytes (ap margin_is e) h

pub report_bytes : (total tests pinned changed : ℕ) (margin : Option ℕ) (mark : ℕ) {a t b : List ℕ} → a ≡ to_be_bytes w32 total → t ≡ to_be_bytes w16 tests
    → b ≡ margin_bytes margin → total < 4294967296 → tests < 65536 → pinned < 256 → changed < 256 → mark < 256
    → get_or a 0 0 ∷ get_or a 1 0 ∷ get_or a 2 0 ∷ get_or a 3 0 ∷ get_or t 0 0 ∷ get_or t 1 0 ∷ pinned ∷ changed ∷ get_or b 0 0 ∷ get_or b 1 0 ∷ get_or b 2 0 ∷ get_or b 3 0 ∷ get_or b 4 0 ∷ mark ∷ []
    ≡ report_of 1 total tests pinned changed margin mark
report_bytes total tests pinned changed margin mark {a} {t} {b} a-is t-is r ht hs hp hc hm =
    ap₂ (λ l m. get_or l 0 0 ∷ get_or l 1 0 ∷ get_or l 2 0 ∷ get_or l 3 0 ∷ get_or m 0 0 ∷ get_or m 1 0 ∷ pinned ∷ changed ∷ Report.tail_of b mark)
    (a-is ∙ four-bytes total ht) (t-is ∙ two-bytes tests hs)
    ∙ Report.report_bytes 1 total tests pinned changed margin mark r (Report.narrow-counts (Report.tail_of b mark) hp hc) ht hs hm
