-- The bytes of a report, as a function divides them out of numbers that fit, for any number of bytes for each count of places.
--
--   absent-bytes, present-bytes   the five bytes of a margin
--   narrow-counts, broad-counts   those of the two counts, of a byte each and of two
--   report_bytes           those of a report, by the bytes of the margin and of the counts
use Rattle.std.specs.Prelude.{◌≡◌, refl, List, [], ◌∷◌, ◌++◌, ℕ, ◌/◌, ◌%◌, ◌<◌, get_or}
use Rattle.std.proofs.Common.{sym, ◌∙◌}
use Rattle.std.proofs.Math.Path.{ap, ap₂}
use Rattle.std.proofs.Math.Option.{Option, none, some}
use native.Mathlib.Omega.{arith}
use Rattle.soft.specs.Total.{bytes_of, margin_bytes, report_of}

module _ {margin : Option ℕ} where
  pub absent-bytes : margin ≡ none → 0 ∷ 0 ∷ 0 ∷ 0 ∷ 0 ∷ [] ≡ margin_bytes margin
  unfolding margin_bytes bytes_of
  absent-bytes e = ap margin_bytes (sym e)

  pub present-bytes : {d : ℕ} → margin ≡ some d → d < 4294967296
      → 1 ∷ d / 16777216 ∷ d / 65536 % 256 ∷ d / 256 % 256 ∷ d % 256 ∷ [] ≡ margin_bytes margin
  unfolding margin_bytes bytes_of
  present-bytes {d} e h =
      let e0 : d / 16777216 ≡ d / 256 / 256 / 256 % 256 = omega arith in
      let e1 : d / 65536 % 256 ≡ d / 256 / 256 % 256 = omega arith in
      let f : margin_bytes (some d) ≡ margin_bytes margin = ap margin_bytes (sym e) in
      cc

-- the bytes of the two counts, with what stands behind them
abbrev count_bytes : ℕ → ℕ → ℕ → List ℕ → List ℕ
count_bytes wide pinned changed behind = bytes_of wide pinned ++ (bytes_of wide changed ++ behind)

module _ {pinned changed : ℕ} (behind : List ℕ) where
  pub narrow-counts : pinned < 256 → changed < 256 → pinned ∷ changed ∷ behind ≡ count_bytes 1 pinned changed behind
  unfolding bytes_of
  narrow-counts p c =
      let e : pinned ≡ pinned % 256 = omega arith in
      let f : changed ≡ changed % 256 = omega arith in
      ap₂ (λ x y. x ∷ y ∷ behind) e f

  pub broad-counts : pinned < 65536 → changed < 65536
      → pinned / 256 ∷ pinned % 256 ∷ changed / 256 ∷ changed % 256 ∷ behind ≡ count_bytes 2 pinned changed behind
  unfolding bytes_of
  broad-counts p c =
      let e : pinned / 256 ≡ pinned / 256 % 256 = omega arith in
      let f : changed / 256 ≡ changed / 256 % 256 = omega arith in
      ap₂ (λ x y. x ∷ pinned % 256 ∷ y ∷ changed % 256 ∷ behind) e f

-- a margin has five bytes
margin-five : (margin : Option ℕ) (behind : List ℕ)
    → let b = margin_bytes margin in get_or b 0 0 ∷ get_or b 1 0 ∷ get_or b 2 0 ∷ get_or b 3 0 ∷ get_or b 4 0 ∷ behind ≡ b ++ behind
unfolding margin_bytes bytes_of
margin-five none behind = refl
margin-five (some d) behind = refl

-- what stands behind the counts: the margin's bytes and the mark
abbrev pub tail_of : List ℕ → ℕ → List ℕ
tail_of b mark = get_or b 0 0 ∷ get_or b 1 0 ∷ get_or b 2 0 ∷ get_or b 3 0 ∷ get_or b 4 0 ∷ mark ∷ []

pub report_bytes : (wide total tests pinned changed : ℕ) (margin : Option ℕ) (mark : ℕ) {b counts : List ℕ} → b ≡ margin_bytes margin
    → counts ≡ count_bytes wide pinned changed (tail_of b mark) → total < 4294967296 → tests < 65536 → mark < 256
    → total / 16777216 ∷ total / 65536 % 256 ∷ total / 256 % 256 ∷ total % 256 ∷ tests / 256 ∷ tests % 256 ∷ counts
    ≡ report_of wide total tests pinned changed margin mark
unfolding report_of bytes_of
report_bytes wide total tests pinned changed margin mark {b} {counts} r k ht hs hm =
    let e0 : total / 16777216 ≡ total / 256 / 256 / 256 % 256 = omega arith in
    let e1 : total / 65536 % 256 ≡ total / 256 / 256 % 256 = omega arith in
    let e4 : tests / 256 ≡ tests / 256 % 256 = omega arith in
    let e8 : mark ≡ mark % 256 = omega arith in
    let f : tail_of b mark ≡ margin_bytes margin ++ (mark % 256 ∷ []) =
    ap₂ tail_of r e8 ∙ margin-five margin (mark % 256 ∷ []) in
    let g : counts ≡ count_bytes wide pinned changed (margin_bytes margin ++ (mark % 256 ∷ [])) = k ∙ ap (count_bytes wide pinned changed) f in
    cc
