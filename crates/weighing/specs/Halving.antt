-- The search for a threshold, for any number of places: the part of the numbers that it is in is halved at each turn.
--
--   Part places gaps few start width   at most so few entries are below the start, and at least so few below the end
--   part-start, part-turn, part_end   before the loop, at each turn, after it
use Rattle.std.specs.Prelude.{false, cond, ◌≡◌, List, ℕ, suc, ◌+◌, ◌-◌, ◌/◌, ◌<◌, ◌≤◌, leb, get_or}
use Rattle.std.proofs.Common.{sym, ap, ◌∙◌, subst, subst₂, arith}
use Rattle.std.proofs.Math.Decide.{dec_le}
use Rattle.std.proofs.Math.Dec.{ltb}
use borrow.Author.Tests.{le-leb, lt-leb, le-ltb}
use Rattle.lists.specs.Count.{count_none}
use Rattle.weighing.specs.Low.{above, below_by, Splits}

pub record Part (places : ℕ) (gaps : List ℕ) (few start width : ℕ) : Type 0 where
  pub some : 1 ≤ width
  pub within : start + width ≤ above
  pub at_most : below_by places start gaps ≤ few
  pub at_least : few ≤ below_by places (start + width) gaps

module _ (places : ℕ) (gaps : List ℕ) (few : ℕ) where
  none_below : below_by places 0 gaps ≡ 0
  unfolding below_by
  none_below = count_none places (λ p. ltb (get_or gaps p 0) 0) (λ p l. le-ltb (get_or gaps p 0) 0 (omega arith))

  pub part-start : few ≤ below_by places above gaps → Part places gaps few 0 above
  part-start h =
      let z : 0 + above ≡ above = omega arith in
      record {
        some = omega arith;
        within = omega arith;
        at_most = omega (arith, none_below);
        at_least = subst (λ n. few ≤ below_by places n gaps) (sym z) h;
      }

  module _ {start width half below : ℕ} (P : Part places gaps few start width) (large : 1 < width) (h : half ≡ width / 2)
      (b : below ≡ below_by places (start + half) gaps) where
    upper : below ≤ few → Part places gaps few (start + half) (width - half)
    upper l =
        let z : start + half + (width - half) ≡ start + width = omega arith in
        record {
          some = omega arith;
          within = omega (arith, P.within);
          at_most = omega (arith, b);
          at_least = subst (λ n. few ≤ below_by places n gaps) (sym z) P.at_least;
        }

    lower : few < below → Part places gaps few start half
    lower l = record { some = omega arith; within = omega (arith, P.within); at_most = P.at_most; at_least = omega (arith, b) }

    pub part-turn : {start' width' : ℕ} → start' ≡ cond (leb below few) (start + half) start → width' ≡ cond (leb below few) (width - half) half
        → Part places gaps few start' width' × (width' < width)
    part-turn {start'} {width'} s w = go (dec_le below few)
      where
        go : Dec (below ≤ few) → Part places gaps few start' width' × (width' < width)
        go (yes l) =
            let e = le-leb below few l in
            let s' : start' ≡ start + half = s ∙ ap (λ c. cond c (start + half) start) e in
            let w' : width' ≡ width - half = w ∙ ap (λ c. cond c (width - half) half) e in
            (subst₂ (Part places gaps few) (sym s') (sym w') (upper l), omega arith)
        go (no l) =
            let e : leb below few ≡ false = lt-leb below few (omega arith) in
            let s' : start' ≡ start = s ∙ ap (λ c. cond c (start + half) start) e in
            let w' : width' ≡ half = w ∙ ap (λ c. cond c (width - half) half) e in
            (subst₂ (Part places gaps few) (sym s') (sym w') (lower (omega arith)), omega arith)

  pub part_end : {start width : ℕ} → Part places gaps few start width → width ≤ 1 → Splits places gaps few start
  part_end {start} {width} P small =
      let z : start + width ≡ suc start = omega (arith, P.some) in
      record {
        within = omega (arith, P.within, P.some);
        at_most = P.at_most;
        at_least = subst (λ n. few ≤ below_by places n gaps) z P.at_least;
      }
