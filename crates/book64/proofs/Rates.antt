-- T at the modem of 64 places.
--
--   rate-reaches   T without blank places at three rates
use Rattle.std.proofs.Common.{lit≤}
use Rattle.near.specs.Here.{IsReach}
use Rattle.near.proofs.Here.{reach-table}
use Rattle.book64.specs.Rates.{rate-blanks, rate-52}

-- document 01: 'T = 6 at rate 39, T = 1 at rate 49'; document 02: 'rate 52 repairs nothing beyond its test words'
pub rate-reaches : IsReach 39 0 6 × IsReach 49 0 1 × IsReach 52 0 0
rate-reaches = ((reach-table 0).0 (lit≤ tt), (reach-table 0).1 (lit≤ tt), (rate-blanks rate-52).1)
