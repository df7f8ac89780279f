-- What a user may rely on holds of what comes back.
--
--   relied   at rate 39, if at most 48 consecutive symbols are altered, still each 0 to 15, all eight messages come back (Relied)
use Rattle.std.specs.Prelude.{◌≡◌, List, ℕ}
use Rattle.std.proofs.Common.{◌∙◌, arith}
use Rattle.std.proofs.Math.Path.{ap}
use Rattle.code.specs.Rates.{bounds-known}
use Rattle.near.proofs.Here.{reaches}
use Rattle.superframe.specs.Superframe.{Taken}
use Rattle.superframe.specs.Built.{Sent}
use Rattle.taking_apart.specs.declared.Taken as Declared
use Rattle.taking_apart.specs.Taking.{taken_by}
use Rattle.bursts.specs.Struck.{through_of, through-back, Relied}

pub relied : (messages : List ℕ) (start : ℕ) (burst out : List ℕ) {r : Declared.Taken} {after : List ℕ}
    → taken_by r after ≡ through_of 39 messages start burst out → Relied messages start burst out r after
relied messages start burst out {r} {after} e =
    record {
      all_back = λ long small few each fits room.
          let S : Sent 39 messages = record { known = bounds-known (omega arith) (omega arith); long = long; small = small } in
          let f = e ∙ through-back 39 messages start burst out S (omega (arith, few, reaches.1)) each fits room in
          (ap (λ (t : Taken). t.number) f, ap (λ (t : Taken). t.status) f, ap (λ (t : Taken). t.messages) f);
    }
