-- Text at the front of a lent buffer, and text put behind it.
--
--   Appended before at text r after   the buffer `before` holds `at` bytes of text; `after` holds r, the same and then `text`
--   appended-as          the text, known by an equation
--   appended-both        one text and then another
use Rattle.std.specs.Prelude.{◌≡◌, List, ◌++◌, ℕ, ◌+◌, length, take}
use Rattle.std.proofs.Common.{ap, subst, ◌∙◌, append_assoc, arith, length-append}

pub record Appended (before : List ℕ) (at : ℕ) (text : List ℕ) (r : ℕ) (after : List ℕ) : Type 0 where
  pub end : r ≡ at + length text
  pub there : take r after ≡ take at before ++ text
  pub room : length after ≡ length before

pub appended-as : {b a s t : List ℕ} {at r : ℕ} → s ≡ t → Appended b at s r a → Appended b at t r a
appended-as {b} {a} {s} {t} {at} {r} e p = subst (λ (l : List ℕ). Appended b at l r a) e p

pub appended-both : {a b c s t : List ℕ} {i j k : ℕ} → Appended a i s j b → Appended b j t k c → Appended a i (s ++ t) k c
appended-both {a} {b} {c} {s} {t} {i} {j} {k} p q =
    record {
      end = omega (arith, p.end, q.end, length-append s t);
      there = q.there ∙ ap (λ (l : List ℕ). l ++ t) p.there ∙ append_assoc (take i a) s t;
      room = q.room ∙ p.room;
    }
