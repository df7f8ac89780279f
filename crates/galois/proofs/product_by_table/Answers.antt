-- `galois::product_by_table` meets its contract: entry 16a + b of the table is a × b, by one computation over all its entries.
use mathlib.Core.Path.{◌≡◌, ap₂, ◌∙◌}
use Prim.Native.Nat.{ℕ, ◌+◌, ◌*◌, ◌/◌, ◌%◌, ◌<◌}
use native.Mathlib.Omega.{arith}
use lib.ListN.{get_or}
use borrow.Author.Rules.{rules}
use Rattle.lists.specs.Listed.{listed, listed_at}
use Rattle.galois.specs.Binary as Binary
use Rattle.galois.specs.Gf16.{times}
use Rattle.galois.specs.Field16.{times_mod}
use Rattle.galois.proofs.product_by_table.Goals as goal

entry : ℕ → ℕ
entry k = times (k / 16) (k % 16)

entry_at : {k : ℕ} (a b : ℕ) → k < 256 → k / 16 ≡ a % 16 → k % 16 ≡ b % 16 → get_or (listed 256 entry) k 0 ≡ times a b
unfolding entry
entry_at {k} a b h p q = listed_at 256 k entry 0 h ∙ ap₂ times p q ∙ times_mod a b

pub returns : goal.returns
unfolding listed entry Binary.times Binary.shift_add Binary.xtime
returns c = entry_at {k = c.args.a % 16 * 16 + c.args.b % 16} c.args.a c.args.b (search rules) (omega arith) (omega arith)
