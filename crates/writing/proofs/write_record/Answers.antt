-- `writing::write_record` meets its contract, by what the cost bytes are.
use native.Mathlib.Omega.{arith}
use mathlib.Core.Path.{◌≡◌, ap, ◌∙◌}
use mathlib.Core.List.{List, ◌∷◌}
use Prim.Native.Nat.{ℕ, ◌*◌, ◌-◌}
use borrow.Rule.Slice.PartMut.{same_len_mid}
use Rattle.soft.specs.CostBytes.{cost_bytes, cost-bytes-length}
use lib.ListN.{length, set, length-set}
use Rattle.capture.specs.Calls.{record_bytes}
use Rattle.capture.specs.Rest.{rest-length}
use Rattle.writing.proofs.Parts.{record-end}
use Rattle.writing.proofs.write_record.Goals as goal

pub slice_bounds-write_costs-count : goal.slice_bounds-write_costs-count
slice_bounds-write_costs-count c = simp length-set (omega arith)

pub slice_bounds-write_costs-start : goal.slice_bounds-write_costs-start
slice_bounds-write_costs-start c = simp length-set (omega arith)

pub write_costs-requires : goal.write_costs-requires
write_costs-requires c =
    let a = c.args in
    let n : length (set a.out.now 0 a.place) ≡ 33 = length-set a.out.now 0 a.place ∙ c.requires.1 in
    (c.requires.0, rest-length 1 32 (set a.out.now 0 a.place) n)

pub shape_of-out : goal.shape_of-out
shape_of-out c =
    let a = c.args in
    same_len_mid 1 (length (set a.out.now 0 a.place) - 1) (set a.out.now 0 a.place) c.write_costs.new.out
    c.write_costs.auto.out
    ∙ length-set a.out.now 0 a.place

pub returns : goal.returns
unfolding record_bytes
returns c =
    let bytes : List ℕ = c.write_costs.new.out in
    let e : bytes ≡ cost_bytes c.args.column.now = c.write_costs.ensures in
    let n : length bytes ≡ 2 * length c.args.column.now = ap length e ∙ cost-bytes-length c.args.column.now in
    record-end c.args.out.now bytes c.args.place (omega (arith, c.requires.0, c.requires.1)) ∙ ap (λ (l : List ℕ). c.args.place ∷ l) e
