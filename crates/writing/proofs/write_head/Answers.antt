-- `writing::write_head` meets its contract: five stores, and the list copied behind them.
use borrow.Author.Rules.{rules}
use native.Mathlib.Omega.{arith}
use mathlib.Core.Path.{◌≡◌, sym, ap, ap₂, ◌∙◌}
use mathlib.Core.List.{List, ◌∷◌}
use Prim.Native.Nat.{ℕ, ◌-◌, ◌/◌, ◌%◌}
use lib.ListN.{length, get_or, set, take, length-set}
use lib.Seq.{length-take-le}
use borrow.Rule.Slice.PartMut.{same_len_mid}
use Rattle.lists.specs.Over.{over-same}
use Rattle.soft.specs.Doubt.{most_doubt}
use Rattle.book64.specs.captures.Capture.{body_length, version_of}
use Rattle.capture.specs.Calls.{head_bytes}
use Rattle.capture.specs.Rest.{rest-length}
use Rattle.writing.proofs.Parts.{five-stores, head-end, two-bytes}
use Rattle.writing.proofs.write_head.Goals as goal

pub bounds-out-1 : goal.bounds-out-1
bounds-out-1 c = simp length-set (omega arith)

pub bounds-out-2 : goal.bounds-out-2
bounds-out-2 c = simp length-set (omega arith)

pub bounds-out-3 : goal.bounds-out-3
bounds-out-3 c = simp length-set (omega arith)

pub bounds-out-4 : goal.bounds-out-4
bounds-out-4 c = simp length-set (omega arith)

pub slice_bounds-list-end : goal.slice_bounds-list-end
slice_bounds-list-end c =
    let l : length c.args.list ≡ most_doubt = search rules in
    omega (arith, c.requires.0)

pub slice_bounds-copy-end : goal.slice_bounds-copy-end
slice_bounds-copy-end c =
    let l : length c.args.list ≡ most_doubt = search rules in
    sym (length-take-le c.args.count c.args.list (omega (arith, c.requires.0)))

pub slice_bounds-copy-count : goal.slice_bounds-copy-count
slice_bounds-copy-count c = simp length-set (omega arith)

pub slice_bounds-copy-start : goal.slice_bounds-copy-start
slice_bounds-copy-start c = simp length-set (omega arith)

pub shape_of-out : goal.shape_of-out
shape_of-out c =
    let a = c.args in
    let v : ℕ = c.version_of.result in
    let two : List ℕ = c.to_be_bytes.result in
    let stored : List ℕ = set (set (set (set (set a.out.now 0 v) 1 (get_or two 0 0)) 2 (get_or two 1 0)) 3 a.rate) 4 a.count in
    same_len_mid 5 (length stored - 5) stored c.copy.new.into c.copy.auto.into
    ∙ five-stores a.out.now v (get_or two 0 0) (get_or two 1 0) a.rate a.count

pub returns : goal.returns
unfolding head_bytes
returns c =
    let a = c.args in
    let v : ℕ = c.version_of.result in
    let n : ℕ = body_length a.count in
    let two : List ℕ = c.to_be_bytes.result in
    let stored : List ℕ = set (set (set (set (set a.out.now 0 v) 1 (get_or two 0 0)) 2 (get_or two 1 0)) 3 a.rate) 4 a.count in
    let l : length a.list ≡ most_doubt = search rules in
    let list : List ℕ = take a.count a.list in
    let m : length list ≡ a.count = length-take-le a.count a.list (omega (arith, c.requires.0)) in
    let room = rest-length 5 a.count stored (five-stores a.out.now v (get_or two 0 0) (get_or two 1 0) a.rate a.count ∙ c.requires.1) in
    let bytes : List ℕ = c.copy.new.into in
    let e : bytes ≡ list = c.copy.ensures ∙ over-same _ _ (room ∙ sym m) in
    let k : length bytes ≡ a.count = ap length e ∙ m in
    head-end a.out.now bytes v (get_or two 0 0) (get_or two 1 0) a.rate a.count (omega (arith, c.requires.1))
    ∙ ap₂ (λ v (t : List ℕ). v ∷ get_or t 0 0 ∷ get_or t 1 0 ∷ a.rate ∷ a.count ∷ bytes) c.version_of.ensures (c.to_be_bytes.ensures ∙ two-bytes n (omega (arith, c.requires.0)))
    ∙ ap₂ (λ d (b : List ℕ). version_of d ∷ body_length d / 256 ∷ body_length d % 256 ∷ a.rate ∷ d ∷ b) (sym m) e
