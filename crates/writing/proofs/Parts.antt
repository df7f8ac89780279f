-- The turns of the loops that write a capture's parts, over plain lists.
use mathlib.Core.Path.{◌≡◌, refl, sym, ap, ap₂, ◌∙◌}
use mathlib.Core.List.{List, [], ◌∷◌, ◌++◌, append_assoc, append-nil}
use Prim.Native.Nat.{ℕ, suc, ◌+◌, ◌-◌, ◌*◌, ◌/◌, ◌%◌, ◌<◌, ◌≤◌}
use native.Mathlib.Numerals.{add-one}
use native.Mathlib.Omega.{arith}
use lib.ListN.{length, get_or, set, take, drop, length-append, length-drop, length-set, drop_of_length-le}
use lib.Seq.{take-suc, take_all, take_at, drop_at, length-take-le}
use borrow.Rule.Slice.PartMut.{put_mid}
use Rattle.std.specs.Int.{to_be_bytes, w16}
use Rattle.lists.specs.Listed.{listed, listed_nil, listed_suc, listed-length}
use Rattle.lists.specs.Block.{block}
use Rattle.lists.specs.Stored.{stored_one, stored-part}
use Rattle.soft.specs.CostBytes.{cost_bytes, cost-bytes-append, cost-bytes-length}
use Rattle.book.specs.Book.{Entry}
use Rattle.book64.specs.captures.Capture.{record_length, row_bytes}
use Rattle.book64.specs.captures.CaptureLaws.{row-bytes-append, row-bytes-length}
use Rattle.book64.specs.Here.{places, width}
use Rattle.session.specs.View.{entry_at}
use Rattle.session.specs.Laws.{row-wide}
use Rattle.calls.specs.Held as Fields
use Rattle.capture.specs.Calls.{record_bytes, row_of}

pub two-bytes : (n : ℕ) → n < 65536 → to_be_bytes w16 n ≡ n / 256 ∷ n % 256 ∷ []
two-bytes n h =
    let e : n / 256 % 256 ≡ n / 256 = omega arith in
    ap (λ x. x ∷ n % 256 ∷ []) e

-- ---- cost bytes

one-cost : (c : ℕ) → cost_bytes (c ∷ []) ≡ c / 256 ∷ c % 256 ∷ []
unfolding cost_bytes
one-cost c = refl

no-costs : cost_bytes [] ≡ []
unfolding cost_bytes
no-costs = refl

pub costs-start : (column out : List ℕ) → out ≡ cost_bytes (take 0 column) ++ drop (2 * 0) out
costs-start column out = rw no-costs

pub costs-turn : (column old out : List ℕ) (j : ℕ) {b : List ℕ} → b ≡ to_be_bytes w16 (get_or column j 0) → get_or column j 0 < 65536 → j < length column → 2 * length column ≡ length old
    → out ≡ cost_bytes (take j column) ++ drop (2 * j) old
    → set (set out (2 * j) (get_or b 0 0)) (2 * j + 1) (get_or b 1 0)
    ≡ cost_bytes (take (j + 1) column) ++ drop (2 * (j + 1)) old
costs-turn column old out j is fits h n e =
    let c : ℕ = get_or column j 0 in
    let done : List ℕ = cost_bytes (take j column) in
    let l : length (take j column) ≡ j = length-take-le j column (omega arith) in
    let m : length done ≡ 2 * j = cost-bytes-length (take j column) ∙ ap (λ k. 2 * k) l in
    let m' : length (done ++ (c / 256 ∷ [])) ≡ 2 * j + 1 = length-append done (c / 256 ∷ []) ∙ ap (λ k. k + 1) m in
    let next : suc (2 * j + 1) ≡ 2 * (j + 1) = omega arith in
    ap (λ b. set (set out (2 * j) (get_or b 0 0)) (2 * j + 1) (get_or b 1 0)) (is ∙ two-bytes c fits)
    ∙ stored_one 0 (set out (2 * j) (c / 256)) old (done ++ (c / 256 ∷ [])) (c % 256) (2 * j + 1) m' (omega arith)
    (stored_one 0 out old done (c / 256) (2 * j) m (omega arith) e
    ∙ ap (λ k. (done ++ (c / 256 ∷ [])) ++ drop k old) (sym (add-one (2 * j))))
    ∙ ap₂ (λ (x : List ℕ) k. x ++ drop k old)
    (append_assoc done (c / 256 ∷ []) (c % 256 ∷ [])
    ∙ ap (λ (x : List ℕ). done ++ x) (sym (one-cost c))
    ∙ sym (cost-bytes-append (take j column) (c ∷ []))
    ∙ ap cost_bytes (sym (take-suc column j 0 h) ∙ ap (λ k. take k column) (sym (add-one j))))
    next

pub costs-end : (column old out : List ℕ) (j : ℕ) → length column ≤ j → length old ≤ 2 * j
    → out ≡ cost_bytes (take j column) ++ drop (2 * j) old → out ≡ cost_bytes column
costs-end column old out j h n e =
    e ∙ ap₂ (λ (x y : List ℕ). cost_bytes x ++ y) (take_all j column h) (drop_of_length-le old n) ∙ append-nil (cost_bytes column)

-- ---- parts that are lent

-- the whole after a call that was lent all but its first five bytes, and after five stores
pub head-end : (out list : List ℕ) (v a b r n : ℕ) → length out ≡ 5 + length list
    → put_mid 5 (length (set (set (set (set (set out 0 v) 1 a) 2 b) 3 r) 4 n) - 5) (set (set (set (set (set out 0 v) 1 a) 2 b) 3 r) 4 n) list
    ≡ v ∷ a ∷ b ∷ r ∷ n ∷ list
head-end [] list v a b r n e = absurd (omega arith)
head-end (x ∷ []) list v a b r n e = absurd (omega arith)
head-end (x ∷ y ∷ []) list v a b r n e = absurd (omega arith)
head-end (x ∷ y ∷ z ∷ []) list v a b r n e = absurd (omega arith)
head-end (x ∷ y ∷ z ∷ u ∷ []) list v a b r n e = absurd (omega arith)
head-end (x ∷ y ∷ z ∷ u ∷ w ∷ rest) list v a b r n e =
    ap (λ (l : List ℕ). v ∷ a ∷ b ∷ r ∷ n ∷ l)
    (ap (λ (l : List ℕ). list ++ l) (drop_of_length-le rest {i = length (x ∷ y ∷ z ∷ u ∷ w ∷ rest) - 5} (omega arith)) ∙ append-nil list)

-- five stores keep the length
pub five-stores : (out : List ℕ) (v a b r n : ℕ) → length (set (set (set (set (set out 0 v) 1 a) 2 b) 3 r) 4 n) ≡ length out
five-stores out v a b r n = simp length-set

pub record-end : (out bytes : List ℕ) (p : ℕ) → length out ≡ 1 + length bytes
    → put_mid 1 (length (set out 0 p) - 1) (set out 0 p) bytes ≡ p ∷ bytes
record-end [] bytes p e = absurd (omega arith)
record-end (x ∷ rest) bytes p e =
    ap (λ (l : List ℕ). p ∷ l) (ap (λ (l : List ℕ). bytes ++ l) (drop_of_length-le rest {i = length (x ∷ rest) - 1} (omega arith)) ∙ append-nil bytes)

-- the whole after two calls, of which one was lent the first `start` bytes and the other the rest
pub both-parts : (before head rest : List ℕ) (start : ℕ) → length head ≡ start → length before ≡ start + length rest
    → put_mid start (length (head ++ drop start before) - start) (head ++ drop start before) rest ≡ head ++ rest
both-parts before head rest start h e =
    let n : length (drop start before) ≡ length rest = length-drop start before ∙ omega arith in
    let k : ℕ = length (head ++ drop start before) - start in
    let m : length (drop start before) ≤ k = omega (arith, length-append head (drop start before)) in
    ap₂ (λ (x y : List ℕ). x ++ (rest ++ drop k y))
    (take_at head (drop start before) start h) (drop_at head (drop start before) start h)
    ∙ ap (λ (x : List ℕ). head ++ (rest ++ x)) (drop_of_length-le (drop start before) m)
    ∙ ap (λ (x : List ℕ). head ++ x) (append-nil rest)

-- ---- the records written

one-record : (e : Entry) → row_bytes (e ∷ []) ≡ record_bytes e.place e.column
unfolding row_bytes record_bytes
one-record e = append-nil (e.place ∷ cost_bytes e.column)

no-records : row_bytes [] ≡ []
unfolding row_bytes
no-records = refl

module _ (costs : List ℕ) (whole : length costs ≡ places * width) where
  written-length : (n : ℕ) → n ≤ places → length (row_bytes (row_of costs n)) ≡ record_length * n
  unfolding row_of
  written-length n h =
      row-bytes-length (listed n (entry_at costs)) (row-wide costs n whole h) ∙ ap (λ k. record_length * k) (listed-length n (entry_at costs))

  pub records-start : (out : List ℕ) → out ≡ row_bytes (row_of costs 0) ++ drop (record_length * 0) out
  unfolding row_of
  records-start out = rw (listed_nil, no-records)

  next-record : (p : ℕ) → record_bytes p (take (width * p + width - width * p) (drop (width * p) costs)) ≡ row_bytes (entry_at costs p ∷ [])
  unfolding Fields.entry_at block
  next-record p =
      let q : width * p + width - width * p ≡ width = omega arith in
      ap (λ k. record_bytes p (take k (drop (width * p) costs))) q ∙ sym (one-record (entry_at costs p))

  pub records-turn : (old out part : List ℕ) (p : ℕ) → p ≤ places
      → part ≡ record_bytes p (take (width * p + width - width * p) (drop (width * p) costs))
      → out ≡ row_bytes (row_of costs p) ++ drop (record_length * p) old
      → put_mid (record_length * p) (record_length * p + record_length - record_length * p) out part
      ≡ row_bytes (row_of costs (p + 1)) ++ drop (record_length * (p + 1)) old
  unfolding row_of
  records-turn old out part p h q f =
      let at : ℕ = record_length * p in
      let k : at + (at + record_length - at) ≡ record_length * (p + 1) = omega arith in
      stored-part out old (row_bytes (row_of costs p)) part at (at + record_length - at) (written-length p h) f
      ∙ ap₂ (λ (l : List ℕ) n. l ++ drop n old)
      (ap (λ (l : List ℕ). row_bytes (listed p (entry_at costs)) ++ l) (q ∙ next-record p)
      ∙ sym (row-bytes-append (listed p (entry_at costs)) (entry_at costs p ∷ []))
      ∙ ap row_bytes (sym (listed_suc p (entry_at costs)) ∙ ap (λ n. listed n (entry_at costs)) (sym (add-one p))))
      k

  pub records-end : (old out : List ℕ) (p : ℕ) → p ≡ places → length old ≡ record_length * places
      → out ≡ row_bytes (row_of costs p) ++ drop (record_length * p) old → out ≡ row_bytes (row_of costs places)
  records-end old out p n l f =
      f ∙ ap (λ (r : List ℕ). row_bytes (row_of costs p) ++ r) (drop_of_length-le old {i = record_length * p} (omega arith))
      ∙ append-nil (row_bytes (row_of costs p)) ∙ ap (λ k. row_bytes (row_of costs k)) n
