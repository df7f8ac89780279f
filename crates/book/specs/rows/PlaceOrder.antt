-- A row in rising place order, as captures have it.
--
--   InPlaceOrder row     the row is in rising place order: each of its places is below the next one
--   record_of row p       the place p with its column in the row; with zeros where p is missing
--   in_place_order row     the row's places in rising order: an entry for each of the modem's places
--   ordered book         the book with its row in place order
--   order-length, order-places, order-wide   it has an entry for each place, from 0 on, and columns of a cost for each symbol if the row has such
--   order-rises          it is in place order
--   order-proper         the ordered book is proper where the book is
--   order-columns        with no place missing, each place has the column that it has in the row
--   order-agree          so the ordered book agrees with the book
--   order_same           a row of as many places as the modem has, all of them the modem's, that is in place order stays as it is
--   order_alike          books that agree have the same row in place order
use Rattle.std.proofs.Math.Bool.{true}
use Rattle.std.specs.Prelude.{false, ◌≡◌, eqb, length}
use Rattle.std.proofs.Math.Path.{refl, sym, ap}
use Rattle.std.proofs.Common.{◌∙◌, subst, lt-suc_self, arith, eq-eqb}
use mathlib.Core.List.{List, [], ◌∷◌, ◌++◌, Memᴰ}
use Rattle.std.proofs.Math.Option.{some}
use Prim.Native.Nat.{ℕ, zero, suc, ◌+◌, ◌-◌, ◌<◌, ◌≤◌}
use Rattle.std.proofs.Math.Decide.{dec_lt}
use Rattle.std.proofs.Math.ListN.{get_or}
use Rattle.std.proofs.lemmas.Bool.{not-false}
use Rattle.lists.specs.Count.{Rising, rising-steps}
use Rattle.lists.specs.Different.{rising-different, different-distinct}
use Rattle.lists.specs.Distinct.{below, distinct, below_at, and_both}
use Rattle.lists.specs.Every.{every, every-at, true-T, T_true}
use Rattle.lists.specs.Listed.{listed, listed-length, listed_at, listed-ext, listed_by}
use Rattle.lists.specs.Member.{member-at}
use Rattle.book.specs.Model.{Model, places, width}
use Rattle.book.specs.Book.{Entry, Book, column_in, taken, some_missing}
use Rattle.book.specs.Columns.{columns_of, columns-taken, column-taken, columns-alike, Agree}
use Rattle.book.specs.rows.RowLaws.{places_of, places-append, places-length, wide, wide-append, columns-wide, Proper, none_above}
use Rattle.book.specs.Entries.{entry-column}
use Rattle.book.specs.opening.OpeningLaws.{below_of}

pub record InPlaceOrder (row : List Entry) : Type 0 where
  pub rises : (i : ℕ) → suc i < length row → get_or (places_of row) i 0 < get_or (places_of row) (suc i) 0

-- ---- the numbers below n

numbers-rise : (n : ℕ) → Rising (listed n (λ p. p))
numbers-rise n =
    record {
      rises = λ i j a b.
          let h : j < n = omega (arith, listed-length n (λ (p : ℕ). p)) in
          omega (arith, listed_at n i (λ (p : ℕ). p) 0 (omega arith), listed_at n j (λ (p : ℕ). p) 0 h);
    }

numbers-below : (n : ℕ) → below n (listed n (λ p. p)) ≡ true
numbers-below n =
    below_of n (listed n (λ p. p))
    (λ i l. let h : i < n = omega (arith, listed-length n (λ (p : ℕ). p)) in omega (arith, listed_at n i (λ (p : ℕ). p) 0 h))

-- n rising numbers below n are all of them: from the front each is at least its index, and from the back at most
module _ (n : ℕ) (l : List ℕ) (in_range : below n l ≡ true) (long : length l ≡ n) (rising : Rising l) where
  at_least : (i : ℕ) → i < n → i ≤ get_or l i 0
  at_least zero h = omega arith
  at_least (suc i) h = omega (arith, at_least i (omega arith), rising.rises i (suc i) (lt-suc_self i) (omega arith))

  at_most : (k i : ℕ) → i + suc k ≡ n → get_or l i 0 ≤ i
  at_most zero i e = omega (arith, below_at n l i in_range (omega arith))
  at_most (suc k) i e = omega (arith, at_most k (suc i) (omega arith), rising.rises i (suc i) (lt-suc_self i) (omega arith))

  rising-all : (i : ℕ) → i < n → get_or l i 0 ≡ i
  rising-all i h = omega (arith, at_least i h, at_most (n - suc i) i (omega arith))

-- ---- entries by index

nowhere : Entry
nowhere = record { place = 0; column = [] }

places-at : (row : List Entry) (i : ℕ) → get_or (places_of row) i 0 ≡ (get_or row i nowhere).place
unfolding places_of nowhere
places-at [] i = refl
places-at (e ∷ row) zero = refl
places-at (e ∷ row) (suc i) = places-at row i

module _ (𝓓 : Model) where
  unfoldable pub record_of : List Entry → ℕ → Entry
  record_of row p = record { place = p; column = columns_of 𝓓 row p }

  unfoldable pub in_place_order : List Entry → List Entry
  in_place_order row = listed (places 𝓓) (record_of row)

  unfoldable pub ordered : Book → Book
  ordered book = record { rate = book.rate; doubtful = book.doubtful; row = in_place_order book.row }

  -- ---- its entries

  module _ (row : List Entry) where
    pub order-length : length (in_place_order row) ≡ places 𝓓
    unfolding in_place_order
    order-length = listed-length (places 𝓓) (record_of row)

    places-listed : (n : ℕ) → places_of (listed n (record_of row)) ≡ listed n (λ p. p)
    unfolding listed places_of record_of
    places-listed zero = refl
    places-listed (suc n) =
        places-append (listed n (record_of row)) (record_of row n ∷ []) ∙ ap (λ (l : List ℕ). l ++ (n ∷ [])) (places-listed n)

    pub order-places : places_of (in_place_order row) ≡ listed (places 𝓓) (λ p. p)
    unfolding in_place_order
    order-places = places-listed (places 𝓓)

    order_below : below (places 𝓓) (places_of (in_place_order row)) ≡ true
    order_below = ap (below (places 𝓓)) order-places ∙ numbers-below (places 𝓓)

    order-distinct : distinct (places_of (in_place_order row)) ≡ true
    order-distinct =
        ap distinct order-places ∙ different-distinct (rising-different (listed (places 𝓓) (λ p. p)) (numbers-rise (places 𝓓)))

    pub order-rises : InPlaceOrder (in_place_order row)
    order-rises =
        record {
          rises = λ i h.
              subst (λ (l : List ℕ). get_or l i 0 < get_or l (suc i) 0) (sym order-places)
              ((numbers-rise (places 𝓓)).rises i (suc i) (lt-suc_self i) (omega (arith, listed-length (places 𝓓) (λ (p : ℕ). p), order-length)));
        }

    wide-listed : wide 𝓓 row ≡ true → (n : ℕ) → wide 𝓓 (listed n (record_of row)) ≡ true
    unfolding listed wide record_of
    wide-listed w zero = refl
    wide-listed w (suc n) =
        wide-append 𝓓 (listed n (record_of row)) (record_of row n ∷ [])
        ∙ and_both (wide 𝓓 (listed n (record_of row))) (wide 𝓓 (record_of row n ∷ [])) (wide-listed w n)
        (and_both (eqb (length (columns_of 𝓓 row n)) (width 𝓓)) true (eq-eqb (length (columns_of 𝓓 row n)) (width 𝓓) (columns-wide 𝓓 row w n)) refl)

    pub order-wide : wide 𝓓 row ≡ true → wide 𝓓 (in_place_order row) ≡ true
    unfolding in_place_order
    order-wide w = wide-listed w (places 𝓓)

    order-column : (p : ℕ) → p < places 𝓓 → column_in (in_place_order row) p ≡ some (columns_of 𝓓 row p)
    unfolding in_place_order record_of
    order-column p h =
        entry-column (record_of row p) (in_place_order row) order-distinct
        (subst (λ (e : Entry). Memᴰ e (in_place_order row)) (listed_at (places 𝓓) p (record_of row) nowhere h)
        (member-at (in_place_order row) nowhere p (omega (arith, order-length))))

    all-taken : some_missing 𝓓 row ≡ false → (p : ℕ) → p < places 𝓓 → taken row p ≡ true
    unfolding some_missing
    all-taken m p h =
        let all = every (places 𝓓) (taken row) in
        T_true (taken row p) (every-at (places 𝓓) (taken row) (true-T all (not-false all m)) p h)

  -- ---- the ordered book

  module _ (book : Book) (proper : Proper 𝓓 book) where
    pub order-proper : Proper 𝓓 (ordered book)
    unfolding ordered
    order-proper =
        record {
          rate_known = proper.rate_known;
          list_fit = proper.list_fit;
          in_range = order_below book.row;
          apart = order-distinct book.row;
          all_wide = order-wide book.row proper.all_wide;
        }

    module _ (m : some_missing 𝓓 book.row ≡ false) where
      pub order-columns : (p : ℕ) → column_in (in_place_order book.row) p ≡ column_in book.row p
      unfolding ordered
      order-columns p = go (dec_lt p (places 𝓓))
        where
          go : Dec (p < places 𝓓) → column_in (in_place_order book.row) p ≡ column_in book.row p
          go (yes h) = order-column book.row p h ∙ sym (column-taken 𝓓 book.row p (all-taken book.row m p h))
          go (no h) = none_above 𝓓 (ordered book) order-proper p (omega arith) ∙ sym (none_above 𝓓 book proper p (omega arith))

      pub order-agree : Agree (ordered book) book
      unfolding ordered
      order-agree = record { same_rate = refl; same_list = refl; same_columns = order-columns }

  -- ---- a row that is in place order

  module _ (row : List Entry) (in_range : below (places 𝓓) (places_of row) ≡ true) (long : length row ≡ places 𝓓) (order : InPlaceOrder row) where
    rising : Rising (places_of row)
    rising = rising-steps (places_of row) (λ i h. order.rises i (omega (arith, places-length row)))

    entry_at : (i : ℕ) → i < places 𝓓 → get_or row i nowhere ≡ record_of row i
    unfolding record_of
    entry_at i h =
        let e : Entry = get_or row i nowhere in
        let at : e.place ≡ i =
        sym (places-at row i) ∙ rising-all (places 𝓓) (places_of row) in_range (places-length row ∙ long) rising i h in
        let held : column_in row e.place ≡ some e.column =
        entry-column e row (different-distinct (rising-different (places_of row) rising)) (member-at row nowhere i (omega arith)) in
        λ k. record { place = at k; column = (sym (columns-taken 𝓓 row e.place held) ∙ ap (columns_of 𝓓 row) at) k }

    pub order_same : in_place_order row ≡ row
    unfolding in_place_order
    order_same = sym (listed_by nowhere (places 𝓓) row (record_of row) long entry_at)

  -- ---- books that agree

  pub order_alike : {a b : Book} → Agree a b → in_place_order a.row ≡ in_place_order b.row
  unfolding in_place_order record_of
  order_alike {a} {b} same =
      let columns : columns_of 𝓓 a.row ≡ columns_of 𝓓 b.row = columns-alike 𝓓 a.row b.row same.same_columns in
      listed-ext (places 𝓓) (record_of a.row) (record_of b.row) (λ p h. λ k. record { place = p; column = columns k p })
