-- The row of a book as columns by place.
--
--   or_zeros column       the column, or a zero for each symbol where there is none
--   columns_of row p      the column of place p; zeros where p is missing, as in a new session's table (no answer reads them)
--   columns-taken, columns-none   the two cases
--   column-taken, column-free     a place that is taken has a column, and one that is not has none
--   taken-alike, missing-alike    what is taken, and whether a place is missing, by the row as a set
--   columns-alike        rows that agree as sets have the same columns
--   Agree a b            equal rates, equal lists, and rows that agree as sets: each place has the same column in both, or none in either
--   agree_refl, agree-sym, agree_trans, agree-path   it is an equivalence, and equal books agree
use Rattle.std.specs.Prelude.{Bool, ◌≡◌, List, replicate}
use Rattle.std.proofs.Math.Bool.{true, false, not}
use Rattle.std.proofs.Common.{true≢false, sym, ◌∙◌, subst}
use Rattle.std.proofs.lemmas.Bool.{false≢true}
use Rattle.std.proofs.Math.Path.{refl, ap, fun_ext}
use Rattle.std.proofs.Math.Option.{Option, none, some}
use Prim.Native.Nat.{ℕ}
use Rattle.lists.specs.Every.{every}
use Rattle.book.specs.Model.{Model, places, width}
use Rattle.book.specs.Book.{Entry, Book, column_in, present, taken, some_missing}

module _ (row : List Entry) (p : ℕ) where
  pub column-free : taken row p ≡ false → column_in row p ≡ none
  unfolding taken
  column-free t = go (column_in row p) t
    where
      go : (o : Option (List ℕ)) → present o ≡ false → o ≡ none
      go none e = refl
      go (some column) e = absurd (true≢false e)

  pub none_free : column_in row p ≡ none → taken row p ≡ false
  unfolding taken
  none_free e = ap present e

pub taken-alike : (row other : List Entry) → ((p : ℕ) → column_in row p ≡ column_in other p) → (p : ℕ) → taken row p ≡ taken other p
unfolding taken
taken-alike row other same p = ap present (same p)

module _ (𝓓 : Model) where
  abbrev pub or_zeros : Option (List ℕ) → List ℕ
  or_zeros none = replicate (width 𝓓) 0
  or_zeros (some column) = column

  unfoldable pub columns_of : List Entry → ℕ → List ℕ
  columns_of row p = or_zeros (column_in row p)

  module _ (row : List Entry) (p : ℕ) where
    pub columns-taken : {column : List ℕ} → column_in row p ≡ some column → columns_of row p ≡ column
    unfolding columns_of
    columns-taken e = ap or_zeros e

    pub columns-none : column_in row p ≡ none → columns_of row p ≡ replicate (width 𝓓) 0
    unfolding columns_of
    columns-none e = ap or_zeros e

    pub column-taken : taken row p ≡ true → column_in row p ≡ some (columns_of row p)
    unfolding taken columns_of
    column-taken t = go (column_in row p) t
      where
        go : (o : Option (List ℕ)) → present o ≡ true → o ≡ some (or_zeros o)
        go none e = absurd (false≢true e)
        go (some column) e = refl

  module _ (row other : List Entry) (same : (p : ℕ) → column_in row p ≡ column_in other p) where
    pub missing-alike : some_missing 𝓓 row ≡ some_missing 𝓓 other
    unfolding some_missing
    missing-alike = ap (λ (f : ℕ → Bool). not (every (places 𝓓) f)) (fun_ext (taken-alike row other same))

    pub columns-alike : columns_of row ≡ columns_of other
    unfolding columns_of
    columns-alike = fun_ext (λ p. ap or_zeros (same p))

-- ---- books that agree

pub record Agree (a b : Book) : Type 0 where
  pub same_rate : a.rate ≡ b.rate
  pub same_list : a.doubtful ≡ b.doubtful
  pub same_columns : (p : ℕ) → column_in a.row p ≡ column_in b.row p

pub agree_refl : (a : Book) → Agree a a
agree_refl a = record { same_rate = refl; same_list = refl; same_columns = λ p. refl }

pub agree-sym : {a b : Book} → Agree a b → Agree b a
agree-sym x = record { same_rate = sym x.same_rate; same_list = sym x.same_list; same_columns = λ p. sym (x.same_columns p) }

pub agree_trans : {a b c : Book} → Agree a b → Agree b c → Agree a c
agree_trans x y =
    record {
      same_rate = x.same_rate ∙ y.same_rate;
      same_list = x.same_list ∙ y.same_list;
      same_columns = λ p. x.same_columns p ∙ y.same_columns p;
    }

pub agree-path : {a b : Book} → a ≡ b → Agree a b
agree-path {a} e = subst (Agree a) e (agree_refl a)
