-- The bytes from a place on, as a call is lent them and as the book takes them.
--
--   rest-whole       what is lent from n on is all that lies there
--   rest-length      how many bytes these are
--   rest-first       the first of them
use Rattle.std.specs.Prelude.{◌≡◌, List, ℕ, ◌+◌, ◌-◌, length, get_or, take, drop}
use Rattle.std.proofs.Common.{ap, ◌∙◌, add-zero, arith, length-drop, take_all, get_or-drop, length-take-le}

pub rest-whole : (n : ℕ) (xs : List ℕ) → take (length xs - n) (drop n xs) ≡ drop n xs
rest-whole n xs = take_all (length xs - n) (drop n xs) (rw length-drop (omega arith))

pub rest-length : (a n : ℕ) (xs : List ℕ) → length xs ≡ a + n → length (take (length xs - a) (drop a xs)) ≡ n
rest-length a n xs e = length-take-le (length xs - a) (drop a xs) (rw length-drop (omega arith)) ∙ omega arith

pub rest-first : (n : ℕ) (xs : List ℕ) → get_or (drop n xs) 0 0 ≡ get_or xs n 0
rest-first n xs = get_or-drop n xs 0 0 ∙ ap (λ k. get_or xs k 0) (add-zero n)
