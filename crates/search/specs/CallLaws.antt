-- The test of what may be asked decides it, and what the call says in each case, for every modem of the family.
--
--   asked-form, form-asked   what is well formed, with no more blank places than the rate allows, may be asked, and the other way round
--   asked-yes, asked_is   the test decides Asked
--   nearest-asked, nearest-unasked   the two cases of the call
--   nearest-call          what it says of the near codewords
--   unasked               arguments that may not be asked find nothing
--   unasked-doubt, unasked-form, unasked-blank   by what is wrong with them
--   rate-refused, size-refused, doubt-refused, places-asked   the test of the form by its parts
use Rattle.std.specs.Prelude.{Bool, ◌&&◌, ◌≡◌, List, ℕ, ◌*◌, ◌<◌, ◌≤◌, length, take}
use Rattle.std.proofs.Math.Bool.{true, false, cond, false≢true}
use Rattle.std.proofs.Math.Path.{refl, ap, subst}
use Rattle.std.proofs.Common.{sym, ◌∙◌, arith}
use Rattle.std.proofs.Math.Option.{some}
use Rattle.std.proofs.Math.Dec.{leb, eqb}
use borrow.Author.Tests.{eq-eqb, eqb-true, ne_eqb, le-leb, lt-leb, leb-true}
use Rattle.lists.specs.Distinct.{below, distinct, and_left, and_right, and_both}
use Rattle.family.specs.Member.{places, symbols}
use Rattle.family.specs.Encoding.{encode_of}
use Rattle.near.specs.Near.{blank_limit}
use Rattle.near.specs.Tree.{places_of, places-test}
use Rattle.near.specs.Flags.{are_places}
use Rattle.search.specs.Open.{blanks_in}
use Rattle.search.specs.Result.{Finding, total_is, total-none, nothing_found, found_of}
use Rattle.search.specs.Nearest.{Nearest}
use Rattle.search.specs.Answered.{Sound, found-nearest, found-sound}
use Rattle.search.specs.Call.{Scope, columns_of, tests_of, Asked, well_formed, asked_of, nearest_of, NearestCall}

module _ (𝓢 : Scope) (rate : ℕ) (costs doubtful : List ℕ) (doubt : ℕ) where
  open 𝓢 use {member, longest, most_doubt}

  abbrev blank : ℕ
  blank = blanks_in member (columns_of 𝓢 costs)

  abbrev limit : ℕ
  limit = blank_limit member rate

  abbrev whole : ℕ
  whole = places member * symbols member

  pub asked-form : well_formed 𝓢 rate costs doubtful doubt ≡ true → blank ≤ limit → Asked 𝓢 rate costs doubtful doubt
  unfolding well_formed are_places
  asked-form e few_blank =
      let size = eqb (length costs) whole in
      let few = leb doubt most_doubt in
      let b = below (places member) (take doubt doubtful) in
      let d = distinct (take doubt doubtful) in
      let s = and_right (𝓢.known rate) (size && (few && (b && d))) e in
      let f = and_right size (few && (b && d)) s in
      let p = and_right few (b && d) f in
      record {
        known = and_left (𝓢.known rate) (size && (few && (b && d))) e;
        size = eqb-true (length costs) whole (and_left size (few && (b && d)) s);
        few = leb-true doubt most_doubt (and_left few (b && d) f);
        fit = places_of (places member) (take doubt doubtful) (and_left b d p) (and_right b d p);
        few_blank = few_blank;
      }

  pub form-asked : Asked 𝓢 rate costs doubtful doubt → well_formed 𝓢 rate costs doubtful doubt ≡ true
  unfolding well_formed are_places
  form-asked A =
      let t = places-test A.fit in
      rw (A.known, eq-eqb (length costs) whole A.size, le-leb doubt most_doubt A.few, t.0, t.1)

  pub asked-yes : asked_of 𝓢 rate costs doubtful doubt ≡ true → Asked 𝓢 rate costs doubtful doubt
  unfolding asked_of
  asked-yes e =
      let form = well_formed 𝓢 rate costs doubtful doubt in
      asked-form (and_left form (leb blank limit) e) (leb-true blank limit (and_right form (leb blank limit) e))

  pub asked_is : Asked 𝓢 rate costs doubtful doubt → asked_of 𝓢 rate costs doubtful doubt ≡ true
  unfolding asked_of
  asked_is A = and_both (well_formed 𝓢 rate costs doubtful doubt) (leb blank limit) (form-asked A) (le-leb blank limit A.few_blank)

  -- what the test words find
  abbrev found : Finding
  found = found_of member longest rate (columns_of 𝓢 costs) (tests_of 𝓢 costs doubtful doubt)

  pub nearest-asked : Asked 𝓢 rate costs doubtful doubt → nearest_of 𝓢 rate costs doubtful doubt ≡ found
  unfolding nearest_of
  nearest-asked A = ap (λ b. cond b found (nothing_found member longest)) (asked_is A)

  pub nearest-unasked : ¬ Asked 𝓢 rate costs doubtful doubt → nearest_of 𝓢 rate costs doubtful doubt ≡ nothing_found member longest
  unfolding nearest_of
  nearest-unasked n = go (asked_of 𝓢 rate costs doubtful doubt) refl
    where
      go : (b : Bool) → asked_of 𝓢 rate costs doubtful doubt ≡ b → cond b found (nothing_found member longest) ≡ nothing_found member longest
      go true e = absurd (n (asked-yes e))
      go false e = refl

  pub nearest-call : (f : Finding) → f ≡ nearest_of 𝓢 rate costs doubtful doubt → NearestCall 𝓢 rate costs doubtful doubt f
  unfolding nothing_found
  nearest-call f e =
      record {
        asked = λ A.
            subst (Nearest member rate (columns_of 𝓢 costs) (tests_of 𝓢 costs doubtful doubt)) (sym (e ∙ nearest-asked A))
            (found-nearest member longest rate (columns_of 𝓢 costs) (tests_of 𝓢 costs doubtful doubt) (𝓢.bounded rate A.known));
        refused = λ n. e ∙ nearest-unasked n;
        encoded = go (asked_of 𝓢 rate costs doubtful doubt) refl;
      }
    where
      go : (b : Bool) → asked_of 𝓢 rate costs doubtful doubt ≡ b → (t : ℕ) → total_is f.answer ≡ some t
          → f.codeword ≡ encode_of member rate (take rate f.message)
      go true q t h =
          let A = asked-yes q in
          (subst (Sound member longest rate (columns_of 𝓢 costs)) (sym (e ∙ nearest-asked A))
          (found-sound member longest rate (columns_of 𝓢 costs) (tests_of 𝓢 costs doubtful doubt) (𝓢.bounded rate A.known))).encoded
      go false q t h =
          let z = e ∙ nearest-unasked (λ A. false≢true (sym q ∙ asked_is A)) in
          absurd (total-none (ap (λ (g : Finding). g.answer) z) h)

  -- ---- the tests by their parts

  pub unasked : (f : Finding) → ¬ Asked 𝓢 rate costs doubtful doubt → f ≡ nothing_found member longest → f ≡ nearest_of 𝓢 rate costs doubtful doubt
  unasked f n e = e ∙ sym (nearest-unasked n)

  pub unasked-doubt : most_doubt < doubt → ¬ Asked 𝓢 rate costs doubtful doubt
  unasked-doubt h A = omega (arith, A.few)

  pub unasked-form : well_formed 𝓢 rate costs doubtful doubt ≡ false → ¬ Asked 𝓢 rate costs doubtful doubt
  unasked-form e A = false≢true (sym e ∙ form-asked A)

  pub unasked-blank : (b l : ℕ) → b ≡ blank → l ≡ limit → l < b → ¬ Asked 𝓢 rate costs doubtful doubt
  unasked-blank b l b-is l-is h A = omega (arith, b-is, l-is, A.few_blank)

  pub rate-refused : 𝓢.known rate ≡ false → well_formed 𝓢 rate costs doubtful doubt ≡ false
  unfolding well_formed
  rate-refused k = rw k

  module _ (k : 𝓢.known rate ≡ true) where
    pub size-refused : (length costs ≡ whole → ⊥) → well_formed 𝓢 rate costs doubtful doubt ≡ false
    unfolding well_formed
    size-refused n = rw (k, ne_eqb (length costs) whole n)

    module _ (size : length costs ≡ whole) where
      pub doubt-refused : most_doubt < doubt → well_formed 𝓢 rate costs doubtful doubt ≡ false
      unfolding well_formed
      doubt-refused h = rw (k, eq-eqb (length costs) whole size, lt-leb doubt most_doubt h)

      pub places-asked : doubt ≤ most_doubt → well_formed 𝓢 rate costs doubtful doubt ≡ are_places (places member) (take doubt doubtful)
      unfolding well_formed
      places-asked h = rw (k, eq-eqb (length costs) whole size, le-leb doubt most_doubt h)
