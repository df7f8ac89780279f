-- The list of the places that count, one place after the other, in an array with room for as many as are doubtful.
--
--   doubled-start, doubled-turn            the places so far in an array of w
--   count-start, count_turn, count_fits    and how many they are
--   doubled-end                            all of them
--   doubled-few, doubled-take              they are no more than the doubtful ones, and are read back from the front
use Rattle.std.specs.Prelude.{Bool, cond, ◌≡◌, List, [], ◌∷◌, ◌++◌, ℕ, ◌+◌, ◌<◌, ◌≤◌, length, get_or, set, take, replicate}
use Rattle.std.proofs.Common.{sym, ap, ap₂, ◌∙◌, add-one, arith, length-append, length-take, take-suc}
use Rattle.lists.specs.Count.{bit, length-if}
use Rattle.lists.specs.Padded.{padded, padded-nil, padded-if, padded-take}
use Rattle.soft.specs.Blank.{unblanked}
use Rattle.soft.specs.BlankLaws.{unblanked-nil, unblanked-snoc, unblanked-length}

module _ (counts : ℕ → Bool) (doubtful : List ℕ) where
  pub doubled-start : (w : ℕ) → replicate w 0 ≡ padded w (unblanked counts (take 0 doubtful))
  doubled-start w = sym (ap (padded w) (unblanked-nil counts) ∙ padded-nil w)

  pub count-start : 0 ≡ length (unblanked counts (take 0 doubtful))
  count-start = sym (ap length (unblanked-nil counts))

  pub count_fits : (i found : ℕ) → found ≡ length (unblanked counts (take i doubtful)) → found ≤ i
  count_fits i found e = omega (arith, unblanked-length counts (take i doubtful), length-take i doubtful)

  pub doubled-end : (most : ℕ) {i doubt found : ℕ} {out : List ℕ} → i ≡ doubt → out ≡ padded most (unblanked counts (take i doubtful))
      → found ≡ length (unblanked counts (take i doubtful))
      → (out ≡ padded most (unblanked counts (take doubt doubtful))) × (found ≡ length (unblanked counts (take doubt doubtful)))
  doubled-end most e out-is found-is = (
    out-is ∙ ap (λ n. padded most (unblanked counts (take n doubtful))) e,
    found-is ∙ ap (λ n. length (unblanked counts (take n doubtful))) e,
  )

  pub doubled-few : {most doubt found : ℕ} → doubt ≤ most → found ≡ length (unblanked counts (take doubt doubtful)) → found ≤ most
  doubled-few {doubt = doubt} few e = omega (arith, e, count_fits doubt _ e)

  pub doubled-take : {most doubt found : ℕ} {out : List ℕ} → doubt ≤ most → out ≡ padded most (unblanked counts (take doubt doubtful))
      → found ≡ length (unblanked counts (take doubt doubtful)) → take found out ≡ unblanked counts (take doubt doubtful)
  doubled-take {most} {doubt} few out-is found-is =
      ap₂ take found-is out-is ∙ padded-take most (unblanked counts (take doubt doubtful)) (omega (arith, found-is, doubled-few few found-is))

  module _ (i : ℕ) (h : i < length doubtful) where
    abbrev x : ℕ
    x = get_or doubtful i 0

    longer : unblanked counts (take (i + 1) doubtful) ≡ unblanked counts (take i doubtful) ++ cond (counts x) (x ∷ []) []
    longer =
        ap (unblanked counts) (ap (λ j. take j doubtful) (add-one i) ∙ take-suc doubtful i 0 h) ∙ unblanked-snoc counts (take i doubtful) x

    pub doubled-turn : (w : ℕ) (out r : List ℕ) (found : ℕ) (b : Bool) → out ≡ padded w (unblanked counts (take i doubtful))
        → found ≡ length (unblanked counts (take i doubtful)) → b ≡ counts x → r ≡ cond b (set out found x) out
        → r ≡ padded w (unblanked counts (take (i + 1) doubtful))
    doubled-turn w out r found b out-is found-is b-is r-is =
        r-is ∙ ap₂ (λ t (o : List ℕ). cond t (set o found x) o) b-is out-is
        ∙ padded-if w (unblanked counts (take i doubtful)) x found (counts x) found-is ∙ ap (padded w) (sym longer)

    pub count_turn : (found n : ℕ) (b : Bool) → found ≡ length (unblanked counts (take i doubtful)) → b ≡ counts x → n ≡ bit b
        → found + n ≡ length (unblanked counts (take (i + 1) doubtful))
    count_turn found n b found-is b-is n-is =
        omega (
          arith,
          found-is,
          n-is,
          ap bit b-is,
          length-if (counts x) x,
          ap length longer,
          length-append (unblanked counts (take i doubtful)) (cond (counts x) (x ∷ []) []),
        )
