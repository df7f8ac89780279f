-- What stands beside an answer, for every member and any longest rate.
--
--   counted n f            what f has found, with the count n of test words
--   answering a f          what stands beside the answer of f, with the answer a
--   missed_of known         no codeword is near; the known message and its codeword still stand beside it
--   told_of f               what is told of f: zeros beside 'none near'; told_for, told-by: by its answer
--   Sound k columns f      beside the answer of f, near or not, stands a message of k symbols with zeros behind it, and its codeword; an answer in f
--                          has their total
--   sound_none             what is to be known for it where none is near
--   sound-nothing          zeros are sound: the zero word is a codeword
--   sound-counted, sound-missed, sound-answering   by whatever count, where none is near, and as the answer, with whatever margin
--   nearest-missed         what is known, where no codeword is near
--   told_is                what is told of what is sound and nearest is all that a search returns,
--   found-nearest, found-sound     which is nearest and sound
use Rattle.std.specs.Prelude.{◌≡◌, List, ℕ, ◌≤◌, length, get_or, take, replicate}
use Rattle.std.proofs.Math.Path.{refl, sym, ap, ap₂}
use Rattle.std.proofs.Common.{◌∙◌, subst, arith}
use Rattle.std.proofs.Math.Option.{Option, some, none}
use Rattle.std.proofs.lemmas.List.{length-replicate}
use Rattle.std.proofs.Math.ListN.{get_or-replicate}
use Rattle.lists.specs.Padded.{padded, padded-take, padded-zeros}
use Rattle.lists.specs.Words.{Word, all_below-from}
use Rattle.family.specs.Encoding.{encode_of}
use Rattle.answer.specs.Margin.{Margin, margin_from, is-from, from_is}
use Rattle.near.specs.Near.{message_cost}
use Rattle.near.specs.Reach.{reach_in}
use Rattle.search.specs.Open.{answer_of, margin_of}
use Rattle.near.specs.Laws.{answer_word}
use Rattle.near.specs.Result.{refused_result}
use Rattle.near.specs.Result as Family
use Rattle.answer.specs.declared.Answer.{Answer}
use Rattle.answer.specs.declared.Answer.TheVariants.{NoneNear, Near}
use Rattle.search.specs.Result.{Finding, total_is, total-near, total-none, nothing_found, found_with, found_for, found_of, found-same}
use Rattle.search.specs.Nearest.{Nearest, nearest-nobody, nearest-somebody, nearest-margin, nearest-none, nearest-some}
use Rattle.galois.specs.BinaryField.{one-lt}
use Rattle.family.specs.Member.{Member, symbols}
use Rattle.family.specs.Evaluation.{encode-zeros}
use Rattle.soft.specs.Blank.{open_at}

unfoldable pub counted : ℕ → Finding → Finding
counted n f = record { answer = f.answer; message = f.message; codeword = f.codeword; tests = n }

unfoldable pub answering : Answer → Finding → Finding
answering a f = record { answer = a; message = f.message; codeword = f.codeword; tests = f.tests }

unfoldable pub missed_of : Finding → Finding
missed_of known = counted 0 (answering NoneNear known)

-- by the answer
unfoldable pub told_for : Member → ℕ → Answer → Finding → Finding
told_for 𝓜 most NoneNear f = nothing_found 𝓜 most
told_for 𝓜 most (Near t d) f = f

unfoldable pub told_of : Member → ℕ → Finding → Finding
told_of 𝓜 most f = told_for 𝓜 most f.answer f

pub told-by : (𝓜 : Member) (most : ℕ) (f : Finding) {a : Answer} → f.answer ≡ a → told_for 𝓜 most a f ≡ told_of 𝓜 most f
unfolding told_of
told-by 𝓜 most f e = ap (λ a. told_for 𝓜 most a f) (sym e)

pub record Sound (𝓜 : Member) (most k : ℕ) (columns : ℕ → List ℕ) (f : Finding) : Type 0 where
  pub word : Word (symbols 𝓜) k (take k f.message)
  pub behind : f.message ≡ padded most (take k f.message)
  pub encoded : f.codeword ≡ encode_of 𝓜 k (take k f.message)
  pub cost : (t : ℕ) → total_is f.answer ≡ some t → t ≡ message_cost 𝓜 k columns (take k f.message)

-- a message of k symbols is read back from the front
front : {most k : ℕ} {m : List ℕ} → k ≤ most → length m ≡ k → m ≡ take k (padded most m)
front {most} {m = m} small l = sym (ap (λ n. take n (padded most m)) (sym l) ∙ padded-take most m (omega arith))

zero_word : (𝓜 : Member) (k : ℕ) → Word (symbols 𝓜) k (replicate k 0)
zero_word 𝓜 k =
    let zeros : List ℕ = replicate k 0 in
    let l : length zeros ≡ k = length-replicate k 0 in
    record {
      size = l;
      symbols =
          all_below-from (symbols 𝓜) zeros (λ i h.
          let z : get_or zeros i 0 ≡ 0 = get_or-replicate k i 0 0 (omega arith) in
          omega (arith, one-lt 𝓜.gf));
    }

pub nearest-missed : {𝓜 : Member} {k : ℕ} {columns : ℕ → List ℕ} {ts : List (List ℕ)} (known : Finding) → answer_of 𝓜 k columns ts ≡ none
    → Nearest 𝓜 k columns ts (missed_of known)
unfolding missed_of counted answering
nearest-missed known e = nearest-none refl refl e

module _ {𝓜 : Member} {most k : ℕ} {columns : ℕ → List ℕ} where
  pub sound_none : {f : Finding} → f.answer ≡ NoneNear → Word (symbols 𝓜) k (take k f.message) → f.message ≡ padded most (take k f.message)
      → f.codeword ≡ encode_of 𝓜 k (take k f.message) → Sound 𝓜 most k columns f
  sound_none e w b c = record { word = w; behind = b; encoded = c; cost = λ t h. absurd (total-none e h) }

  -- a message that stands in the first entries
  sound-padded : {f : Finding} {m : List ℕ} → k ≤ most → Word (symbols 𝓜) k m → f.message ≡ padded most m → f.codeword ≡ encode_of 𝓜 k m
      → ((t : ℕ) → total_is f.answer ≡ some t → t ≡ message_cost 𝓜 k columns m) → Sound 𝓜 most k columns f
  sound-padded small w b c cost =
      let e = front small w.size ∙ ap (take k) (sym b) in
      record {
        word = subst (Word (symbols 𝓜) k) e w;
        behind = b ∙ ap (padded most) e;
        encoded = c ∙ ap (encode_of 𝓜 k) e;
        cost = λ t h. cost t h ∙ ap (message_cost 𝓜 k columns) e;
      }

  pub sound-nothing : k ≤ most → Sound 𝓜 most k columns (nothing_found 𝓜 most)
  unfolding nothing_found
  sound-nothing small =
      sound-padded small (zero_word 𝓜 k) (sym (padded-zeros most k))
      (sym (encode-zeros 𝓜 k (replicate k 0) (λ t h. get_or-replicate k t 0 0 h))) (λ t h. absurd (total-none refl h))

  pub sound-counted : {f : Finding} (n : ℕ) → Sound 𝓜 most k columns f → Sound 𝓜 most k columns (counted n f)
  unfolding counted
  sound-counted n s = record { word = s.word; behind = s.behind; encoded = s.encoded; cost = s.cost }

  pub sound-missed : {known : Finding} → Sound 𝓜 most k columns known → Sound 𝓜 most k columns (missed_of known)
  unfolding missed_of counted answering
  sound-missed s = sound_none refl s.word s.behind s.encoded

  pub sound-answering : {f : Finding} {t : ℕ} (d : Margin) → t ≡ message_cost 𝓜 k columns (take k f.message) → Sound 𝓜 most k columns f → Sound 𝓜 most k columns (answering (Near t d) f)
  unfolding answering total_is
  sound-answering {t = t} d e s =
      record { word = s.word; behind = s.behind; encoded = s.encoded; cost = λ u h. let q : u ≡ t = cc in q ∙ e }

  pub told_is : {ts : List (List ℕ)} {f : Finding} → Nearest 𝓜 k columns ts f → Sound 𝓜 most k columns f → told_of 𝓜 most f ≡ found_of 𝓜 most k columns ts
  unfolding told_of told_for found_of found_with Family.result_of Family.result_for refused_result
  told_is {ts} {f} n s = go f.answer refl
    where
      go : (a : Answer) → f.answer ≡ a → told_for 𝓜 most a f ≡ found_for 𝓜 most k columns ts (answer_of 𝓜 k columns ts)
      go NoneNear e = sym (ap (found_for 𝓜 most k columns ts) (nearest-nobody n e))
      go (Near t d) e =
          let h : total_is f.answer ≡ some t = total-near e in
          let q = nearest-somebody n t h in
          found-same f (found_for 𝓜 most k columns ts (some (take k f.message)))
          (e ∙ ap₂ Near q.1 (sym (from_is d) ∙ ap margin_from (nearest-margin n t d e))) s.behind s.encoded n.count
          ∙ sym (ap (found_for 𝓜 most k columns ts) q.0)

module _ (𝓜 : Member) (most k : ℕ) (columns : ℕ → List ℕ) (ts : List (List ℕ)) (small : k ≤ most) where
  answered : {m : List ℕ} → answer_of 𝓜 k columns ts ≡ some m → Word (symbols 𝓜) k m
  answered e = answer_word 𝓜 (open_at columns) (reach_in 𝓜 k columns) k columns ts e

  pub found-nearest : Nearest 𝓜 k columns ts (found_of 𝓜 most k columns ts)
  unfolding found_of found_with nothing_found Family.result_of Family.result_for refused_result
  found-nearest = go (answer_of 𝓜 k columns ts) refl
    where
      go : (o : Option (List ℕ)) → answer_of 𝓜 k columns ts ≡ o → Nearest 𝓜 k columns ts (found_for 𝓜 most k columns ts o)
      go none e = nearest-none refl refl e
      go (some m) e =
          let q = front small (answered e).size in
          nearest-some (found_for 𝓜 most k columns ts (some m)) (message_cost 𝓜 k columns m) (margin_from (margin_of 𝓜 k columns ts m)) refl refl (e ∙ ap some q)
          (ap (message_cost 𝓜 k columns) q) (is-from (margin_of 𝓜 k columns ts m) ∙ ap (margin_of 𝓜 k columns ts) q)

  pub found-sound : Sound 𝓜 most k columns (found_of 𝓜 most k columns ts)
  unfolding found_of found_with total_is Family.result_of Family.result_for refused_result
  found-sound = go (answer_of 𝓜 k columns ts) refl
    where
      go : (o : Option (List ℕ)) → answer_of 𝓜 k columns ts ≡ o → Sound 𝓜 most k columns (found_for 𝓜 most k columns ts o)
      go none e = sound-nothing small
      go (some m) e = sound-padded small (answered e) refl refl (λ t h. let q : t ≡ message_cost 𝓜 k columns m = cc in q)
