-- The margin to the runner-up: the least total among near codewords other than the answer's, minus the answer's total. For every member, any
-- T and any places that count.
--
--   margin_of k columns tests m   how much more than the codeword of m the cheapest other near codeword costs; none where no other is near
--   margin-absent                there is none exactly if no other codeword is near
--   margin-some                  where m is the answer, it is d exactly if there is a runner-up whose total is m's total and d
--   margin-beaten, margin-nobody   what the answer costs more than a message that beats it; none where no codeword is near
--   margin-le                    it is no larger than what every codeword costs at most
--   margin-governed              where no codeword but that of m is within T of a test word, there is none
--   margin-append                the margin of two lists is the smaller of theirs
--   margin-first, margin-second  where the first or the second list has the better answer, the other's answer is a rival
--   margin-left, margin-right    where the other list has none
use Rattle.std.specs.Prelude.{Bool, ◌≡◌, ◌↔◌, ℕ, ◌-◌, ◌<◌, ◌≤◌}
use Rattle.std.proofs.Common.{ap, ◌∙◌, subst}
use Rattle.std.proofs.Math.Path.{fun_ext}
use mathlib.Core.List.{List, ◌++◌, Memᴰ}
use Rattle.std.proofs.Math.Option.{Option, some, none}
use Rattle.lists.specs.Words.{words}
use Rattle.lists.specs.Answers.{Answers, Beats, Found}
use Rattle.lists.specs.Margin as Margin
use Rattle.lists.specs.Margin.{margin_among, RunnerUp, lesser, lesser-none, lesser-comm}
use Rattle.family.specs.Member.{Member, symbols}
use Rattle.near.specs.Near.{near_to, near, message_cost, answer_of}
use Rattle.near.specs.Laws.{near-member, near-answers, found-append}

module _ (𝓜 : Member) (counts : ℕ → Bool) (reach : ℕ) where
  unfoldable pub margin_of : ℕ → (ℕ → List ℕ) → List (List ℕ) → List ℕ → Option ℕ
  margin_of k columns tests m = margin_among (message_cost 𝓜 k columns) (near 𝓜 counts reach k tests) (words (symbols 𝓜) k) m

  -- ---- one list of test words

  module _ (k : ℕ) (columns : ℕ → List ℕ) (ts : List (List ℕ)) where
    answered : {o : Option (List ℕ)} → answer_of 𝓜 counts reach k columns ts ≡ o
        → Answers (message_cost 𝓜 k columns) (Found (symbols 𝓜) k (near 𝓜 counts reach k ts)) o
    answered e =
        subst (Answers (message_cost 𝓜 k columns) (Found (symbols 𝓜) k (near 𝓜 counts reach k ts))) e (near-answers 𝓜 counts reach k columns ts)

    pub margin-absent : (m : List ℕ)
        → (margin_of k columns ts m ≡ none) ↔ ((n : List ℕ) → Found (symbols 𝓜) k (near 𝓜 counts reach k ts) n → n ≡ m)
    unfolding margin_of
    margin-absent m = Margin.margin-absent (symbols 𝓜) k (message_cost 𝓜 k columns) (near 𝓜 counts reach k ts) m

    pub margin-some : {m : List ℕ} → answer_of 𝓜 counts reach k columns ts ≡ some m → (d : ℕ)
        → (margin_of k columns ts m ≡ some d) ↔ RunnerUp (message_cost 𝓜 k columns) (Found (symbols 𝓜) k (near 𝓜 counts reach k ts)) m d
    unfolding margin_of
    margin-some e d = Margin.margin-some (symbols 𝓜) k (message_cost 𝓜 k columns) (near 𝓜 counts reach k ts) (answered e) d

    -- what the answer costs more than a message that beats it
    pub margin-beaten : {m n : List ℕ} → answer_of 𝓜 counts reach k columns ts ≡ some n → Beats (message_cost 𝓜 k columns) m n
        → margin_of k columns ts m ≡ some (message_cost 𝓜 k columns n - message_cost 𝓜 k columns m)
    unfolding margin_of
    margin-beaten e b = Margin.margin-beaten (symbols 𝓜) k (message_cost 𝓜 k columns) (near 𝓜 counts reach k ts) (answered e) b

    pub margin-nobody : answer_of 𝓜 counts reach k columns ts ≡ none → (m : List ℕ) → margin_of k columns ts m ≡ none
    unfolding margin_of
    margin-nobody e m = Margin.margin-nobody (symbols 𝓜) k (message_cost 𝓜 k columns) (near 𝓜 counts reach k ts) (answered e) m

    pub margin-le : {b : ℕ} → ((n : List ℕ) → message_cost 𝓜 k columns n ≤ b) → (m : List ℕ) {d : ℕ} → margin_of k columns ts m ≡ some d → d ≤ b
    unfolding margin_of
    margin-le h m = Margin.margin-le h (near 𝓜 counts reach k ts) (words (symbols 𝓜) k) m

    pub margin-governed : {m : List ℕ}
        → ((t : List ℕ) → Memᴰ t ts → (n : List ℕ) → Found (symbols 𝓜) k (near_to 𝓜 counts reach k t) n → n ≡ m)
        → margin_of k columns ts m ≡ none
    margin-governed {m} h =
        (margin-absent m).1
        (λ n f.
        let r = near-member 𝓜 counts reach k ts n f.passed in
        h r.0 r.1 n (record { word = f.word; passed = r.2 }))

  -- ---- two lists

  module _ (k : ℕ) (columns : ℕ → List ℕ) (ts us : List (List ℕ)) where
    pub margin-append : (m : List ℕ) → margin_of k columns (ts ++ us) m ≡ lesser (margin_of k columns ts m) (margin_of k columns us m)
    unfolding margin_of
    margin-append m = Margin.margin-either (symbols 𝓜) k (message_cost 𝓜 k columns) (found-append 𝓜 counts reach k ts us) m

    append_comm : (m : List ℕ) → margin_of k columns (ts ++ us) m ≡ lesser (margin_of k columns us m) (margin_of k columns ts m)
    append_comm m = margin-append m ∙ lesser-comm (margin_of k columns ts m) (margin_of k columns us m)

    pub margin-first : {m n : List ℕ} → answer_of 𝓜 counts reach k columns us ≡ some n → Beats (message_cost 𝓜 k columns) m n
        → margin_of k columns (ts ++ us) m ≡ lesser (margin_of k columns ts m) (some (message_cost 𝓜 k columns n - message_cost 𝓜 k columns m))
    margin-first {m} e b = margin-append m ∙ ap (lesser (margin_of k columns ts m)) (margin-beaten k columns us e b)

    pub margin-second : {m n : List ℕ} → answer_of 𝓜 counts reach k columns ts ≡ some m → Beats (message_cost 𝓜 k columns) n m
        → margin_of k columns (ts ++ us) n ≡ lesser (margin_of k columns us n) (some (message_cost 𝓜 k columns m - message_cost 𝓜 k columns n))
    margin-second {n = n} e b = append_comm n ∙ ap (lesser (margin_of k columns us n)) (margin-beaten k columns ts e b)

    pub margin-left : answer_of 𝓜 counts reach k columns us ≡ none → (m : List ℕ) → margin_of k columns (ts ++ us) m ≡ margin_of k columns ts m
    margin-left e m =
        margin-append m ∙ ap (lesser (margin_of k columns ts m)) (margin-nobody k columns us e m) ∙ lesser-none (margin_of k columns ts m)

    pub margin-right : answer_of 𝓜 counts reach k columns ts ≡ none → (m : List ℕ) → margin_of k columns (ts ++ us) m ≡ margin_of k columns us m
    margin-right e m =
        append_comm m ∙ ap (lesser (margin_of k columns us m)) (margin-nobody k columns ts e m) ∙ lesser-none (margin_of k columns us m)
