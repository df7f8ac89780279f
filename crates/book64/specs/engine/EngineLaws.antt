-- What the engine answers, case by case, and document 02's sentences about it.
--
--   checks-rate, checks-size, checks-symbol, checks-list, checks-blank, checks-fit   the six cases of its checks
--   EnginePassed, engine-passed, engine-fits   what is known where they pass, and the other way round
--   engine-refused, engine-none, engine-some   the three cases of the call: refused by a check, no codeword within T, and one
--   unblanked-count       the unblanked places and the blank ones are all
--   unblanked-repairs     so T wrong ones of the unblanked places can be repaired
--   IsWithin rate blanks word m   m is a message, and its codeword differs from the word in at most T unblanked places
--   within-found, found_within   so is the message that is searched for
--   engine-finds          'the codeword within T, if there is one': where there is one it is found,
--   engine-within         what is found is one,
--   engine-nobody         and where the call says 'none near' there is none; both buffers are as they were
--   engine-least-Q        'the Q it writes is the least one of document 01': the reading's rule applied to the test word at all its unblanked places
use Rattle.std.specs.Prelude.{Bool, not, ◌&&◌, ◌≡◌, ◌≢◌, ℕ, ◌+◌, ◌<◌, ◌≤◌, T, ltb, length}
use Rattle.std.proofs.Math.Bool.{true, false, cond}
use Rattle.std.proofs.Math.Path.{refl, ap}
use Rattle.std.proofs.Common.{sym, ◌∙◌, subst, le→leb, leb→le}
use mathlib.Core.List.{List, Memᴰ}
use Rattle.std.proofs.Math.Option.{Option, some, none}
use native.Mathlib.Omega.{arith}
use Rattle.std.proofs.Math.Dec.{eqb, leb}
use borrow.Author.Tests.{eq-eqb, ne_eqb, eqb-true, lt-ltb, le-leb, lt-leb, leb-true}
use Rattle.lists.specs.Count.{count, count-ext, count-le}
use Rattle.lists.specs.Distinct.{among-member, below, below-among, and_left, and_right}
use Rattle.lists.specs.Every.{T_true}
use Rattle.lists.specs.Listed.{listed-length}
use Rattle.lists.specs.Words.{all_below, Word}
use Rattle.lists.specs.Answers.{Answers, Found, free, answers-some, answers-none}
use Rattle.refusals.specs.Refusal.{accepted, unknown_rate, wrong_size, no_symbol, wrong_doubt, none_near, too_blank}
use Rattle.soft.specs.Total.{differing_in, everywhere}
use Rattle.family.specs.Member.{m16}
use Rattle.code.specs.Encoding.{encode_of, known_rate}
use Rattle.near.specs.Near.{near_to}
use Rattle.near.specs.Reach.{Repairable, radius, count-everywhere}
use Rattle.near.specs.Laws.{word-answers}
use Rattle.near.specs.Codeword.{place_at, near-one}
use Rattle.near.specs.Governing.{only-near}
use Rattle.near.specs.Tree.{without, count-without}
use Rattle.near.specs.Interpolated as Interpolated
use Rattle.near.specs.Here.{m_of, reach_of, blank_limit}
use Rattle.interpolant.specs.LeastQ.{reading_length, reading_of}
use Rattle.book64.specs.Modem64.{modem64}
use Rattle.book.specs.opening.Opening as Opening
use Rattle.book.specs.opening.OpeningLaws.{fits-places}
use Rattle.book64.specs.Rates.{known-rate, rate-workable, rate-orders}
use Rattle.book64.specs.readings.ReadingSentences.{ShowsLeast, shows-least}
use Rattle.book64.specs.Here.{places, width, fit_places}
use Rattle.book64.specs.engine.Engine.{unblanked_by, test_nodes, near_by, Eliminated, eliminated, engine_checks, answered, engine_of}

-- ---- the checks

pub record EnginePassed (rate : ℕ) (word blanks : List ℕ) (codeword q : ℕ) : Type 0 where
  pub known : known_rate rate ≡ true
  pub word_long : length word ≡ places
  pub codeword_long : codeword ≡ places
  pub q_long : q ≡ reading_length
  pub symbols : all_below width word ≡ true
  pub fit : fit_places blanks ≡ true
  pub few : length blanks ≤ blank_limit rate

module _ (rate : ℕ) (word blanks : List ℕ) (codeword q : ℕ) where
  abbrev sized : Bool
  sized = eqb (length word) places && (eqb codeword places && eqb q reading_length)

  pub checks-rate : known_rate rate ≡ false → engine_checks rate word blanks codeword q ≡ unknown_rate
  unfolding engine_checks
  checks-rate e = rw e

  pub checks-size : known_rate rate ≡ true → sized ≡ false → engine_checks rate word blanks codeword q ≡ wrong_size
  unfolding engine_checks
  checks-size e f = rw (e, f)

  pub checks-symbol : known_rate rate ≡ true → sized ≡ true → all_below width word ≡ false → engine_checks rate word blanks codeword q ≡ no_symbol
  unfolding engine_checks
  checks-symbol e f g = rw (e, f, g)

  pub checks-list : known_rate rate ≡ true → sized ≡ true → all_below width word ≡ true → fit_places blanks ≡ false
      → engine_checks rate word blanks codeword q ≡ wrong_doubt
  unfolding engine_checks
  checks-list e f g h = rw (e, f, g, h)

  module _ (e : known_rate rate ≡ true) (f : sized ≡ true) (g : all_below width word ≡ true) (h : fit_places blanks ≡ true) where
    pub checks-blank : blank_limit rate < length blanks → engine_checks rate word blanks codeword q ≡ too_blank
    unfolding engine_checks
    checks-blank l = rw (e, f, g, h, lt-leb (length blanks) (blank_limit rate) l)

    pub checks-fit : length blanks ≤ blank_limit rate → engine_checks rate word blanks codeword q ≡ accepted
    unfolding engine_checks
    checks-fit l = rw (e, f, g, h, le-leb (length blanks) (blank_limit rate) l)

  pub engine-passed : engine_checks rate word blanks codeword q ≡ accepted → EnginePassed rate word blanks codeword q
  unfolding engine_checks
  engine-passed n = go (known_rate rate) refl sized refl (all_below width word) refl (fit_places blanks) refl (leb (length blanks) (blank_limit rate)) refl n
    where
      go : (a : Bool) → known_rate rate ≡ a → (b : Bool) → sized ≡ b → (c : Bool) → all_below width word ≡ c → (d : Bool) → fit_places blanks ≡ d
          → (f : Bool) → leb (length blanks) (blank_limit rate) ≡ f
          → cond a (cond b (cond c (cond d (cond f accepted too_blank) wrong_doubt) no_symbol) wrong_size) unknown_rate ≡ accepted
          → EnginePassed rate word blanks codeword q
      go false ea b eb c ec d ed f ef z = absurd (omega arith)
      go true ea false eb c ec d ed f ef z = absurd (omega arith)
      go true ea true eb false ec d ed f ef z = absurd (omega arith)
      go true ea true eb true ec false ed f ef z = absurd (omega arith)
      go true ea true eb true ec true ed false ef z = absurd (omega arith)
      go true ea true eb true ec true ed true ef z =
          let rest : (eqb codeword places && eqb q reading_length) ≡ true = and_right (eqb (length word) places) (eqb codeword places && eqb q reading_length) eb in
          record {
            known = ea;
            word_long = eqb-true (length word) places (and_left (eqb (length word) places) (eqb codeword places && eqb q reading_length) eb);
            codeword_long = eqb-true codeword places (and_left (eqb codeword places) (eqb q reading_length) rest);
            q_long = eqb-true q reading_length (and_right (eqb codeword places) (eqb q reading_length) rest);
            symbols = ec;
            fit = ed;
            few = leb-true (length blanks) (blank_limit rate) ef;
          }

-- ---- the call

module _ (rate : ℕ) (word blanks codeword q : List ℕ) where
  abbrev number : ℕ
  number = engine_checks rate word blanks (length codeword) (length q)

  pub engine-refused : number ≢ accepted → engine_of rate word blanks codeword q ≡ eliminated number codeword q
  unfolding engine_of
  engine-refused n =
      ap (λ b. cond b (answered rate word blanks codeword q (near_by rate blanks word)) (eliminated number codeword q)) (ne_eqb number accepted n)

  module _ (passed : number ≡ accepted) where
    engine-answered : engine_of rate word blanks codeword q ≡ answered rate word blanks codeword q (near_by rate blanks word)
    unfolding engine_of
    engine-answered =
        ap (λ b. cond b (answered rate word blanks codeword q (near_by rate blanks word)) (eliminated number codeword q)) (eq-eqb number accepted passed)

    pub engine-none : near_by rate blanks word ≡ none → engine_of rate word blanks codeword q ≡ eliminated none_near codeword q
    unfolding answered
    engine-none e = engine-answered ∙ ap (answered rate word blanks codeword q) e

    pub engine-some : {m : List ℕ} → near_by rate blanks word ≡ some m
        → engine_of rate word blanks codeword q ≡ eliminated accepted (encode_of rate m) (reading_of (m_of rate) (test_nodes blanks word))
    unfolding answered
    engine-some e = engine-answered ∙ ap (answered rate word blanks codeword q) e

-- ---- the unblanked places

pub unblanked-count : (blanks : List ℕ) → fit_places blanks ≡ true → count places (unblanked_by blanks) + length blanks ≡ places
unfolding unblanked_by without Opening.fit_places
unblanked-count blanks fit =
    let b = and_left (below places blanks) (Opening.rising blanks) fit in
    count-without (λ p. ltb p places) (fits-places modem64 blanks fit) (λ p m. lt-ltb p places (below-among places blanks p b (among-member m)))
    ∙ count-ext places (λ p. ltb p places) everywhere (λ p l. lt-ltb p places l) ∙ count-everywhere places

pub unblanked-repairs : (rate : ℕ) (blanks : List ℕ) → known_rate rate ≡ true → fit_places blanks ≡ true → length blanks ≤ blank_limit rate
    → Repairable m16 (unblanked_by blanks) (reach_of rate (length blanks)) rate
unblanked-repairs rate blanks known fit few =
    radius m16 (rate-workable (known-rate rate known)) (unblanked_by blanks) few (unblanked-count blanks fit)

-- ---- the sentences

pub record IsWithin (rate : ℕ) (blanks word m : List ℕ) : Type 0 where
  pub message : Word width rate m
  pub close : differing_in (unblanked_by blanks) places (encode_of rate m) word ≤ reach_of rate (length blanks)

pub within-found : {rate : ℕ} {blanks word m : List ℕ} → IsWithin rate blanks word m
    → Found width rate (near_to m16 (unblanked_by blanks) (reach_of rate (length blanks)) rate word) m
unfolding near_to
within-found {rate} {blanks} h = record { word = h.message; passed = le→leb _ (reach_of rate (length blanks)) h.close }

pub found_within : {rate : ℕ} {blanks word m : List ℕ} → Found width rate (near_to m16 (unblanked_by blanks) (reach_of rate (length blanks)) rate word) m
    → IsWithin rate blanks word m
unfolding near_to
found_within {rate} {blanks} f = record { message = f.word; close = leb→le _ (reach_of rate (length blanks)) f.passed }

module _ (rate : ℕ) (word blanks codeword q : List ℕ) (P : EnginePassed rate word blanks (length codeword) (length q)) where
  pub engine-fits : engine_checks rate word blanks (length codeword) (length q) ≡ accepted
  engine-fits =
      checks-fit rate word blanks (length codeword) (length q) P.known
      (rw (eq-eqb (length word) places P.word_long, eq-eqb (length codeword) places P.codeword_long, eq-eqb (length q) reading_length P.q_long))
      P.symbols P.fit P.few

  abbrev call : Eliminated
  call = engine_of rate word blanks codeword q

  abbrev near_word : List ℕ → Type 0
  near_word = Found width rate (near_to m16 (unblanked_by blanks) (reach_of rate (length blanks)) rate word)

  answers : Answers free near_word (near_by rate blanks word)
  answers = word-answers m16 (unblanked_by blanks) (reach_of rate (length blanks)) rate word

  pub engine-finds : {m : List ℕ} → IsWithin rate blanks word m
      → call ≡ eliminated accepted (encode_of rate m) (reading_of (m_of rate) (test_nodes blanks word))
  engine-finds {m} h =
      let f = within-found h in
      let w = rate-workable (known-rate rate P.known) in
      engine-some rate word blanks codeword q engine-fits
      (only-near m16 (unblanked_by blanks) (reach_of rate (length blanks)) w f.word word
      (λ n g. near-one m16 (unblanked_by blanks) (reach_of rate (length blanks)) w word (unblanked-repairs rate blanks P.known P.fit P.few) g f)
      (T_true _ f.passed))

  -- what the call says of the message that is near
  by_answer : (o : Option (List ℕ)) → near_by rate blanks word ≡ o → call.number ≡ accepted
      → (m : List ℕ) × IsWithin rate blanks word m × (call.codeword ≡ encode_of rate m) × (call.q ≡ reading_of (m_of rate) (test_nodes blanks word))
  by_answer none e n = absurd (omega (arith, sym (ap (λ (c : Eliminated). c.number) (engine-none rate word blanks codeword q engine-fits e)) ∙ n))
  by_answer (some m) e n =
      let s = engine-some rate word blanks codeword q engine-fits e in (
        m,
        found_within (answers-some (subst (Answers free near_word) e answers)),
        ap (λ (c : Eliminated). c.codeword) s,
        ap (λ (c : Eliminated). c.q) s,
      )

  pub engine-within : call.number ≡ accepted → (m : List ℕ) × IsWithin rate blanks word m × (call.codeword ≡ encode_of rate m)
  engine-within n = let r = by_answer (near_by rate blanks word) refl n in (r.0, r.1, r.2)

  pub engine-nobody : call.number ≡ none_near → ((m : List ℕ) → IsWithin rate blanks word m → ⊥) × (call.codeword ≡ codeword) × (call.q ≡ q)
  engine-nobody n = go (near_by rate blanks word) refl
    where
      go : (o : Option (List ℕ)) → near_by rate blanks word ≡ o
          → ((m : List ℕ) → IsWithin rate blanks word m → ⊥) × (call.codeword ≡ codeword) × (call.q ≡ q)
      go none e =
          let s = engine-none rate word blanks codeword q engine-fits e in (
            λ m h. answers-none (subst (Answers free near_word) e answers) m (within-found h),
            ap (λ (c : Eliminated). c.codeword) s,
            ap (λ (c : Eliminated). c.q) s,
          )
      go (some m) e = absurd (omega (arith, sym (ap (λ (c : Eliminated). c.number) (engine-some rate word blanks codeword q engine-fits e)) ∙ n))

  test-few : length (test_nodes blanks word) ≤ places
  unfolding Interpolated.nodes_of
  test-few =
      omega (
        arith,
        listed-length (count places (unblanked_by blanks)) (λ i. Interpolated.node_of word (place_at m16 (unblanked_by blanks) places i)),
        count-le places (unblanked_by blanks),
      )

  pub engine-least-Q : call.number ≡ accepted → ShowsLeast (m_of rate) (test_nodes blanks word) call.q
  engine-least-Q n =
      let r = by_answer (near_by rate blanks word) refl n in
      subst (ShowsLeast (m_of rate) (test_nodes blanks word)) (sym r.3)
      (shows-least (m_of rate) (test_nodes blanks word) (rate-orders (known-rate rate P.known)) test-few)
