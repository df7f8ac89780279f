-- Word by word: the columns of one, its part of the buffer, and what is left at the end.
use mathlib.Core.Bool.{Bool, true, false, cond}
use mathlib.Core.Path.{◌≡◌, refl, sym, ap, ap₂, ◌∙◌, fun_ext, subst}
use mathlib.Core.Logic.{◌≢◌}
use mathlib.Core.Option.{Option, some, none}
use mathlib.Core.List.{List, [], ◌++◌, append-nil}
use Prim.Native.Nat.{ℕ, suc, ◌+◌, ◌-◌, ◌*◌, ◌/◌, ◌%◌, ◌^◌, ◌<◌, ◌≤◌}
use native.Mathlib.Nat.{pow-suc, mul-suc, mul-le-mul_left}
use native.Mathlib.Numerals.{add-one}
use native.Mathlib.Decide.{dec_lt}
use native.Mathlib.Omega.{arith}
use lib.Dec.{eqb}
use lib.ListN.{length, get_or, take, drop, replicate, length-append, length-drop, length-replicate, get_or-replicate, get_or-eq_default, drop_of_length-le}
use lib.Pow.{pow_mono}
use lib.Seq.{drop_at, take_all}
use Rattle.lists.specs.Block.{block}
use Rattle.lists.specs.Listed.{listed, listed-length, listed_at, listed-ext, listed_by}
use Rattle.lists.specs.Stored.{stored-part}
use Rattle.lists.specs.Words.{Word, all_below}
use Rattle.refusals.specs.Refusal.{accepted, unknown_rate, wrong_size, no_symbol, none_near}
use Rattle.soft.specs.Column.{places, symbols, cost_at, column_of}
use Rattle.near.specs.Tree.{places_nil}
use Rattle.soft.specs.Total.{differing}
use Rattle.soft.specs.TotalLaws.{differing-self, differing-fewer}
use Rattle.family.specs.Member.{m16}
use Rattle.family.specs.Calls as Family
use Rattle.family.specs.Encoding.{encode_of, read_back_of}
use Rattle.family.specs.Evaluation.{encode-length, encode-symbols}
use Rattle.code.specs.Encoding.{known_rate}
use Rattle.code.specs.Calls.{read_back_call}
use Rattle.code.specs.CallLaws.{accepted-codeword}
use Rattle.book64.specs.engine.Engine.{unblanked_by}
use Rattle.book64.specs.engine.EngineLaws.{IsWithin}
use Rattle.book.specs.closing.Closing.{Closed}
use Rattle.book.specs.tables.Table.{closed}
use Rattle.book64.specs.Here.{report_length, decode_of}
use Rattle.decoding.specs.Decoding.{Decodable}
use Rattle.soft.specs.Hard.{hard_cost, hard_column}
use Rattle.superframe.specs.Superframe.{words, head_length, word_in, hard_columns, answer_at, none_near_in, status_of, messages_of, taken, taken_of}
use Rattle.superframe.specs.Checks.{Headed, apart_fits}
use Rattle.superframe.specs.Hard.{hard-column, hard-beyond, hard-some, within-near}
use Rattle.taking_apart.specs.Taking.{TakesNear, TakesWord, TakesWords}
use Rattle.superframe.specs.Laws.{part-long, messages-long, status-less}

-- ---- one word
-- the columns of a word stand one after the other in its costs
abbrev pub cost_in : List ℕ → ℕ → ℕ
cost_in word i = hard_cost (get_or word (i / symbols) 0) (i % symbols)

pub hard-columns : (word costs : List ℕ) → length word ≡ places → costs ≡ listed (places * symbols) (cost_in word)
    → (length costs ≡ places * symbols) × (column_of symbols costs ≡ hard_columns word)
unfolding column_of hard_column
hard-columns word costs long e = (size, fun_ext (λ p. go p (dec_lt p places)))
  where
    size : length costs ≡ places * symbols
    size = ap length e ∙ listed-length (places * symbols) (cost_in word)

    there : (p s : ℕ) → p < places → s < symbols → get_or costs (p * symbols + s) 0 ≡ hard_cost (get_or word p 0) s
    there p s h l =
        let q : (p * symbols + s) / symbols ≡ p = omega arith in
        let r : (p * symbols + s) % symbols ≡ s = omega arith in
        ap (λ (c : List ℕ). get_or c (p * symbols + s) 0) e ∙ listed_at (places * symbols) (p * symbols + s) (cost_in word) 0 (omega arith)
        ∙ ap₂ (λ i t. hard_cost (get_or word i 0) t) q r

    go : (p : ℕ) → Dec (p < places) → listed symbols (cost_at symbols costs p) ≡ hard_columns word p
    go p (yes h) =
        listed-ext symbols (cost_at symbols costs p) (hard_cost (get_or word p 0)) (λ s l. there p s h l) ∙ sym (hard-column word p (omega arith))
    go p (no h) =
        sym
        (hard-beyond word p (omega arith)
        ∙ listed_by 0 symbols (replicate symbols 0) (cost_at symbols costs p) (length-replicate {A = ℕ} symbols 0)
        (λ s l. get_or-replicate {A = ℕ} symbols s 0 0 l ∙ sym (get_or-eq_default costs 0 (omega (arith, size)))))

pub word-askable : {rate : ℕ} {costs part report : List ℕ} (doubtful : List ℕ) → known_rate rate ≡ true → length costs ≡ places * symbols → length part ≡ rate
    → length report ≡ report_length → Decodable rate costs doubtful 0 part report
word-askable doubtful known size long whole =
    record {
      askable = record { known = known; size = size; few = omega arith; fit = places_nil };
      message_long = long;
      report_long = whole;
    }

pub near-taken : (rate : ℕ) (part costs : List ℕ) {word after report : List ℕ} {number : ℕ} → column_of symbols costs ≡ hard_columns word
    → closed number after report ≡ decode_of rate (column_of symbols costs) [] part (replicate report_length 0) → TakesNear rate word part number after
near-taken rate part costs ec e =
    let is = e ∙ ap (λ (c : ℕ → List ℕ). decode_of rate c [] part (replicate report_length 0)) ec in
    record { answers = ap (λ (c : Closed). c.number) is; leaves = ap (λ (c : Closed). c.message) is }

-- a word that is not read back leaves its part, and is decoded
read_kept : (rate : ℕ) (word buffer : List ℕ) → (read_back_call rate word buffer).number ≢ accepted → (read_back_call rate word buffer).buffer ≡ buffer
unfolding Family.read_back_call
read_kept rate word buffer =
    go (known_rate rate) (Family.read_back_sizes m16 rate word buffer) (all_below symbols word) (read_back_of m16 rate word)
  where
    go : (a b c : Bool) (o : Option (List ℕ))
        → (Family.checked a unknown_rate buffer
        (Family.checked b wrong_size buffer (Family.checked c no_symbol buffer (Family.found o buffer)))).number ≢ accepted
        → (Family.checked a unknown_rate buffer
        (Family.checked b wrong_size buffer (Family.checked c no_symbol buffer (Family.found o buffer)))).buffer ≡ buffer
    go false b c o n = refl
    go true false c o n = refl
    go true true false o n = refl
    go true true true none n = refl
    go true true true (some m) n = absurd (n refl)

module _ {rate : ℕ} {frame : List ℕ} {v : ℕ} {part word back : List ℕ} {number : ℕ} (is : word ≡ word_in frame v)
    (read : Family.outcome number back ≡ read_back_call rate word part) where
  pub word-unread : (number ≡ accepted → ⊥) → {after : List ℕ} {given : ℕ} → TakesNear rate word back given after → TakesWord rate frame v part given after
  unfolding answer_at
  word-unread n near =
      let kept : back ≡ part =
      ap (λ (o : Family.Answered). o.buffer) read ∙ read_kept rate word part (λ e. n (ap (λ (o : Family.Answered). o.number) read ∙ e)) in
      let same = ap₂ (λ w b. decode_of rate (hard_columns w) [] b (replicate report_length 0)) is kept in
      record {
        answers = near.answers ∙ ap (λ (c : Closed). c.number) same;
        leaves = near.leaves ∙ ap (λ (c : Closed). c.message) same;
      }

  -- a word that is read back is the codeword of what is left: it is within T of itself
  pub word_read : known_rate rate ≡ true → number ≡ accepted → TakesWord rate frame v part accepted back
  unfolding answer_at
  word_read known n =
      let a = accepted-codeword rate word part (sym (ap (λ (o : Family.Answered). o.number) read) ∙ n) in
      let left : (read_back_call rate word part).buffer ≡ back = sym (ap (λ (o : Family.Answered). o.buffer) read) in
      let code : encode_of m16 rate back ≡ word = ap (encode_of m16 rate) (sym left) ∙ a.0 in
      let long : length word ≡ places = ap length (sym code) ∙ encode-length m16 rate back in
      let small : all_below symbols word ≡ true = ap (all_below symbols) (sym code) ∙ encode-symbols m16 rate back in
      let within : IsWithin rate [] word back =
      record {
        message = subst (Word symbols rate) left a.1;
        close =
            omega (
              arith,
              differing-fewer (unblanked_by []) places (encode_of m16 rate back) word,
              ap (λ w. differing places w word) code,
              differing-self places word (omega (arith, long)),
            );
      } in
      let d = hard-some word long small rate known part (replicate report_length 0) (within-near rate word known within) in
      let same = ap (λ w. decode_of rate (hard_columns w) [] part (replicate report_length 0)) is in
      record {
        answers = sym d.0 ∙ ap (λ (c : Closed). c.number) same;
        leaves = sym d.1 ∙ ap (λ (c : Closed). c.message) same;
      }

-- ---- word by word
pub named-most : (number : ℕ) {weight more : ℕ} → more ≡ cond (eqb number none_near) weight 0 → more ≤ weight
named-most number {weight} {more} e = go (eqb number none_near) e
  where
    go : (b : Bool) → more ≡ cond b weight 0 → more ≤ weight
    go true f = omega arith
    go false f = omega arith

pub record UpTo (k : ℕ) (frame before : List ℕ) (v status weight : ℕ) (out : List ℕ) : Type 0 where
  pub within : v ≤ words
  pub named : status ≡ status_of v (none_near_in k frame before)
  pub doubled : weight ≡ 2 ^ v
  pub stands : out ≡ messages_of v k frame before ++ drop (k * v) before

pub up-to-none : (k : ℕ) (frame before : List ℕ) → UpTo k frame before 0 0 1 before
unfolding status_of messages_of
up-to-none k frame before =
    let z : k * 0 ≡ 0 = omega arith in
    record { within = omega arith; named = refl; doubled = refl; stands = sym (ap (λ n. drop n before) z) }

module _ {k : ℕ} {frame before : List ℕ} {v status weight : ℕ} {out : List ℕ} (whole : length before ≡ k * words)
    (U : UpTo k frame before v status weight out) where
  -- the weight stays small
  pub small : (status < weight) × (weight ≤ 256)
  small =
      let most : 2 ^ v ≤ 2 ^ words = pow_mono U.within in
      (omega (arith, U.named, U.doubled, status-less (none_near_in k frame before) v), omega (arith, U.doubled, most))

  done-long : length (messages_of v k frame before) ≡ k * v
  done-long = messages-long k frame before whole v U.within

  pub out-long : length out ≡ length before
  out-long =
      ap length U.stands ∙ length-append (messages_of v k frame before) (drop (k * v) before)
      ∙ omega (arith, done-long, length-drop (k * v) before, whole, row-most)
    where
      row-most : k * v ≤ k * words
      row-most = mul-le-mul_left k U.within

  -- the part that a word is lent, which is still its old one
  abbrev wide : ℕ
  wide = k * v + k - k * v

  wide_is : wide ≡ k
  wide_is = omega arith

  part-old : take wide (drop (k * v) out) ≡ block k v before
  unfolding block
  part-old =
      ap₂ (λ n l. take n l) wide_is
      (ap (drop (k * v)) U.stands ∙ drop_at (messages_of v k frame before) (drop (k * v) before) (k * v) done-long)

  pub lent-long : v < words → length (take wide (drop (k * v) out)) ≡ k
  lent-long l = ap length part-old ∙ part-long k before whole v l

  pub word-turn : v < words → {number more : ℕ} {after : List ℕ} → TakesWord k frame v (take wide (drop (k * v) out)) number after → more ≡ cond (eqb number none_near) weight 0
      → UpTo k frame before (v + 1) (status + more) (weight * 2) (take (k * v) out ++ (after ++ drop wide (drop (k * v) out)))
  unfolding status_of messages_of none_near_in
  word-turn l {number} {more} {after} T em =
      let A = answer_at k frame (block k v before) v in
      let number_is : number ≡ A.number = T.answers ∙ ap (λ p. (answer_at k frame p v).number) part-old in
      let after_is : after ≡ A.message = T.leaves ∙ ap (λ p. (answer_at k frame p v).message) part-old in
      let next : v + 1 ≡ suc v = add-one v in
      let end_is : k * v + k ≡ k * (v + 1) = omega (arith, mul-suc k v, ap (λ i. k * i) next) in
      record {
        within = omega arith;
        named =
            ap₂ (λ a b. a + b) U.named (em ∙ ap₂ (λ a w. cond (eqb a none_near) w 0) number_is U.doubled)
            ∙ ap (λ i. status_of i (none_near_in k frame before)) (sym next);
        doubled = ap (λ w. w * 2) U.doubled ∙ sym (ap (λ i. 2 ^ i) next ∙ pow-suc 2 v);
        stands =
            ap (λ m. take (k * v) out ++ (after ++ drop m (drop (k * v) out))) wide_is
            ∙ stored-part out before (messages_of v k frame before) after (k * v) k done-long U.stands
            ∙ ap₂ (λ (a b : List ℕ). a ++ b) (ap (λ (m : List ℕ). messages_of v k frame before ++ m) after_is ∙ ap (λ i. messages_of i k frame before) (sym next))
            (ap (λ i. drop i before) end_is);
      }

  pub words-taken : words ≤ v → {byte : ℕ} → byte ≡ status → TakesWords k frame before byte out
  words-taken l e =
      let end : v ≡ words = omega (arith, U.within) in
      let past : length before ≤ k * v = omega (arith, whole, ap (λ i. k * i) end) in
      let rest : drop (k * v) before ≡ [] = drop_of_length-le before past in
      record {
        names = e ∙ U.named ∙ ap (λ i. status_of i (none_near_in k frame before)) end;
        leaves =
            U.stands ∙ ap (λ (r : List ℕ). messages_of v k frame before ++ r) rest ∙ append-nil (messages_of v k frame before)
            ∙ ap (λ i. messages_of i k frame before) end;
      }

-- ---- the call
pub apart-done : (frame messages : List ℕ) → Headed frame → known_rate (get_or frame 3 0) ≡ true → length messages ≡ get_or frame 3 0 * words
    → all_below symbols (drop head_length frame) ≡ true → {status : ℕ} {after : List ℕ} → TakesWords (get_or frame 3 0) frame messages status after
    → taken accepted status after ≡ taken_of frame messages
apart-done frame messages H known sized small T = ap₂ (taken accepted) T.names T.leaves ∙ sym (apart_fits frame messages H known sized small)

-- all that stands behind the head
pub behind : (frame : List ℕ) → drop head_length frame ≡ take (length frame - head_length) (drop head_length frame)
behind frame = sym (take_all (length frame - head_length) (drop head_length frame) (omega (arith, length-drop head_length frame)))
