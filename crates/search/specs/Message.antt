-- The message of a function by order, for every member: each symbol, the loop that reads them, and the message that stands in the first entries.
--
--   symbol-at         what stands at the order of a symbol
--   message-end       behind the symbols that a loop has read stand the array's zeros
--   message-front     a message is read back from the front
--   lent-message      the codeword of the first k symbols, lent as a part
use Rattle.std.specs.Prelude.{◌≡◌, List, ◌++◌, ℕ, ◌-◌, ◌%◌, ◌<◌, ◌≤◌, length, get_or, take, drop, replicate}
use Rattle.std.proofs.Common.{sym, ap, ap₂, ◌∙◌, mod-eq_of_lt, arith, length-take, take_all}
use Rattle.lists.specs.Listed.{listed, listed-length}
use Rattle.lists.specs.Filled.{Filled}
use Rattle.lists.specs.Over.{over}
use Rattle.lists.specs.Padded.{padded, padded-over, padded-take}
use Rattle.hermitian.specs.Orders.{order_of}
use Rattle.family.specs.Member.{Member}
use Rattle.family.specs.Encoding.{encode_of}
use Rattle.family.specs.Evaluation.{encode-beyond}
use Rattle.near.specs.Decider.{symbol_in}

pub symbol-at : (𝓜 : Member) (longest : ℕ) (function : List ℕ) (t : ℕ) {o : ℕ} → t < longest → o ≡ order_of 𝓜.w (t % longest)
    → get_or function o 0 ≡ symbol_in 𝓜 function t
unfolding symbol_in
symbol-at 𝓜 longest function t h e = ap (λ k. get_or function k 0) (e ∙ ap (order_of 𝓜.w) (mod-eq_of_lt h))

pub message-end : (w k t : ℕ) (out : List ℕ) (f : ℕ → ℕ) → t ≡ k → Filled (replicate w 0) f t out → out ≡ padded w (listed k f)
unfolding over
message-end w k t out f e h =
    let zeros : List ℕ = replicate w 0 in
    let l : length (listed k f) ≤ length zeros = omega (arith, listed-length k f, h.within) in
    h.stored ∙ ap (λ n. listed n f ++ drop n zeros) e
    ∙ sym (ap₂ (λ (a b : List ℕ). a ++ b) (take_all (length zeros) (listed k f) l) (ap (λ n. drop n zeros) (listed-length k f)))
    ∙ padded-over w (listed k f)

pub message-front : {most k : ℕ} {message : List ℕ} (f : ℕ → ℕ) → k ≤ most → message ≡ padded most (listed k f) → take k message ≡ listed k f
message-front {most} {k} {message} f small e =
    let size = listed-length k f in
    ap (take k) e ∙ ap (λ n. take n (padded most (listed k f))) (sym size) ∙ padded-take most (listed k f) (omega (arith, size))

pub lent-message : (𝓜 : Member) (longest most k : ℕ) (message : List ℕ) → k ≤ most → most ≤ longest → length message ≡ most
    → encode_of 𝓜 longest (take (k - 0) (drop 0 message)) ≡ encode_of 𝓜 k (take k message)
lent-message 𝓜 longest most k message h long e =
    let z : k - 0 ≡ k = omega arith in
    let l : length (take k message) ≤ k = omega (arith, length-take k message) in
    ap (λ n. encode_of 𝓜 longest (take n message)) z ∙ encode-beyond 𝓜 longest k (take k message) (omega arith) l
