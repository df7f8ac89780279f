-- The laws of exclusive or that lib.Bits leaves out (it has xor_comm, xor-zero-l, xor_zero_r, xor_self, xor-lt, xor_mod, xor_shr).
--
--   xor_assoc, xor-left-comm, xor-swap   regrouping; a sum of sums, term by term
--   xor-twice          the double of a sum
--   bit-xor, mul-xor   a multiple of a sum of two bits; a sum, times a bit; mul-bit-le: a bit times a number is at most that
--   Additive f         f takes sums to sums; additive-zero, additive-after: so zero to zero, and one after another
--   additive-ext       two such functions that agree on the powers of two below 2 ^ n agree on every number below it
use Rattle.std.specs.Prelude.{◌≡◌, refl, ℕ, zero, suc, ◌+◌, ◌*◌, ◌/◌, ◌%◌, ◌^◌, ◌<◌, ◌≤◌, eqb}
use Rattle.std.proofs.Common.{sym, ap, ap₂, ◌∙◌, zero-le, zero-mul, one-mul, mod-lt, le_refl, lt-suc_self, one-add, arith, eqb→eq, pow_pos, shr_lt}
use Rattle.std.proofs.Math.Nat.{le_step}
use Rattle.std.proofs.Math.Arith.{bin_ind, lt-one}
use Rattle.std.specs.Int.Bits.{bit_xor, differ, xor_step, xor_zero_r, xor_self, xor_shifted}
use Rattle.std.proofs.lemmas.Nat.{xor_comm, xor_shr, xor_mod}
use Rattle.std.proofs.Math.Pow.{split}
use Rattle.lists.specs.Every.{every, every₂, every₃, every₃-at}

-- single bits, all of them computed
differ-assoc : (x y z : ℕ) → x < 2 → y < 2 → z < 2 → differ (bit_xor x y) z ≡ differ x (bit_xor y z)
unfolding every every₂ every₃
differ-assoc x y z hx hy hz =
    eqb→eq (differ (bit_xor x y) z) (differ x (bit_xor y z))
    (every₃-at 2 (λ x y z. eqb (differ (bit_xor x y) z) (differ x (bit_xor y z))) tt x y z hx hy hz)

pub xor_assoc : (a b c : ℕ) → bit_xor (bit_xor a b) c ≡ bit_xor a (bit_xor b c)
xor_assoc a =
    bin_ind (λ (n : ℕ). (b c : ℕ) → bit_xor (bit_xor n b) c ≡ bit_xor n (bit_xor b c)) (λ b c. refl)
    (λ n ih b c.
    xor_step (bit_xor n b) c
    ∙ ap₂ (λ (x y : ℕ). x * 2 + y)
    (ap (λ (x : ℕ). bit_xor x (c / 2)) (xor_shr n b 1) ∙ ih (b / 2) (c / 2) ∙ ap (bit_xor (n / 2)) (sym (xor_shr b c 1)))
    (ap (λ (x : ℕ). differ x (c % 2)) (xor_mod n b 1)
    ∙ differ-assoc (n % 2) (b % 2) (c % 2) (omega arith) (omega arith) (omega arith)
    ∙ ap (differ (n % 2)) (sym (xor_mod b c 1)))
    ∙ sym (xor_step n (bit_xor b c))) a

pub xor-left-comm : (a b c : ℕ) → bit_xor a (bit_xor b c) ≡ bit_xor b (bit_xor a c)
xor-left-comm a b c = sym (xor_assoc a b c) ∙ ap (λ (x : ℕ). bit_xor x c) (xor_comm a b) ∙ xor_assoc b a c

pub xor-swap : (a b c d : ℕ) → bit_xor (bit_xor a b) (bit_xor c d) ≡ bit_xor (bit_xor a c) (bit_xor b d)
xor-swap a b c d = xor_assoc a b (bit_xor c d) ∙ ap (bit_xor a) (xor-left-comm b c d) ∙ sym (xor_assoc a c (bit_xor b d))

pub xor-twice : (a b : ℕ) → bit_xor a b * 2 ≡ bit_xor (a * 2) (b * 2)
xor-twice a b =
    let ha : a * 2 / 2 ≡ a = omega arith in
    let hb : b * 2 / 2 ≡ b = omega arith in
    let la : a * 2 % 2 ≡ 0 = omega arith in
    let lb : b * 2 % 2 ≡ 0 = omega arith in
    let step : bit_xor (a * 2) (b * 2) ≡ bit_xor a b * 2 + 0 =
    xor_step (a * 2) (b * 2) ∙ ap₂ (λ (x y : ℕ). x * 2 + y) (ap₂ bit_xor ha hb) (ap₂ differ la lb) in
    omega arith

pub bit-xor : (x y c : ℕ) → x < 2 → y < 2 → bit_xor x y * c ≡ bit_xor (x * c) (y * c)
bit-xor zero y c hx hy = sym (ap (λ (n : ℕ). bit_xor n (y * c)) (zero-mul c))
bit-xor (suc zero) zero c hx hy = one-mul c ∙ sym (ap₂ bit_xor (one-mul c) (zero-mul c) ∙ xor_zero_r c)
bit-xor (suc zero) (suc zero) c hx hy = zero-mul c ∙ sym (xor_self (1 * c))
bit-xor (suc zero) (suc (suc y)) c hx hy = absurd (omega arith)
bit-xor (suc (suc x)) y c hx hy = absurd (omega arith)

pub mul-xor : (x a b : ℕ) → x < 2 → x * bit_xor a b ≡ bit_xor (x * a) (x * b)
mul-xor zero a b h = zero-mul (bit_xor a b) ∙ sym (ap₂ bit_xor (zero-mul a) (zero-mul b))
mul-xor (suc zero) a b h = one-mul (bit_xor a b) ∙ sym (ap₂ bit_xor (one-mul a) (one-mul b))
mul-xor (suc (suc x)) a b h = absurd (omega arith)

pub mul-bit-le : (x a : ℕ) → x < 2 → x * a ≤ a
mul-bit-le zero a h = rw zero-mul zero-le
mul-bit-le (suc zero) a h = rw one-mul (le_refl a)
mul-bit-le (suc (suc x)) a h = absurd (omega arith)

pub record Additive (f : ℕ → ℕ) : Type 0 where
  pub sums : (a b : ℕ) → f (bit_xor a b) ≡ bit_xor (f a) (f b)

pub additive-zero : {f : ℕ → ℕ} → Additive f → f 0 ≡ 0
additive-zero {f} h = h.sums 0 0 ∙ xor_self (f 0)

pub additive-after : {f g : ℕ → ℕ} → Additive f → Additive g → Additive (λ a. f (g a))
additive-after {f} {g} hf hg = record { sums = λ a b. ap f (hg.sums a b) ∙ hf.sums (g a) (g b) }

-- the highest bit and the rest, by the sums
pub additive-ext : {f g : ℕ → ℕ} (n : ℕ) → Additive f → Additive g → ((i : ℕ) → i < n → f (2 ^ i) ≡ g (2 ^ i)) → (a : ℕ) → a < 2 ^ n → f a ≡ g a
additive-ext {f} {g} zero hf hg e a l = ap f (lt-one l) ∙ additive-zero hf ∙ sym (ap g (lt-one l) ∙ additive-zero hg)
additive-ext {f} {g} (suc n) hf hg e a l =
    sums-of f hf ∙ ap₂ bit_xor (top (a / 2 ^ n) high) (additive-ext n hf hg (λ i b. e i (le_step b)) (a % 2 ^ n) (mod-lt a (pow_pos n))) ∙ sym (sums-of g hg)
  where
    parts : a ≡ bit_xor (a / 2 ^ n * 2 ^ n) (a % 2 ^ n)
    parts = sym (xor_shifted (a / 2 ^ n) n (a % 2 ^ n) (mod-lt a (pow_pos n)) ∙ split a n)

    high : a / 2 ^ n < 2
    high = shr_lt 1 n (rw one-add l)

    sums-of : (h : ℕ → ℕ) → Additive h → h a ≡ bit_xor (h (a / 2 ^ n * 2 ^ n)) (h (a % 2 ^ n))
    sums-of h p = ap h parts ∙ p.sums (a / 2 ^ n * 2 ^ n) (a % 2 ^ n)

    top : (x : ℕ) → x < 2 → f (x * 2 ^ n) ≡ g (x * 2 ^ n)
    top zero b = ap f (zero-mul (2 ^ n)) ∙ additive-zero hf ∙ sym (ap g (zero-mul (2 ^ n)) ∙ additive-zero hg)
    top (suc zero) b = ap f (one-mul (2 ^ n)) ∙ e n (lt-suc_self n) ∙ sym (ap g (one-mul (2 ^ n)))
    top (suc (suc x)) b = absurd (omega arith)
