-- What closing makes of a message that was sent, in numbers of the modem of 64 places.
--
--   thirteen-faded       at rate 39 with up to 13 blank places and the others as they were sent, closing gives the message
--   refused-at-52        at rate 52, without doubtful and blank places, 1 to 6 wrong symbols are refused with 'none near', and the buffers are as they were
use Rattle.std.specs.Prelude.{true, ◌≡◌, List, [], ℕ, ◌<◌, ◌≤◌, length}
use Rattle.std.proofs.Common.{sym, ap, ◌∙◌, subst, subst₂, arith}
use Rattle.refusals.specs.Refusal.{none_near}
use Rattle.lists.specs.Words.{Word}
use Rattle.soft.specs.Blank.{open_at}
use Rattle.soft.specs.TestWord.{best_at}
use Rattle.soft.specs.Total.{symbol_at}
use Rattle.family.specs.Member.{m16}
use Rattle.family.specs.Encoding.{encode_of}
use Rattle.near.specs.Near.{blank_limit}
use Rattle.near.specs.Reach.{Reach}
use Rattle.near.proofs.Here as Near
use Rattle.code.specs.Encoding.{known_rate}
use Rattle.book.specs.Model.{places, width}
use Rattle.book64.specs.Modem64.{modem64}
use Rattle.book.specs.Book.{Book}
use Rattle.book.specs.Columns.{columns_of}
use Rattle.book.specs.Entries.{Missing}
use Rattle.book.specs.closing.Closing.{report_length, close_of}
use Rattle.book64.specs.Rates.{rate-39, rate-52, rate_known, rate-blanks}
use Rattle.book.specs.sentences.Sentences.{blanks_in}
use Rattle.book.specs.sentences.Repairs.{not_best, Repaired, RefusedAs, TooFar}
use Rattle.book.proofs.sentences.Repairs.{always-refused, faded-right}

-- up to '13 blanks at rate 39', and the others arrived as they were sent
pub thirteen-faded : (book : Book) → book.rate ≡ 39 → book.doubtful ≡ [] → ((p : ℕ) → Missing modem64 book.row p → ⊥)
    → blanks_in modem64 book ≤ 13 → (message report : List ℕ) → length message ≡ 39 → length report ≡ report_length modem64
    → (m : List ℕ) → Word (width modem64) 39 m
    → ((p : ℕ) → p < places modem64 → open_at (columns_of modem64 book.row) p ≡ true → symbol_at (encode_of m16 39 m) p ≡ best_at (columns_of modem64 book.row) p)
    → Repaired modem64 39 (columns_of modem64 book.row) [] m (close_of modem64 book message report)
thirteen-faded book rate none-doubtful full few message report long whole_report m word right =
    subst₂ (λ k l. Repaired modem64 k (columns_of modem64 book.row) l m (close_of modem64 book message report)) rate none-doubtful
    (faded-right modem64 book full message report (long ∙ sym rate) whole_report m (subst (λ k. known_rate k ≡ true) (sym rate) (rate_known rate-39)) none-doubtful
    (subst (λ k. Word (width modem64) k m) (sym rate) word) (omega (arith, (rate-blanks rate-39).0, ap (blank_limit m16) rate))
    (λ p l o. ap (λ k. symbol_at (encode_of m16 k m) p) rate ∙ right p l o))

-- document 02: 'rate 52 … without doubt still refuses a codeword with 1 to 6 wrong symbols'
pub refused-at-52 : (book : Book) → book.rate ≡ 52 → book.doubtful ≡ [] → ((p : ℕ) → Missing modem64 book.row p → ⊥) → blanks_in modem64 book ≡ 0
    → (message report : List ℕ) → length message ≡ 52 → length report ≡ report_length modem64 → (m : List ℕ) → Word (width modem64) 52 m
    → 1 ≤ not_best modem64 52 (columns_of modem64 book.row) m → not_best modem64 52 (columns_of modem64 book.row) m ≤ 6
    → RefusedAs modem64 none_near message report (close_of modem64 book message report)
refused-at-52 book rate none-doubtful full none-blank message report long whole_report m word some few =
    always-refused modem64 book full message report (long ∙ sym rate) whole_report m
    (subst₂ (λ k b. Reach m16 k b 0) (sym rate) (sym none-blank) (rate-blanks rate-52).1)
    (subst (λ k. known_rate k ≡ true) (sym rate) (rate_known rate-52)) none-doubtful
    (subst (λ k. TooFar modem64 k (columns_of modem64 book.row) 0 m) (sym rate)
    (record { word = word; far = some; alone = omega (arith, few, none-blank, Near.m-is 52) }))
