-- `unanswered` meets its contract: the flags that are not 1 are those of the blank places.
use native.Mathlib.Omega.{arith}
use Rattle.book64.specs.Modem64.{modem64}
use Rattle.answering.specs.Answered.{told-near, told-blank}
use Rattle.decoding.proofs.unanswered.Goals as goal

pub returns-then-blanks-blank_limit : goal.returns-then-blanks-blank_limit
returns-then-blanks-blank_limit c = λ columns e. told-near modem64 _ columns c.blank_limit.ensures c.blanks.ensures e (omega arith)

pub returns : goal.returns
returns c = λ columns e. told-blank modem64 _ columns c.blank_limit.ensures c.blanks.ensures e (omega arith)
