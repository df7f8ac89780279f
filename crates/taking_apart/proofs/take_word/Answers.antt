-- Read back if it is a codeword; else decoded by its costs.
use mathlib.Core.Path.{refl}
use Rattle.refusals.specs.Numbers.{never-accepted}
use Rattle.taking_apart.proofs.Apart.{word-unread, word_read}
use Rattle.taking_apart.proofs.take_word.Goals as goal

pub returns-in-Ok : goal.returns-in-Ok
returns-in-Ok c = word_read c.word_in-word.ensures c.in-Ok.ensures c.requires.0 refl

pub returns-in-Err : goal.returns-in-Err
returns-in-Err c = word-unread c.word_in-word.ensures c.in-Err.ensures (never-accepted _) c.take_near.ensures
