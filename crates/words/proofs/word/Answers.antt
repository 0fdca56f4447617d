-- `word` is right by the definition: four bytes, each below 256, make a number that fits.
use Rattle.std.proofs.Common.{rules}
use Rattle.machine.specs.Words.{word_at}
use Rattle.words.proofs.word.Goals as goal

pub returns : goal.returns
unfolding word_at
returns c = search rules
