-- `double_at` is right: two words that adjoin make up the value of their eight bytes.
use Rattle.doubles.proofs.Parts.{two_words}
use Rattle.doubles.proofs.double_at.Goals as goal

pub returns : goal.returns
returns c = rw (c.joined.ensures, c.word-high.ensures, c.word-low.ensures) (two_words _ _)
