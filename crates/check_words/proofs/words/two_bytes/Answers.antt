-- `check_words::words::two_bytes` meets its contract: a number of 16 bits has no third byte.
-- Assumes nothing.
use mathlib.Core.Path.{◌∙◌}
use Rattle.check_words.proofs.BigEndian.{two_high_first}
use Rattle.check_words.proofs.words.two_bytes.Goals as goal

pub returns : goal.returns
returns c = c.to_be_bytes.ensures ∙ two_high_first c.args.n c.ranges.n.fits
