-- `type1::wipe_words` meets its contract: that of `stores::wipe_words`.
use Rattle.type1.proofs.wipe_words.Goals as goal

pub returns : goal.returns
returns c = c.wipe_words.ensures
