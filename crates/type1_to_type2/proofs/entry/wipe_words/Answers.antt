-- `type1_to_type2::entry::wipe_words` meets its contract: that of `stores::wipe_words`.
use Rattle.type1_to_type2.proofs.entry.wipe_words.Goals as goal

pub returns : goal.returns
returns c = c.wipe_words.ensures
