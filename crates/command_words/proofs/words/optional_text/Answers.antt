use Rattle.command_words.proofs.GivenLemmas.{text_in}
use Rattle.command_words.proofs.words.optional_text.Goals as goal

pub returns : goal.returns
returns c = text_in c.args.matches.now c.args.id.now c.get_str.result c.get_str.ensures
