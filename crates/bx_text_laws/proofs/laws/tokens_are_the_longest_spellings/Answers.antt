use Rattle.bx_text_laws.proofs.Longest.{taken_is_longest}
use Rattle.bx_text_laws.proofs.laws.tokens_are_the_longest_spellings.Goals as goal

pub returns : goal.returns
returns c = taken_is_longest
