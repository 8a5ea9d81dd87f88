use Rattle.sj_lexer.proofs.OneReading.{same_tokens, tokens_or_refused, same_refusal}
use Rattle.sj_lexer.proofs.laws.sources_have_one_reading.Goals as goal

pub returns-clause-tokens : goal.returns-clause-tokens
returns-clause-tokens c = same_tokens

pub returns-clause-either : goal.returns-clause-either
returns-clause-either c = tokens_or_refused

pub returns-clause-refusal : goal.returns-clause-refusal
returns-clause-refusal c = same_refusal
