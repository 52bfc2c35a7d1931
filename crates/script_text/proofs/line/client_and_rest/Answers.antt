use Rattle.script_text.proofs.{Words.{arith, words_of}, LineLemmas.{said-client, said-fails, said-front, said-none}}
use Rattle.script_text.proofs.line.client_and_rest.Goals as goal

pub returns-in-49-to-57-clause-client : goal.returns-in-49-to-57-clause-client
returns-in-49-to-57-clause-client c = said-front c.args.text.now (omega arith) (omega arith) (omega arith) (omega arith)

pub returns-in_default-next_word-clause-none : goal.returns-in_default-next_word-clause-none
returns-in_default-next_word-clause-none c = said-none c.args.text.now c.in_default-next_word.ensures.words

pub returns-in-Ok-clause-client : goal.returns-in-Ok-clause-client
returns-in-Ok-clause-client c =
    said-client c.args.text.now c.in-Some.first.now (words_of c.in-Some.rest.now) c.in-Ok.client c.in-Some.ensures.words c.in-Ok.ensures

pub returns-in-Err-clause-none : goal.returns-in-Err-clause-none
returns-in-Err-clause-none c =
    said-fails c.args.text.now c.in-Some.first.now (words_of c.in-Some.rest.now) c.in-Err.error c.in-Some.ensures.words c.in-Err.ensures
