-- Each key has one answer.
use Rattle.std.proofs.Common.{◌≡◌}
use Rattle.sl_key.specs.Order.{key_cmp}
use Rattle.sl_key.specs.Ordered.{key_total}
use Rattle.sl_key.specs.declared.answer.Answer.{Answer}
use Rattle.sl_key.specs.declared.key.Key.{Key}
use Rattle.def_query.specs.Answer.{Answers}
use Rattle.def_query.proofs.Laws.{answering, one_answer}
use Rattle.def_sources.specs.Sources.{Sources}
use Rattle.def_check.specs.Body.{meaning_of}
use Rattle.def_check.specs.Reply.{TellsAnswers}
use Rattle.def_check.proofs.Lawful.{bodies_lawful}

-- the answer of a key
pub answer_in : Sources → Key → Answer
answer_in sources key = ((answering key_cmp key_total (meaning_of sources) (bodies_lawful sources)).has_answer key).0

pub told_in : (sources : Sources) → TellsAnswers sources (answer_in sources)
unfolding answer_in
told_in sources key = ((answering key_cmp key_total (meaning_of sources) (bodies_lawful sources)).has_answer key).1

-- a function that tells answers tells each answer of a key
pub told_same : (sources : Sources) (f : Key → Answer) → TellsAnswers sources f
    → (key : Key) (a : Answer) → Answers key_cmp (meaning_of sources) key a → a ≡ f key
told_same sources f tells key a h =
    one_answer key_cmp key_total (meaning_of sources) (bodies_lawful sources) key a (f key) h (tells key)
