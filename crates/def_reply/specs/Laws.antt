-- What follows from the definitions.
use Rattle.std.specs.Prelude.{◌≡◌, ◌≢◌, ◌↔◌, ℕ, List, None, length}
use Rattle.std.specs.List.{AllByRecursion}
use Rattle.sl_base.specs.declared.diag.Diag.{Diag}
use Rattle.sl_io.specs.Root.{bytes_of}
use Rattle.sl_key.specs.Order.{key_cmp}
use Rattle.sl_key.specs.declared.answer.Answer.{Answer}
use Rattle.sl_key.specs.declared.answer.Answer.TheVariants.{Good, Bad, Spoiled}
use Rattle.sl_key.specs.declared.answer.Good.{Good as Held}
use Rattle.sl_key.specs.declared.key.Key.{Key}
use Rattle.sl_key.specs.declared.request.Reply.{Reply}
use Rattle.sl_key.specs.declared.request.Reply.TheVariants.{Made}
use Rattle.sl_key.specs.declared.request.Request.{Request}
use Rattle.sl_key.specs.declared.request.Request.TheVariants.{Make}
use Rattle.sl_key.specs.declared.request.Term.TheVariants.{Load}
use Rattle.def_query.specs.Answer.{Answers}
use Rattle.def_sources.specs.Sources.{Sources}
use Rattle.def_check.specs.Body.{meaning_of}
use Rattle.def_check.specs.Reply.{IsReply, TellsAnswers}
use Rattle.def_check.specs.Roots.{asked_for}
use Rattle.def_reply.specs.Text.{out_text}
use Rattle.def_reply.specs.Worked.{AreWorked, requests_in}

-- callers with the same requests have one text, over any sources
abbrev pub OneText : Type 0
OneText =
    (sources : Sources) (one other : List (List (Request × Reply))) (keys others : List Key)
    → requests_in one ≡ requests_in other
    → AreWorked sources one keys → AreWorked sources other others
    → out_text one (length keys) ≡ out_text other (length others)

-- the culprit of a spoilt answer breaks a rule itself, over any sources
abbrev pub CulpritsAreBad : Type 0
CulpritsAreBad =
    (sources : Sources) (key culprit : Key)
    → Answers key_cmp (meaning_of sources) key (Spoiled culprit)
    → (told : Diag) × Answers key_cmp (meaning_of sources) culprit (Bad told)

-- nothing is wrong with an answer
abbrev pub IsGood : Answer → Type 0
IsGood answer = (value : Held) × (answer ≡ Good value)

-- the module is there, and nothing is wrong with the answer of any key that is asked for it
pub record IsSound (sources : Sources) (answer : Key → Answer) (name : List ℕ) : Type 0 where
  pub there : bytes_of sources.modules name ≢ None
  pub good : AllByRecursion (λ key. IsGood (answer key)) (asked_for sources answer name)

-- a module is told to be made exactly where it is there and all that is asked for it is good
abbrev pub MadeOfGood : Type 0
MadeOfGood =
    (sources : Sources) (answer : Key → Answer) (name : List ℕ) → TellsAnswers sources answer
    → IsReply sources (Make (Load name)) Made ↔ IsSound sources answer name
