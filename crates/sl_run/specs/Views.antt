-- What the types of this crate stand for in the definitions.
use Rattle.std.specs.Prelude.{List, map}
use Rattle.sl_run.specs.Command as definition
use Rattle.sl_run.specs.declared.command.Command.{Command}
use Rattle.sl_run.specs.declared.command.Command.TheVariants.{One, Check}
use Rattle.sl_key.specs.declared.request.Reply.{Reply}
use Rattle.sl_key.specs.declared.request.Request.{Request}
use Rattle.sl_run.specs.declared.reply_text.Answered.{Answered}

-- a command without where its name lies in memory
abbrev pub command_in : Command → definition.Command
command_in (One entry) = definition.One entry.now
command_in (Check name) = definition.Check name

-- a request with its reply as the definitions have it
abbrev pub answered_in : Answered → Request × Reply
answered_in answered = (answered.request, answered.reply)

-- the requests of callers with their replies as the definitions have them
abbrev pub callers_in : List (List Answered) → List (List (Request × Reply))
callers_in callers = map (λ (requests : List Answered). map answered_in requests) callers
