-- What the asking of keys does to an asker, whose ghost members these are.
use Rattle.std.specs.Prelude.{◌≡◌, ℕ, ◌+◌, List, ◌∷◌, ◌++◌}
use Rattle.def_query.specs.Keys.{IsIn}
use Rattle.def_sources.specs.Sources.{Sources}
use Rattle.def_check.specs.Reply.{TellsAnswers}
use Rattle.def_check.specs.Roots.{behind_syntax}
use Rattle.sl_key.specs.declared.answer.Answer.{Answer}
use Rattle.sl_key.specs.declared.key.Key.{Key}
use Rattle.sl_key.specs.Order.{module_key}
use Rattle.sl_key.specs.declared.key.Kind.TheVariants.{Syntax}

-- what is said of each function that tells the answer of each key over the sources
abbrev pub ForAnswers : Sources → ((Key → Answer) → Type 0) → Type 0
ForAnswers sources says = (answer : Key → Answer) → TellsAnswers sources answer → says answer

-- the keys that are asked for a module which the sources have
abbrev pub keys_for : Sources → (Key → Answer) → List ℕ → List Key
keys_for sources answer name =
    module_key Syntax name ∷ behind_syntax sources answer name (answer (module_key Syntax name))

-- the asker has each of the keys
abbrev pub HasAll : {S : Type 0} → (S → Key → Type 0) → S → List Key → Type 0
HasAll has asker keys = (key : Key) → IsIn key keys → has asker key

-- what the asker had it has
abbrev pub Keeps : {S : Type 0} → (S → Key → Type 0) → S → S → Type 0
Keeps has before after = (key : Key) → has before key → has after key

-- work that lay within a list of keys lies within that list followed by these keys
abbrev pub WorksWithin : {S : Type 0} → (S → List Key → Type 0) → S → S → List Key → Type 0
WorksWithin keeps_to before after keys =
    (others : List Key) → keeps_to before others → keeps_to after (others ++ keys)

-- Keys were asked, at most these: the subject stayed, and each step was counted.
pub record Asks {S : Type 0} (subject : S → Sources) (worked : S → ℕ)
    (keeps_to : S → List Key → Type 0)
    (before after : S) (counted counts : ℕ) (keys : List Key) : Type 0 where
  pub same : subject after ≡ subject before
  pub steps : counts + worked before ≡ counted + worked after
  pub within : WorksWithin keeps_to before after keys

-- all these keys were asked
pub record Gains {S : Type 0} (has : S → Key → Type 0) (before after : S) (keys : List Key) : Type 0
  where
    pub has_all : HasAll has after keys
    pub kept : Keeps has before after
