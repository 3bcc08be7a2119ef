-- What is the same as on lists: all of it, or what is plain of it.
use Rattle.std.specs.Prelude.{◌≡◌, Bool, true, false, None}
use Rattle.def_tree.specs.ExprTree.{ExprTree}
use Rattle.def_reading.specs.Machine.{Held, Step, On, Ends, Refused}
use Rattle.def_reading.specs.Plain.{plain_tree, plain_held, plain_step}
use Rattle.sl_look.specs.Looks.{limit_at}

-- a tree, if trees are kept
abbrev pub kept_tree : Bool → ExprTree → ExprTree
kept_tree true expr = expr
kept_tree false expr = plain_tree expr

-- a value and the frames around it, if trees are kept
abbrev pub kept_held : Bool → Held → Held
kept_held true held = held
kept_held false held = plain_held held

-- no limit ends on the way to where a step leads
abbrev pub IsFree : Step → Type 0
IsFree (On other config) = limit_at config.place ≡ None
IsFree (Ends expr place) = Unit {0}
IsFree (Refused place) = Unit {0}

-- a step is another one up to trees, and all of it where they are kept and no limit ends on the way
pub record IsAlike (Keeps : Type 0) (made given : Step) : Type 0 where
  pub alike : plain_step made ≡ plain_step given
  pub same : Keeps → IsFree made → made ≡ given
