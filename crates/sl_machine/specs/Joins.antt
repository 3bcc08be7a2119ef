-- Which forms are complete around a value, and what they are with it.
use Rattle.std.specs.Prelude.{ℕ, Bool, true, false, nat_le}
use Rattle.def_tree.specs.ExprTree as tree
use Rattle.def_tree.specs.ExprTree.{ExprTree}
use Rattle.def_tree.specs.Operator.{level}
use Rattle.def_reading.specs.Machine.{Frame, Prefix, Casting, Left, Asked, Chosen, InGroup, InFunctionalCast, InCall, InIndex}

-- the form is complete before the end of a whole expression
abbrev pub closes : Frame → Bool
closes (Prefix operator token) = true
closes (Casting opening word token) = true
closes (Left left operator token) = true
closes (Asked condition question) = false
closes (Chosen condition question yes') = true
closes (InGroup opening) = false
closes (InFunctionalCast word token) = false
closes (InCall callee opening args) = false
closes (InIndex base opening) = false

-- the form is complete before an operator of this level
abbrev pub binds : ℕ → Frame → Bool
binds least (Prefix operator token) = true
binds least (Casting opening word token) = true
binds least (Left left operator token) = nat_le least (level operator)
binds least (Asked condition question) = false
binds least (Chosen condition question yes') = false
binds least (InGroup opening) = false
binds least (InFunctionalCast word token) = false
binds least (InCall callee opening args) = false
binds least (InIndex base opening) = false

-- the form with its last part, if it is complete then
abbrev pub join : Frame → ExprTree → ExprTree
join (Prefix operator token) last = tree.Unary operator token last
join (Casting opening word token) last = tree.Cast opening word token last
join (Left left operator token) last = tree.Binary operator token left last
join (Asked condition question) last = last
join (Chosen condition question yes') last = tree.Conditional condition question yes' last
join (InGroup opening) last = last
join (InFunctionalCast word token) last = last
join (InCall callee opening args) last = last
join (InIndex base opening) last = last
