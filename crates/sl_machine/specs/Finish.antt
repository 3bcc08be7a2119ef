-- Forms that a mark ends or leads on.
use Rattle.std.specs.Prelude.{List, [], ◌∷◌, ◌++◌, Option, Some, None, codes}
use Rattle.std.specs.Str.{bytes_eq}
use Rattle.def_token.specs.Lexical.{Token}
use Rattle.def_tree.specs.ExprTree as tree
use Rattle.def_tree.specs.ExprTree.{ExprTree, NoExprs}
use Rattle.def_tree.specs.Operator.{sign_at}
use Rattle.def_tree.specs.TypeTree.{TypeWord}
use Rattle.def_reading.specs.Machine.{Frame, Casting, Asked, Chosen, InGroup, InFunctionalCast, InCall, InIndex, Step, exprs_of, refused_by}
use Rattle.def_reading.specs.Cursor.{Cursor}

-- a whole expression in a form that the tokens behind it do not go on with
abbrev pub stuck : List Token → Cursor → Step
stuck tokens place = refused_by (bytes_eq (sign_at tokens).0 (codes ">>=")) place

-- what `)` ends behind a last part
abbrev pub closed : Frame → ExprTree → Option ExprTree
closed (InGroup opening) last = Some (tree.Group opening last)
closed (InFunctionalCast word token) last = Some (tree.FunctionalCast word token last)
closed (InCall callee opening args) last =
    Some (tree.Call callee opening (exprs_of (args ++ last ∷ [])))
closed _ last = None

-- what `]` ends behind a last part
abbrev pub indexed : Frame → ExprTree → Option ExprTree
indexed (InIndex base opening) last = Some (tree.Index base opening last)
indexed _ last = None

-- the call without arguments that `)` ends
abbrev pub called : Frame → Option ExprTree
called (InCall callee opening []) = Some (tree.Call callee opening NoExprs)
called _ = None

-- what `:` leads on behind a last part
abbrev pub chosen : Frame → ExprTree → Option Frame
chosen (Asked condition question) last = Some (Chosen condition question last)
chosen _ last = None

-- what a comma leads on behind a last part
abbrev pub separated : Frame → ExprTree → Option Frame
separated (InCall callee opening args) last = Some (InCall callee opening (args ++ last ∷ []))
separated _ last = None

-- what a group is that ends behind a word
abbrev pub casting : Frame → TypeWord → Token → Option Frame
casting (InGroup opening) word token = Some (Casting opening word token)
casting _ word token = None
