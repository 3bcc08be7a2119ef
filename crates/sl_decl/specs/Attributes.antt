-- Attributes behind their words, and behind one another.
use Rattle.std.specs.Prelude.{List}
use Rattle.def_token.specs.Lexical.{Token}
use Rattle.def_tree.specs.Limits.{Nesting, plain, opens, in_bracket}
use Rattle.def_module.specs.DeclTree.{AttrTree, Shader, NumThreads}
use Rattle.def_decl_reading.specs.Form.{AText, ASign, Form, Made, Many, As, token, number, opening, sign, with_first}
use Rattle.def_decl_reading.specs.DeclReading.{attr_form}

-- the stage of a shader
abbrev pub shader_form : Nesting → Token → Token → Form AttrTree
shader_form around first word =
    opening "(" (in_bracket around).brackets (λ opening.
    token AText plain (λ stage.
    sign ")" (λ closing.
    sign "]" (λ last. Made (Shader first word stage)))))

-- the numbers of threads
abbrev pub threads_form : Nesting → Token → Token → Form AttrTree
threads_form around first word =
    opening "(" (in_bracket around).brackets (λ opening.
    number (λ x.
    sign "," (λ comma.
    number (λ y.
    sign "," (λ mark.
    number (λ z.
    sign ")" (λ closing.
    sign "]" (λ last. Made (NumThreads first word x y z)))))))))

-- attributes behind the first
abbrev pub more_attrs : Nesting → AttrTree → Form (List AttrTree)
more_attrs around first =
    let inside = in_bracket around in
    As (with_first first) (Many (ASign "[") (opens inside.brackets) (attr_form inside))
