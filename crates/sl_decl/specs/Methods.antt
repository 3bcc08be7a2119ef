-- Methods of which the tail has been read.
use Rattle.std.specs.Prelude.{Option}
use Rattle.def_token.specs.Lexical.{Token}
use Rattle.def_tree.specs.Limits.{Nesting}
use Rattle.def_module.specs.DeclTree.{AccessTree, MethodTree, TailTree}
use Rattle.def_decl_reading.specs.Form.{Form, As}
use Rattle.def_decl_reading.specs.MemberReading.{block_form}

-- a method behind its tail
abbrev pub bodied_form : Nesting → Option Token → Option AccessTree → Option Token → TailTree
    → Form MethodTree
bodied_form around mutating access override tail =
    As (λ body. record {
      mutating = mutating;
      access = access;
      override = override;
      tail = tail;
      body = body;
    }) (block_form around)
