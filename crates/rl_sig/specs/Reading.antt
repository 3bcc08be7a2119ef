-- What a reader reads.
use Rattle.std.specs.Prelude.{ℕ, List}
use Rattle.sl_key.specs.Flow.{Facts}
use Rattle.sl_key.specs.Names.{decls_in}
use Rattle.def_check.specs.Evaluate.{Scope}
use Rattle.rl_sig.specs.declared.scope.Reader.{Reader}

-- the answers that it may use
abbrev pub facts_of : Reader → Facts
facts_of reader = reader.facts.now.pairs

-- the module and the declarations in which it looks names up
abbrev pub scope_of : Reader → Scope
scope_of reader = record { «module» = reader.module.now; decls = decls_in reader.decls.now }

-- the text of the module
abbrev pub text_of : Reader → List ℕ
text_of reader = reader.decls.now
