use Rattle.std.proofs.Common.{ℕ, List, map}
use Rattle.def_module.specs.Scopes.{Scope, single}
use Rattle.sl_token.specs.View.{token_in}
use Rattle.sl_token.specs.declared.token.Token.{Token}
use Rattle.sl_scopes.proofs.Noting.{AreNoted}
use Rattle.sl_scopes.proofs.declared.note_fields.Given as goal

-- what fields of these names declare
abbrev pub scope_of : List ℕ → List Token → Scope
scope_of source fields = map single (map (token_in source) fields)

abbrev pub invariant-loop-field : goal.invariant-loop-field
invariant-loop-field l = AreNoted scope_of l.initial.names l.fields l.field-index l.names
