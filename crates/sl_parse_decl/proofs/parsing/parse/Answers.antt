use Rattle.std.proofs.Common.{[], length, sym, ap, subst, ◌∙◌}
use Rattle.def_module.specs.Entries.{module_entries}
use Rattle.def_module.specs.Module.{IsModule}
use Rattle.def_token.specs.Lexical.{HasTokens}
use Rattle.def_tree.specs.Fault.{IsRead}
use Rattle.sl_token.specs.View.{Tells, tokens_in}
use Rattle.sl_tree.specs.DeclView.{module_in}
use Rattle.sl_cursor.specs.Ending.{IsTable}
use Rattle.sl_cursor.specs.Parts.{IsRefusedAt, HasFaultFrom}
use Rattle.sl_cursor.specs.declared.source.Source.{Source}
use Rattle.sl_parse_decl.proofs.Started.{exact, module_read, module_unread, module_limit}
use Rattle.sl_parse_decl.proofs.parsing.parse.Goals as goal

pub returns-in-Err-clause-fault : goal.returns-in-Err-clause-fault
returns-in-Err-clause-fault c =
    let bytes = c.args.bytes.now in
    let held = c.as_slice-all.result.now in
    let lexed = subst (λ held. HasTokens bytes (tokens_in bytes held)) (sym c.as_slice-all.ensures) c.requires.tokens in
    let exact' = exact bytes c.start.result held lexed c.start.ensures.place c.start.ensures.reach in
    let source : Source = record {
      alloc = c.args.alloc;
      bytes = c.args.bytes;
      tokens = c.as_slice-all.result;
      ahead = c.as_slice.result;
      table = subst (IsTable (tokens_in bytes held)) (sym c.as_slice.ensures) c.in_ok-ahead.ensures.table;
      whole = ap length c.as_slice.ensures ∙ c.in_ok-ahead.ensures.whole;
    } in
    subst (λ held. Tells (HasFaultFrom IsModule module_entries (tokens_in bytes held) 0) c.refusal_of.result) c.as_slice-all.ensures
    (module_unread source c.start.result c.in-Err.unread c.refusal_of.result exact' c.in-Err.ensures.read
    c.refusal_of.ensures)

pub returns-in-None-clause-tree : goal.returns-in-None-clause-tree
returns-in-None-clause-tree c =
    let bytes = c.args.bytes.now in
    let held = c.as_slice-all.result.now in
    let lexed = subst (λ held. HasTokens bytes (tokens_in bytes held)) (sym c.as_slice-all.ensures) c.requires.tokens in
    let exact' = exact bytes c.start.result held lexed c.start.ensures.place c.start.ensures.reach in
    subst (λ held. IsRead IsModule module_entries (tokens_in bytes held) (module_in bytes c.in-Ok.found.0) [])
    c.as_slice-all.ensures
    (module_read _ c.start.result c.in-Ok.found.0 c.in-Ok.found.1 lexed exact' c.in-Ok.ensures.read c.in-Ok.ensures.end
    c.in-None.is)

pub returns-clause-fault : goal.returns-clause-fault
returns-clause-fault c =
    let bytes = c.args.bytes.now in
    let held = c.as_slice-all.result.now in
    let lexed = subst (λ held. HasTokens bytes (tokens_in bytes held)) (sym c.as_slice-all.ensures) c.requires.tokens in
    let exact' = exact bytes c.start.result held lexed c.start.ensures.place c.start.ensures.reach in
    let told = subst (λ limit. IsRefusedAt bytes limit c.refusal.result) (sym c.in-Some.is) c.refusal.ensures in
    subst (λ held. Tells (HasFaultFrom IsModule module_entries (tokens_in bytes held) 0) c.refusal.result) c.as_slice-all.ensures
    (module_limit _ c.start.result c.in-Ok.found.0 c.in-Ok.found.1 c.refusal.result exact' c.in-Ok.ensures.read told)
