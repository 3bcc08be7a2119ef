use Rattle.std.proofs.Common.{true, refl}
use Rattle.std.specs.Prelude.{Err}
use Rattle.def_tree.specs.Limits.{plain}
use Rattle.def_reading.specs.Try.{Reads, token_then}
use Rattle.def_module.specs.DeclTree as trees
use Rattle.def_decl_reading.specs.DeclReading as decls
use Rattle.def_decl_reading.specs.Form.{Until, ends, reads}
use Rattle.sl_tree.specs.DeclView.{module_in}
use Rattle.sl_tree.specs.declared.declarations.ModuleTree.{ModuleTree}
use Rattle.sl_cursor.specs.Following.{IsRead}
use Rattle.sl_stmt.specs.Settling.{Settles}
use Rattle.sl_cursor.specs.declared.source.Here.{Here}
use Rattle.sl_cursor.specs.declared.source.Source.{Source}
use Rattle.sl_cursor.specs.declared.source.Unread.{Unread}
use Rattle.sl_stmt.proofs.Deciding.{decides_token, decides_end}
use Rattle.sl_cursor.proofs.Following.{read_up_to, mark_up_to}
use Rattle.sl_stmt.proofs.Settling.{settles_of, settles_err, settles_stop_then}
use Rattle.sl_decl.proofs.Ended.{behind_end}
use Rattle.sl_decl.proofs.Forming.{Comes, begun, formed, behind, made_of, inside_read, part_stops, inside_blocks, first_stops, made_stops}
use Rattle.sl_decl.proofs.parser.Parser.module.Goals as goal

-- nothing is read before the end
before_end : (source : Source) (here : Here) (stop : Unread)
    → Comes true source (λ (tree : trees.ModuleTree). tree) decls.module_form here (Err stop)
    → Settles source (module_in source.bytes.now) decls.module_in here (Err stop)
before_end source here stop c =
    settles_stop_then source (λ tree. tree) (module_in source.bytes.now)
    (λ tree. token_then ends plain (λ mark reach place. Reads tree place reach)) (reads decls.module_form) here stop
    (λ tree. decides_token ends plain (λ mark reach place. Reads tree place reach) (λ mark. decides_end tree)) c.outcome

pub returns-clause-read : goal.returns-clause-read
returns-clause-read c =
    let source = c.args.self.now.source in
    let read : ModuleTree = record { name = c.in_ok-name.name; decls = c.in_ok-decls.decls } in
    let whole : IsRead source (module_in source.bytes.now)
    (reads decls.module_form) c.args.here.now read c.in_ok-decls.end =
    formed decls.module_form (behind begun c.in_ok-name.ensures
    (λ name k. made_of k (inside_read (λ n. Until ends (decls.decl_form n)) c.all.ensures c.in_ok-decls.ensures)
    (λ p. rw p.0 refl))) in
    read_up_to source (module_in source.bytes.now) ends
    (reads decls.module_form) c.args.here.now read c.in_ok-decls.end c.in_ok-last.field-0-0 c.in_ok-last.last whole
    c.in_ok-last.ensures

pub returns-clause-end : goal.returns-clause-end
returns-clause-end c = behind_end c.args.self.now.source c.in_ok-decls.end c.in_ok-last.field-0-0 c.in_ok-last.last
    c.in_ok-decls.ensures.behind c.in_ok-last.ensures

pub returns-in_err-name-clause-read : goal.returns-in_err-name-clause-read
returns-in_err-name-clause-read c =
    let source = c.args.self.now.source in
    let stop = c.in_err-name.field-0.0 in
    settles_err source (module_in source.bytes.now) decls.module_in c.args.here.now c.from_residual.result stop
    c.from_residual.ensures.1
    (before_end source c.args.here.now stop (first_stops (part_stops c.in_err-name.ensures)))

pub returns-in_err-decls-clause-read : goal.returns-in_err-decls-clause-read
returns-in_err-decls-clause-read c =
    let source = c.args.self.now.source in
    let stop = c.in_err-decls.field-0.0 in
    settles_err source (module_in source.bytes.now) decls.module_in c.args.here.now c.from_residual-in_err-decls.result
    stop c.from_residual-in_err-decls.ensures.1
    (before_end source c.args.here.now stop (behind begun c.in_ok-name.ensures
    (λ name k. made_stops (inside_blocks (λ n. Until ends (decls.decl_form n)) c.all.ensures c.in_err-decls.ensures))))

pub returns-in_err-last-clause-read : goal.returns-in_err-last-clause-read
returns-in_err-last-clause-read c =
    let source = c.args.self.now.source in
    let stop = c.in_err-last.field-0.0 in
    let read : ModuleTree = record { name = c.in_ok-name.name; decls = c.in_ok-decls.decls } in
    let whole : IsRead source (module_in source.bytes.now)
    (reads decls.module_form) c.args.here.now read c.in_ok-decls.end =
    formed decls.module_form (behind begun c.in_ok-name.ensures
    (λ name k. made_of k (inside_read (λ n. Until ends (decls.decl_form n)) c.all.ensures c.in_ok-decls.ensures)
    (λ p. rw p.0 refl))) in
    settles_err source (module_in source.bytes.now) decls.module_in c.args.here.now c.from_residual-in_err-last.result
    stop c.from_residual-in_err-last.ensures.1
    (settles_of source (module_in source.bytes.now) decls.module_in c.args.here.now (Err stop)
    (mark_up_to source (module_in source.bytes.now) (module_in source.bytes.now) ends
    (reads decls.module_form) c.args.here.now read c.in_ok-decls.end stop whole c.in_err-last.ensures))
