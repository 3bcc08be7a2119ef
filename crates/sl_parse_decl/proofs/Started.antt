-- The reader of modules on lists is exact where a source begins.
use Rattle.std.proofs.Common.{◌≡◌, ℕ, ◌<◌, List, [], ◌∷◌, length, length-append, refl, sym, ap, subst, arith}
use Rattle.std.specs.Prelude.{None, Err}
use Rattle.std.specs.Option.{option_map}
use Rattle.def_token.specs.Lexical.{Token, HasTokens, tokens_among, token_behind, mark_before}
use Rattle.def_token.specs.Lexical as lexical
use Rattle.def_module.specs.DeclTree.{ModuleTree}
use Rattle.def_module.specs.Entries.{module_entries}
use Rattle.def_module.specs.Module.{IsModule}
use Rattle.def_tree.specs.Fault.{IsRead}
use Rattle.def_decl_reading.specs.DeclReading as lists
use Rattle.sl_base.specs.declared.refusal.Refusal.{Refusal}
use Rattle.sl_token.specs.View.{Tells, token_in, tokens_in}
use Rattle.sl_token.specs.declared.token.Token as kept
use Rattle.sl_tree.specs.DeclView.{module_in}
use Rattle.sl_tree.specs.declared.declarations.ModuleTree as trees
use Rattle.sl_cursor.specs.Following as following
use Rattle.sl_cursor.specs.Parts.{TellsUnread, IsRefusedAt, HasFaultFrom}
use Rattle.sl_cursor.specs.Seen.{reach_in, place_in}
use Rattle.sl_cursor.specs.declared.source.Here.{Here}
use Rattle.sl_stmt.specs.Settling.{Settles}
use Rattle.sl_cursor.specs.declared.source.Source.{Source}
use Rattle.sl_cursor.specs.declared.source.Unread.{Unread}
use Rattle.sl_stmt.proofs.Answered.{IsExactTry, on_start, settles_come, unread_fault, limit_fault, whole_read}
use Rattle.sl_stmt.proofs.Ended.{lexed_ended}
use Rattle.sl_decl.specs.Modules.{IsBehindEnd}
use Rattle.sl_decl.proofs.Ended.{none_behind}
use Rattle.sl_parse_decl.proofs.Exactness.{module_exact}

some_token : (bytes : List ℕ) (tokens : List Token) → HasTokens bytes tokens → 0 < length tokens
some_token bytes tokens h =
    let front = tokens_among (mark_before bytes) h.pieces in
    let end = token_behind bytes lexical.End [] ∷ [] in
    omega (arith, ap length h.tokens_are, length-append front end)

-- the tokens of the source are exact
pub exact : (bytes : List ℕ) (here : Here) (held : List kept.Token) → HasTokens bytes (tokens_in bytes held)
    → (here.place.at ≡ 0) × (here.place.limit ≡ None) × (here.place.rest.now ≡ held) → here.reach ≡ None
    → IsExactTry IsModule module_entries (tokens_in bytes held)
    (lists.module_in (option_map (reach_in bytes) here.reach) (place_in bytes here.place))
exact bytes here held lexed place reach =
    let tokens = tokens_in bytes held in
    subst (IsExactTry IsModule module_entries tokens) (sym
    (on_start bytes lists.module_in here tokens (place.0, place.1, ap (tokens_in bytes) place.2) reach))
    (module_exact tokens (lexed_ended bytes tokens 0 lexed (some_token bytes tokens lexed)))

-- a module that is read up to the end
pub module_read : (source : Source) (from : Here) (tree : trees.ModuleTree) (to : Here)
    → HasTokens source.bytes.now (tokens_in source.bytes.now source.tokens.now)
    → IsExactTry IsModule module_entries (tokens_in source.bytes.now source.tokens.now)
    (lists.module_in (option_map (reach_in source.bytes.now) from.reach) (place_in source.bytes.now from.place))
    → following.IsRead source (module_in source.bytes.now) lists.module_in from tree to → IsBehindEnd source to
    → to.place.limit ≡ None
    → IsRead IsModule module_entries (tokens_in source.bytes.now source.tokens.now) (module_in source.bytes.now tree) []
module_read source from tree to lexed exact r end none' =
    let bytes = source.bytes.now in
    let tokens = tokens_in bytes source.tokens.now in
    let rest = none_behind bytes tokens lexed end.before (token_in bytes end.mark)
    (tokens_in bytes to.place.rest.now) end.are end.ends in
    let whole = whole_read IsModule module_entries (module_in bytes) lists.module_in source from tokens 0 r.tried.tree
    to.place (option_map (reach_in bytes) to.reach) none'
    (subst (IsExactTry IsModule module_entries tokens) r.tried.is exact) in
    subst (λ (rest : List Token). IsRead IsModule module_entries tokens (module_in bytes tree) rest) rest
    (subst (λ (tree : ModuleTree). IsRead IsModule module_entries tokens tree (tokens_in bytes to.place.rest.now))
    (r.tried.same none') whole)

-- what is told where no module is read
pub module_unread : (source : Source) (from : Here) (why : Unread) (answer : Refusal)
    → IsExactTry IsModule module_entries (tokens_in source.bytes.now source.tokens.now)
    (lists.module_in (option_map (reach_in source.bytes.now) from.reach) (place_in source.bytes.now from.place))
    → Settles source (module_in source.bytes.now) lists.module_in from (Err why) → TellsUnread source.bytes.now why answer
    → Tells (HasFaultFrom IsModule module_entries (tokens_in source.bytes.now source.tokens.now) 0) answer
module_unread source from why answer exact s told =
    unread_fault IsModule module_entries (module_in source.bytes.now) lists.module_in source from
    (tokens_in source.bytes.now source.tokens.now) 0 why answer
    (settles_come source (module_in source.bytes.now) lists.module_in from (Err why) s) exact told

-- what is told of a limit on the way to the end
pub module_limit : (source : Source) (from : Here) (tree : trees.ModuleTree) (to : Here) (answer : Refusal)
    → IsExactTry IsModule module_entries (tokens_in source.bytes.now source.tokens.now)
    (lists.module_in (option_map (reach_in source.bytes.now) from.reach) (place_in source.bytes.now from.place))
    → following.IsRead source (module_in source.bytes.now) lists.module_in from tree to
    → IsRefusedAt source.bytes.now to.place.limit answer
    → Tells (HasFaultFrom IsModule module_entries (tokens_in source.bytes.now source.tokens.now) 0) answer
module_limit source from tree to answer exact r h =
    let bytes = source.bytes.now in
    let tokens = tokens_in bytes source.tokens.now in
    limit_fault IsModule module_entries (module_in bytes) lists.module_in source from tokens 0 r.tried.tree to.place
    to.place.limit (option_map (reach_in bytes) to.reach) answer refl
    (subst (IsExactTry IsModule module_entries tokens) r.tried.is exact) h
