-- Statements one behind another.
use Rattle.std.proofs.Common.{◌≡◌, ℕ, suc, ◌≤◌, ◌<◌, false, List, [], ◌∷◌, ◌++◌, length, map, refl, sym, ap, subst, ◌∙◌, arith, le_refl}
use Rattle.std.specs.Prelude.{IsErrAnd, Option, None, Result, Ok, Err}
use Rattle.std.proofs.lemmas.List.{map-append, length-map}
use Rattle.def_tree.specs.Limits.{Nesting, plain}
use Rattle.def_tree.specs.StmtTree as tree
use Rattle.def_tree.specs.StmtTree.{NoStmts, MoreStmts, StmtTrees}
use Rattle.def_tree.specs.Symbol.{is_sign}
use Rattle.def_reading.specs.Cursor as places
use Rattle.def_reading.specs.StmtReading as lists
use Rattle.def_reading.specs.Try.{Reads, Reader, try_then, try_as}
use Rattle.sl_token.specs.View.{token_in, tokens_in}
use Rattle.sl_token.specs.declared.token.Token.{Token}
use Rattle.sl_tree.specs.View.{stmt_in, stmts_of}
use Rattle.sl_tree.specs.declared.statements.StmtTree.{StmtTree}
use Rattle.sl_cursor.specs.Following.{IsAt, passes, IsPassed}
use Rattle.sl_cursor.specs.Seen.{told_in}
use Rattle.sl_stmt.specs.Settling.{IsDecided, Settles, SettlesIn, stmts_in, stmts_read}
use Rattle.sl_cursor.specs.Tries.{IsIn, on_lists}
use Rattle.sl_cursor.specs.declared.source.Here.{Here}
use Rattle.sl_cursor.specs.declared.source.Source.{Source}
use Rattle.sl_cursor.specs.declared.source.Unread.{Unread}
use Rattle.sl_cursor.specs.declared.source.Unread.TheVariants as unread
use Rattle.sl_stmt.proofs.Deciding.{decided_as, decided_then, decides_as}
use Rattle.sl_stmt.proofs.StmtDecides.{decides_stmt, decides_stmts}
use Rattle.sl_cursor.proofs.Following.{choice_is, choice_not}
use Rattle.sl_stmt.proofs.Settling.{settles_by, settles_err}
use Rattle.sl_cursor.proofs.Listed.{fronted, as_is, as_fronted, fewer_left, no_more_left, turned}

-- the statements that those of the program stand for
abbrev pub all_of : List ℕ → List StmtTree → StmtTrees
all_of bytes items = stmts_of (map (stmt_in bytes) items)

-- the statements so far stand in front of those that are left, in as many turns as are enough
pub record IsFronted (source : Source) (inside : Nesting) (from : Here) (items : List StmtTree) (here : Here) (turns : ℕ) : Type 0 where
  pub front : List tree.StmtTree
  pub left : ℕ
  pub many : length here.place.rest.now < left
  pub is : on_lists source (stmts_in inside turns) from ≡ try_as (fronted MoreStmts front) (on_lists source (lists.stmts_in (lists.stmt_in turns inside) left) here)
  pub same : here.place.limit ≡ None → front ≡ map (stmt_in source.bytes.now) items

pub record IsBlocked (source : Source) (inside : Nesting) (from : Here) (items : List StmtTree) (here : Here) : Type 0 where
  pub fronts : (turns : ℕ) → length from.place.rest.now < turns → IsFronted source inside from items here turns
  pub rises : here.place.limit ≡ None → from.place.limit ≡ None
  pub on : from.place.at ≤ here.place.at
  pub stands : IsAt source here.place

pub blocked_none : (source : Source) (inside : Nesting) (from : Here) (items : List StmtTree) → items ≡ [] → IsAt source from.place → IsBlocked source inside from items from
blocked_none source inside from items none' at =
    record {
      fronts = λ turns h. record {
        front = [];
        left = suc (length (tokens_in source.bytes.now from.place.rest.now));
        many = omega (arith, length-map from.place.rest.now (token_in source.bytes.now));
        is = sym (as_is (on_lists source (stmts_in inside turns) from));
        same = λ h. sym (ap (map (stmt_in source.bytes.now)) none');
      };
      rises = λ h. h;
      on = le_refl from.place.at;
      stands = at;
    }

-- the statement that stands first, and those behind it
abbrev one_more : Nesting → ℕ → ℕ → Reader StmtTrees
one_more inside turns left reach place =
    try_then (λ first reach place. try_as (MoreStmts first) (lists.stmts_in (lists.stmt_in turns inside) left reach place)) (lists.stmt_in turns inside reach place)

-- no brace closes
goes_is : (source : Source) (inside : Nesting) (from : Here) (items : List StmtTree) (here : Here) (turns : ℕ) (f : IsFronted source inside from items here turns) (k : ℕ) → f.left ≡ suc k
    → passes (is_sign "}") (tokens_in source.bytes.now here.place.rest.now) ≡ false
    → on_lists source (stmts_in inside turns) from ≡ try_as (fronted MoreStmts f.front) (on_lists source (one_more inside turns k) here)
goes_is source inside from items here turns f k same no' =
    f.is ∙ ap (λ left. try_as (fronted MoreStmts f.front) (on_lists source (lists.stmts_in (lists.stmt_in turns inside) left) here)) same
    ∙ ap (try_as (fronted MoreStmts f.front)) (choice_not source (is_sign "}") plain (λ closing reach place. Reads NoStmts place reach) (one_more inside turns k) here no')

pub enough : (source : Source) (from here : Here) (turns : ℕ) → IsIn source from.place → IsIn source here.place → from.place.at ≤ here.place.at → length from.place.rest.now < turns → length here.place.rest.now < turns
enough source from here turns i k on h = omega (arith, no_more_left source from.place here.place i k on, h)

pub blocked_more : (source : Source) (inside : Nesting) (from : Here) (items items' : List StmtTree) (here : Here) (item : StmtTree) (to : Here) → IsAt source from.place → IsBlocked source inside from items here
    → passes (is_sign "}") (tokens_in source.bytes.now here.place.rest.now) ≡ false
    → SettlesIn source (stmt_in source.bytes.now) (λ turns. lists.stmt_in turns inside) here (Ok (item, to)) → here.place.at < to.place.at
    → items' ≡ items ++ item ∷ [] → IsBlocked source inside from items' to
blocked_more source inside from items items' here item to at b no' reads' on are =
    let first = reads' (suc (length here.place.rest.now)) (omega arith) in
    record {
      fronts = λ turns h.
          let f = b.fronts turns h in
          let t = turned f.left (length here.place.rest.now) f.many in
          let r = reads' turns (enough source from here turns at.stands b.stands.stands b.on h) in
          let one = r.tried.tree in
          record {
            front = f.front ++ one ∷ [];
            left = t.0;
            many = let less = fewer_left source here.place to.place b.stands.stands r.behind.stands on in omega (arith, less, t.2);
            is = goes_is source inside from items here turns f t.0 t.1 no'
                ∙ ap (λ look. try_as (fronted MoreStmts f.front) (try_then (λ first reach place. try_as (MoreStmts first) (lists.stmts_in (lists.stmt_in turns inside) t.0 reach place)) look)) r.tried.is
                ∙ as_fronted MoreStmts f.front one (on_lists source (lists.stmts_in (lists.stmt_in turns inside) t.0) to);
            same = λ h.
                ap (λ front. front ++ one ∷ []) (f.same (r.tried.rises h)) ∙ ap (λ one. map (stmt_in source.bytes.now) items ++ one ∷ []) (r.tried.same h)
                ∙ sym (map-append (stmt_in source.bytes.now) items (item ∷ [])) ∙ ap (map (stmt_in source.bytes.now)) (sym are);
          };
      rises = λ h. b.rises (first.tried.rises h);
      on = omega (arith, b.on, first.on);
      stands = first.behind;
    }

all_fronted : (front : List tree.StmtTree) → fronted MoreStmts front NoStmts ≡ stmts_of front
all_fronted [] = refl
all_fronted (first ∷ front) = ap (MoreStmts first) (all_fronted front)

-- the closing brace behind all statements
pub blocked_closed : (source : Source) (inside : Nesting) (from : Here) (items : List StmtTree) (here : Here) (closing : Token) (to : Here) → IsBlocked source inside from items here
    → IsPassed source (is_sign "}") plain here closing to → SettlesIn source (all_of source.bytes.now) (stmts_in inside) from (Ok (items, to))
blocked_closed source inside from items here closing to b p turns h =
    let f = b.fronts turns h in
    let t = turned f.left (length here.place.rest.now) f.many in
    record {
      tried = record {
        tree = fronted MoreStmts f.front NoStmts;
        is = f.is ∙ ap (λ left. try_as (fronted MoreStmts f.front) (on_lists source (lists.stmts_in (lists.stmt_in turns inside) left) here)) t.1
            ∙ ap (try_as (fronted MoreStmts f.front)) (choice_is source (is_sign "}") plain (λ closing reach place. Reads NoStmts place reach) (one_more inside turns t.0) here closing to p);
        same = λ h. all_fronted f.front ∙ ap stmts_of (f.same (p.rises h));
        rises = λ h. b.rises (p.rises h);
        stands = p.behind.stands;
      };
      on = omega (arith, b.on, p.on);
      behind = p.behind;
    }

-- a statement where nothing is read
blocked_stops : (source : Source) (inside : Nesting) (from : Here) (items : List StmtTree) (here : Here) (stop : Unread) → IsAt source from.place → IsBlocked source inside from items here
    → passes (is_sign "}") (tokens_in source.bytes.now here.place.rest.now) ≡ false
    → SettlesIn source (stmt_in source.bytes.now) (λ turns. lists.stmt_in turns inside) here (Err stop)
    → SettlesIn source (all_of source.bytes.now) (stmts_in inside) from (Err stop)
blocked_stops source inside from items here (unread.Refused reach) at b no' stops turns h =
    let f = b.fronts turns h in
    let t = turned f.left (length here.place.rest.now) f.many in
    let s = stops turns (enough source from here turns at.stands b.stands.stands b.on h) in
    goes_is source inside from items here turns f t.0 t.1 no'
    ∙ ap (λ look. try_as (fronted MoreStmts f.front) (try_then (λ first reach place. try_as (MoreStmts first) (lists.stmts_in (lists.stmt_in turns inside) t.0 reach place)) look)) s
blocked_stops source inside from items here (unread.Deep told) at b no' stops turns h =
    let f = b.fronts turns h in
    let t = turned f.left (length here.place.rest.now) f.many in
    let said = told_in source.bytes.now told in
    let next = λ (first : tree.StmtTree) (reach : Option places.FarthestFailure) (place : places.Cursor). try_as (MoreStmts first) (lists.stmts_in (lists.stmt_in turns inside) t.0 reach place) in
    let one = on_lists source (lists.stmt_in turns inside) here in
    subst (IsDecided said) (sym (goes_is source inside from items here turns f t.0 t.1 no'))
    (decided_as (fronted MoreStmts f.front) said (try_then next one)
    (decided_then next said one
    (λ first. decides_as (MoreStmts first) (lists.stmts_in (lists.stmt_in turns inside) t.0) (decides_stmts (lists.stmt_in turns inside) (decides_stmt turns inside) t.0))
    (stops turns (enough source from here turns at.stands b.stands.stands b.on h))))
blocked_stops source inside from items here unread.NoMemory at b no' stops turns h = tt

-- what is handed on where a statement is not read
pub blocked_err : (source : Source) (inside : Nesting) (from : Here) (items : List StmtTree) (here : Here) (result : Result (List StmtTree × Here) Unread) (stop : Unread) → IsErrAnd result (λ x. x ≡ stop)
    → IsAt source from.place → IsBlocked source inside from items here → passes (is_sign "}") (tokens_in source.bytes.now here.place.rest.now) ≡ false
    → SettlesIn source (stmt_in source.bytes.now) (λ turns. lists.stmt_in turns inside) here (Err stop)
    → SettlesIn source (all_of source.bytes.now) (stmts_in inside) from result
blocked_err source inside from items here result stop is at b no' stops turns h =
    settles_err source (all_of source.bytes.now) (stmts_in inside turns) from result stop is (blocked_stops source inside from items here stop at b no' stops turns h)

-- all statements, in one more turn than there are tokens
pub settles_all : (source : Source) (inside : Nesting) (from : Here) (result : Result (List StmtTree × Here) Unread) → SettlesIn source (all_of source.bytes.now) (stmts_in inside) from result
    → Settles source (all_of source.bytes.now) (stmts_read inside) from result
settles_all source inside from result s =
    let turns = suc (length (tokens_in source.bytes.now from.place.rest.now)) in
    settles_by source (all_of source.bytes.now) (stmts_read inside) (stmts_in inside turns) from from result refl (le_refl from.place.at) (λ h. h)
    (s turns (omega (arith, length-map from.place.rest.now (token_in source.bytes.now))))
