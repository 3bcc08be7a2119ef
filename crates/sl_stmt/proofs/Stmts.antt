-- Statements by the signs with which they begin.
use Rattle.std.proofs.Common.{◌≡◌, ℕ, suc, ◌<◌, Bool, true, false, List, [], ◌∷◌, length, refl, sym, ap, ◌∙◌, arith, le_refl}
use Rattle.std.specs.Prelude.{Option, Some, None, Result, Ok, Err}
use Rattle.std.specs.Option.{option_map}
use Rattle.std.proofs.lemmas.Bool.{false≢true}
use Rattle.def_token.specs.Lexical as lexical
use Rattle.def_tree.specs.ExprTree as exprs
use Rattle.def_tree.specs.Limits.{Nesting, Entry, plain, opens, in_bracket, in_statement}
use Rattle.def_tree.specs.StmtTree as tree
use Rattle.def_tree.specs.Symbol.{Symbol, symbol, is_sign}
use Rattle.def_reading.specs.Machine.{sign_of}
use Rattle.def_reading.specs.Cursor as places
use Rattle.def_reading.specs.Cursor.{At, advance}
use Rattle.def_reading.specs.StmtReading as lists
use Rattle.def_reading.specs.StmtReading.{Opening, opening_text, openings, body_in, else_in, if_in, while_in, for_in, behind_in, opening_entry, stmt_by, stmt_at, start_in, maybe_expr_in, maybe_simple_in, condition_in}
use Rattle.def_reading.specs.Try.{Try, Reads, Stops, Reader, try_then, try_as, refused, opened}
use Rattle.sl_token.specs.View.{token_in, tokens_in}
use Rattle.sl_token.specs.declared.token.Token.{Token}
use Rattle.sl_tree.specs.View.{expr_in, stmt_in}
use Rattle.sl_tree.specs.declared.expressions.ExprTree.{ExprTree}
use Rattle.sl_tree.specs.declared.statements.StmtTree.{StmtTree}
use Rattle.sl_tree.specs.declared.statements.StmtTree.TheVariants as stmt
use Rattle.sl_tree.proofs.Views.{stmt_in-If, stmt_in-IfElse, stmt_in-While, stmt_in-For}
use Rattle.sl_cursor.specs.Following.{IsAt, IsRead, Follows, passes, IsPassed, Refuses}
use Rattle.sl_cursor.specs.Seen.{place_in, reach_in, told_in}
use Rattle.sl_stmt.specs.Settling.{Settles, SettlesIn, IsSettled, IsBegun, HeadTree, head_in, headed, head_read}
use Rattle.sl_cursor.specs.Tries.{on_lists}
use Rattle.sl_cursor.specs.declared.cursor.Told.{Told}
use Rattle.sl_cursor.specs.declared.source.Here.{Here}
use Rattle.sl_cursor.specs.declared.source.Source.{Source}
use Rattle.sl_cursor.specs.declared.source.Unread.{Unread}
use Rattle.sl_cursor.specs.declared.source.Unread.TheVariants as unread
use Rattle.sl_stmt.specs.declared.statements.Head.{Head}
use Rattle.sl_stmt.proofs.StmtDecides.{decides_else_in, decides_stmt}
use Rattle.sl_cursor.proofs.Following.{read_as, follows_end, follows_refused, stops_then}
use Rattle.sl_cursor.proofs.Listed.{fewer_left, turned}
use Rattle.sl_stmt.proofs.Blocks.{enough}
use Rattle.sl_stmt.proofs.Settling.{settles_of, settles_by, settles_yes, settles_no, settles_then, settles_stop_then, settles_stop_as, settles_decided}

-- any token
abbrev pub any : Symbol → Bool
any symbol = true

-- what a statement comes to at its first token
stmt_is : (source : Source) (around : Nesting) (k : ℕ) (from : Here) (token : Token) (entry : Entry) (to : Here) → IsPassed source any entry from token to → (o : Option Opening) → sign_of opening_text openings (symbol (token_in source.bytes.now token)) ≡ o
    → on_lists source (lists.stmt_in (suc k) around) from
    ≡ stmt_by around (lists.stmt_in k) o (option_map (reach_in source.bytes.now) from.reach) (token_in source.bytes.now token) (place_in source.bytes.now from.place)
stmt_is source around k from token entry to p o is =
    let bytes = source.bytes.now in
    let reach = option_map (reach_in bytes) from.reach in
    let limit = option_map (told_in bytes) from.place.limit in
    let first = token_in bytes token in
    ap (λ ts. stmt_at around (lists.stmt_in k) reach (At from.place.at limit ts)) p.are
    ∙ ap (λ o. stmt_by around (lists.stmt_in k) o reach first (At from.place.at limit (first ∷ p.more))) is
    ∙ ap (λ ts. stmt_by around (lists.stmt_in k) o reach first (At from.place.at limit ts)) (sym p.are)

-- a statement behind the sign with which it begins
pub opened_settles : (source : Source) (around : Nesting) (from : Here) (token : Token) (entry : Entry) (to : Here) (o : Opening) → sign_of opening_text openings (symbol (token_in source.bytes.now token)) ≡ Some o
    → ((stmt : Nesting → Reader tree.StmtTree) → opening_entry around stmt o ≡ entry) → IsAt source from.place → IsPassed source any entry from token to → (result : Result (StmtTree × Here) Unread)
    → ((k : ℕ) → length to.place.rest.now < k → Settles source (stmt_in source.bytes.now) (behind_in around (lists.stmt_in k) o (token_in source.bytes.now token)) to result)
    → SettlesIn source (stmt_in source.bytes.now) (λ turns. lists.stmt_in turns around) from result
opened_settles source around from token entry to o is entry_is at p result inner turns h =
    let bytes = source.bytes.now in
    let t = turned turns (length from.place.rest.now) h in
    let reach = option_map (reach_in bytes) from.reach in
    let first = token_in bytes token in
    let reader = behind_in around (lists.stmt_in t.0) o first in
    let less = fewer_left source from.place to.place at.stands p.behind.stands (omega (arith, p.on)) in
    settles_by source (stmt_in bytes) (lists.stmt_in turns around) reader from to result
    (ap (λ turns. on_lists source (lists.stmt_in turns around) from) t.1 ∙ stmt_is source around t.0 from token entry to p (Some o) is
    ∙ ap (λ entry. reader reach (advance entry (place_in bytes from.place))) (entry_is (lists.stmt_in t.0)) ∙ ap (reader reach) (sym p.place)
    ∙ ap (λ reach. reader (option_map (reach_in bytes) reach) (place_in bytes to.place)) (sym p.reach))
    (omega (arith, p.on)) p.rises (inner t.0 (omega (arith, less, t.2)))

-- a local or a simple statement
pub flat_settles : (source : Source) (around : Nesting) (from : Here) (token : Token) (to : Here) → sign_of opening_text openings (symbol (token_in source.bytes.now token)) ≡ None → IsPassed source any plain from token to
    → (result : Result (StmtTree × Here) Unread) → Follows source (stmt_in source.bytes.now) (lists.either_in tree.Local tree.Simple around) from result
    → SettlesIn source (stmt_in source.bytes.now) (λ turns. lists.stmt_in turns around) from result
flat_settles source around from token to is p result f turns h =
    let t = turned turns (length from.place.rest.now) h in
    settles_by source (stmt_in source.bytes.now) (lists.stmt_in turns around) (lists.either_in tree.Local tree.Simple around) from from result
    (ap (λ turns. on_lists source (lists.stmt_in turns around) from) t.1 ∙ stmt_is source around t.0 from token plain to p None is) (le_refl from.place.at) (λ h. h)
    (settles_of source (stmt_in source.bytes.now) (lists.either_in tree.Local tree.Simple around) from result f)

-- no token is left
at_end : (around : Nesting) (k : ℕ) (reach : Option places.FarthestFailure) (at : ℕ) (limit : Option places.Told) (tokens : List lexical.Token) → passes any tokens ≡ false
    → stmt_at around (lists.stmt_in k) reach (At at limit tokens) ≡ refused reach (At at limit tokens)
at_end around k reach at limit [] h = refl
at_end around k reach at limit (token ∷ tokens) h = absurd (false≢true (sym h))

pub end_settles : (source : Source) (around : Nesting) (from : Here) (stop : Unread) → passes any (tokens_in source.bytes.now from.place.rest.now) ≡ false → Refuses source from stop
    → SettlesIn source (stmt_in source.bytes.now) (λ turns. lists.stmt_in turns around) from (Err stop)
end_settles source around from stop none r turns h =
    let bytes = source.bytes.now in
    let t = turned turns (length from.place.rest.now) h in
    settles_by source (stmt_in bytes) (lists.stmt_in turns around) (refused {A = tree.StmtTree}) from from (Err stop)
    (ap (λ turns. on_lists source (lists.stmt_in turns around) from) t.1
    ∙ at_end around t.0 (option_map (reach_in bytes) from.reach) from.place.at (option_map (told_in bytes) from.place.limit) (tokens_in bytes from.place.rest.now) none) (le_refl from.place.at) (λ h. h)
    (settles_of source (stmt_in bytes) (refused {A = tree.StmtTree}) from (Err stop) (follows_refused source (stmt_in bytes) from stop r))

-- a limit stands before a statement that no way reaches
pub decided_settles : (source : Source) (around : Nesting) (from : Here) (told : Told) → IsSettled told from → SettlesIn source (stmt_in source.bytes.now) (λ turns. lists.stmt_in turns around) from (Err (unread.Deep told))
decided_settles source around from told s turns h = settles_decided source (stmt_in source.bytes.now) (lists.stmt_in turns around) (decides_stmt turns around) from told s

-- bodies
pub body_settles : (source : Source) (around inside : Nesting) (from begun : Here) → inside ≡ in_statement around → IsBegun source (opens (in_statement around).statements) from begun → (result : Result (StmtTree × Here) Unread)
    → SettlesIn source (stmt_in source.bytes.now) (λ turns. lists.stmt_in turns inside) begun result → SettlesIn source (stmt_in source.bytes.now) (λ turns. body_in around (lists.stmt_in turns)) from result
body_settles source around inside from begun is b result s turns h =
    let bytes = source.bytes.now in
    let reach = option_map (reach_in bytes) from.reach in
    let few : length begun.place.rest.now < turns = omega (arith, ap length b.rest, h) in
    settles_by source (stmt_in bytes) (body_in around (lists.stmt_in turns)) (lists.stmt_in turns inside) from begun result
    (ap (λ inside. lists.stmt_in turns inside reach (opened (opens (in_statement around).statements) (place_in bytes from.place))) (sym is) ∙ ap (lists.stmt_in turns inside reach) (sym b.place)
    ∙ ap (λ reach. lists.stmt_in turns inside (option_map (reach_in bytes) reach) (place_in bytes begun.place)) (sym b.reach))
    (omega (arith, b.stays)) b.rises (s turns few)

module _ (source : Source) (around : Nesting) where
  abbrev bytes : List ℕ
  bytes = source.bytes.now

  -- what a body comes to
  abbrev pub Bodies : Here → Result (StmtTree × Here) Unread → Type 0
  Bodies from result = SettlesIn source (stmt_in source.bytes.now) (λ turns. body_in around (lists.stmt_in turns)) from result

  -- `if`
  abbrev behind_if : ℕ → lexical.Token → exprs.ExprTree → Reader tree.StmtTree
  behind_if turns word condition reach place = try_then (else_in around (lists.stmt_in turns) word condition) (body_in around (lists.stmt_in turns) reach place)

  abbrev yes_else : ℕ → lexical.Token → exprs.ExprTree → tree.StmtTree → lexical.Token → Reader tree.StmtTree
  yes_else turns word condition one otherwise reach place = try_as (tree.IfElse word condition one) (body_in around (lists.stmt_in turns) reach place)

  abbrev no_else : lexical.Token → exprs.ExprTree → tree.StmtTree → Reader tree.StmtTree
  no_else word condition one reach place = Reads (tree.If word condition one) place reach

  pub if_stops : (word : Token) (from : Here) (condition : ExprTree) (mid : Here) (stop : Unread) → IsAt source from.place → IsRead source (expr_in source.bytes.now) (condition_in around) from condition mid → Bodies mid (Err stop)
      → SettlesIn source (stmt_in source.bytes.now) (λ turns. if_in around (lists.stmt_in turns) (token_in source.bytes.now word)) from (Err stop)
  if_stops word from condition mid stop at r s turns h =
      let first = token_in bytes word in
      settles_then source (expr_in bytes) (stmt_in bytes) (behind_if turns first) (condition_in around) from condition mid (Err stop) r
      (λ one is. settles_stop_then source (stmt_in bytes) (stmt_in bytes) (else_in around (lists.stmt_in turns) first one) (body_in around (lists.stmt_in turns)) mid stop
      (λ two. decides_else_in around (lists.stmt_in turns) (decides_stmt turns) first one two) (s turns (enough source from mid turns at.stands r.behind.stands r.on h)))

  pub if_alone : (word : Token) (from : Here) (condition : ExprTree) (mid : Here) (yes' : StmtTree) (end : Here) → IsAt source from.place → IsRead source (expr_in source.bytes.now) (condition_in around) from condition mid
      → Bodies mid (Ok (yes', end)) → passes (is_sign "else") (tokens_in source.bytes.now end.place.rest.now) ≡ false
      → SettlesIn source (stmt_in source.bytes.now) (λ turns. if_in around (lists.stmt_in turns) (token_in source.bytes.now word)) from (Ok (stmt.If word condition yes', end))
  if_alone word from condition mid yes' end at r s no' turns h =
      let first = token_in bytes word in
      let body = s turns (enough source from mid turns at.stands r.behind.stands r.on h) in
      let read = stmt.If word condition yes' in
      settles_then source (expr_in bytes) (stmt_in bytes) (behind_if turns first) (condition_in around) from condition mid (Ok (read, end)) r
      (λ one is. settles_then source (stmt_in bytes) (stmt_in bytes) (else_in around (lists.stmt_in turns) first one) (body_in around (lists.stmt_in turns)) mid yes' end (Ok (read, end)) body
      (λ two are. settles_no source (stmt_in bytes) (is_sign "else") plain (yes_else turns first one two) (no_else first one two) end (Ok (read, end)) no'
      (follows_end source (stmt_in bytes) (tree.If first one two) end read body.behind
      (λ h. ap (λ one. tree.If first one two) (is (body.tried.rises h)) ∙ ap (tree.If first (expr_in bytes condition)) (are h) ∙ sym (stmt_in-If bytes word condition yes')))))

  pub else_stops : (word : Token) (from : Here) (condition : ExprTree) (mid : Here) (yes' : StmtTree) (end : Here) (otherwise : Token) (next : Here) (stop : Unread) → IsAt source from.place
      → IsRead source (expr_in source.bytes.now) (condition_in around) from condition mid → Bodies mid (Ok (yes', end)) → IsPassed source (is_sign "else") plain end otherwise next → Bodies next (Err stop)
      → SettlesIn source (stmt_in source.bytes.now) (λ turns. if_in around (lists.stmt_in turns) (token_in source.bytes.now word)) from (Err stop)
  else_stops word from condition mid yes' end otherwise next stop at r s p e turns h =
      let first = token_in bytes word in
      let few = enough source from mid turns at.stands r.behind.stands r.on h in
      let body = s turns few in
      let less = enough source mid end turns r.behind.stands body.behind.stands body.on few in
      settles_then source (expr_in bytes) (stmt_in bytes) (behind_if turns first) (condition_in around) from condition mid (Err stop) r
      (λ one is. settles_then source (stmt_in bytes) (stmt_in bytes) (else_in around (lists.stmt_in turns) first one) (body_in around (lists.stmt_in turns)) mid yes' end (Err stop) body
      (λ two are. settles_yes source (stmt_in bytes) (is_sign "else") plain (yes_else turns first one two) (no_else first one two) end otherwise next (Err stop) p
      (settles_stop_as source (stmt_in bytes) (stmt_in bytes) (tree.IfElse first one two) (body_in around (lists.stmt_in turns)) next stop
      (e turns (enough source end next turns body.behind.stands p.behind.stands (omega (arith, p.on)) less)))))

  pub if_else : (word : Token) (from : Here) (condition : ExprTree) (mid : Here) (yes' : StmtTree) (end : Here) (otherwise : Token) (next : Here) (no' : StmtTree) (last : Here) → IsAt source from.place
      → IsRead source (expr_in source.bytes.now) (condition_in around) from condition mid → Bodies mid (Ok (yes', end)) → IsPassed source (is_sign "else") plain end otherwise next → Bodies next (Ok (no', last))
      → SettlesIn source (stmt_in source.bytes.now) (λ turns. if_in around (lists.stmt_in turns) (token_in source.bytes.now word)) from (Ok (stmt.IfElse word condition yes' no', last))
  if_else word from condition mid yes' end otherwise next no' last at r s p e turns h =
      let first = token_in bytes word in
      let few = enough source from mid turns at.stands r.behind.stands r.on h in
      let body = s turns few in
      let less = enough source mid end turns r.behind.stands body.behind.stands body.on few in
      let other = e turns (enough source end next turns body.behind.stands p.behind.stands (omega (arith, p.on)) less) in
      let read = stmt.IfElse word condition yes' no' in
      settles_then source (expr_in bytes) (stmt_in bytes) (behind_if turns first) (condition_in around) from condition mid (Ok (read, last)) r
      (λ one is. settles_then source (stmt_in bytes) (stmt_in bytes) (else_in around (lists.stmt_in turns) first one) (body_in around (lists.stmt_in turns)) mid yes' end (Ok (read, last)) body
      (λ two are. settles_yes source (stmt_in bytes) (is_sign "else") plain (yes_else turns first one two) (no_else first one two) end otherwise next (Ok (read, last)) p
      (read_as source (stmt_in bytes) (stmt_in bytes) (tree.IfElse first one two) (body_in around (lists.stmt_in turns)) next no' read last other
      (λ h k. ap (λ one. tree.IfElse first one two (stmt_in bytes no')) (is (body.tried.rises (p.rises k))) ∙ ap (λ two. tree.IfElse first (expr_in bytes condition) two (stmt_in bytes no')) (are (p.rises k))
      ∙ sym (stmt_in-IfElse bytes word condition yes' no')))))

  -- `while`
  abbrev behind_while : ℕ → lexical.Token → exprs.ExprTree → Reader tree.StmtTree
  behind_while turns word condition reach place = try_as (tree.While word condition) (body_in around (lists.stmt_in turns) reach place)

  pub while_stops : (word : Token) (from : Here) (condition : ExprTree) (mid : Here) (stop : Unread) → IsAt source from.place → IsRead source (expr_in source.bytes.now) (condition_in around) from condition mid → Bodies mid (Err stop)
      → SettlesIn source (stmt_in source.bytes.now) (λ turns. while_in around (lists.stmt_in turns) (token_in source.bytes.now word)) from (Err stop)
  while_stops word from condition mid stop at r s turns h =
      let first = token_in bytes word in
      settles_then source (expr_in bytes) (stmt_in bytes) (behind_while turns first) (condition_in around) from condition mid (Err stop) r
      (λ one is. settles_stop_as source (stmt_in bytes) (stmt_in bytes) (tree.While first one) (body_in around (lists.stmt_in turns)) mid stop
      (s turns (enough source from mid turns at.stands r.behind.stands r.on h)))

  pub while_read : (word : Token) (from : Here) (condition : ExprTree) (mid : Here) (body : StmtTree) (end : Here) → IsAt source from.place → IsRead source (expr_in source.bytes.now) (condition_in around) from condition mid
      → Bodies mid (Ok (body, end)) → SettlesIn source (stmt_in source.bytes.now) (λ turns. while_in around (lists.stmt_in turns) (token_in source.bytes.now word)) from (Ok (stmt.While word condition body, end))
  while_read word from condition mid body end at r s turns h =
      let first = token_in bytes word in
      let read = stmt.While word condition body in
      settles_then source (expr_in bytes) (stmt_in bytes) (behind_while turns first) (condition_in around) from condition mid (Ok (read, end)) r
      (λ one is. read_as source (stmt_in bytes) (stmt_in bytes) (tree.While first one) (body_in around (lists.stmt_in turns)) mid body read end
      (s turns (enough source from mid turns at.stands r.behind.stands r.on h))
      (λ h k. ap (λ one. tree.While first one (stmt_in bytes body)) (is k) ∙ sym (stmt_in-While bytes word condition body)))

  -- `for`
  abbrev behind_for : ℕ → lexical.Token → HeadTree → Reader tree.StmtTree
  behind_for turns word head reach place = try_as (tree.For word head.start head.condition head.step) (body_in around (lists.stmt_in turns) reach place)

  step_same : (turns : ℕ) (word : lexical.Token) (start : tree.StartTree) (condition : Option exprs.ExprTree) (look : Try (Option tree.SimpleTree))
      → try_then (λ step reach place. try_as (tree.For word start condition step) (body_in around (lists.stmt_in turns) reach place)) look ≡ try_then (behind_for turns word) (try_as (headed start condition) look)
  step_same turns word start condition (Reads step place reach) = refl
  step_same turns word start condition (Stops reach) = refl

  condition_same : (turns : ℕ) (word : lexical.Token) (start : tree.StartTree) (look : Try (Option exprs.ExprTree))
      → try_then (λ condition reach place. try_then (λ step reach place. try_as (tree.For word start condition step) (body_in around (lists.stmt_in turns) reach place)) (maybe_simple_in (in_bracket around) reach place)) look
      ≡ try_then (behind_for turns word) (try_then (λ condition reach place. try_as (headed start condition) (maybe_simple_in (in_bracket around) reach place)) look)
  condition_same turns word start (Reads condition place reach) = step_same turns word start condition (maybe_simple_in (in_bracket around) reach place)
  condition_same turns word start (Stops reach) = refl

  start_same : (turns : ℕ) (word : lexical.Token) (look : Try tree.StartTree)
      → try_then (λ start reach place. try_then (λ condition reach place. try_then (λ step reach place. try_as (tree.For word start condition step) (body_in around (lists.stmt_in turns) reach place))
      (maybe_simple_in (in_bracket around) reach place)) (maybe_expr_in (in_bracket around) reach place)) look
      ≡ try_then (behind_for turns word) (try_then (λ start reach place. try_then (λ condition reach place. try_as (headed start condition) (maybe_simple_in (in_bracket around) reach place))
      (maybe_expr_in (in_bracket around) reach place)) look)
  start_same turns word (Reads start place reach) = condition_same turns word start (maybe_expr_in (in_bracket around) reach place)
  start_same turns word (Stops reach) = refl

  for_by : (b : Bool) (turns : ℕ) (word : lexical.Token) (reach : Option places.FarthestFailure) (at : ℕ) (limit : Option places.Told) (token : lexical.Token) (tokens : List lexical.Token) → is_sign "(" (symbol token) ≡ b
      → for_in around (lists.stmt_in turns) word reach (At at limit (token ∷ tokens)) ≡ try_then (behind_for turns word) (head_read around reach (At at limit (token ∷ tokens)))
  for_by true turns word reach at limit token tokens is =
      rw is (start_same turns word (start_in (in_bracket around) reach (advance (opens (in_bracket around).brackets) (At at limit (token ∷ tokens)))))
  for_by false turns word reach at limit token tokens is = rw is refl

  for_same : (turns : ℕ) (word : lexical.Token) (reach : Option places.FarthestFailure) (at : ℕ) (limit : Option places.Told) (tokens : List lexical.Token)
      → for_in around (lists.stmt_in turns) word reach (At at limit tokens) ≡ try_then (behind_for turns word) (head_read around reach (At at limit tokens))
  for_same turns word reach at limit [] = refl
  for_same turns word reach at limit (token ∷ tokens) = for_by (is_sign "(" (symbol token)) turns word reach at limit token tokens refl

  for_is : (turns : ℕ) (word : lexical.Token) (from : Here)
      → on_lists source (for_in around (lists.stmt_in turns) word) from ≡ on_lists source (λ reach place. try_then (behind_for turns word) (head_read around reach place)) from
  for_is turns word from = for_same turns word (option_map (reach_in source.bytes.now) from.reach) from.place.at (option_map (told_in source.bytes.now) from.place.limit) (tokens_in source.bytes.now from.place.rest.now)

  for_by_head : (word : Token) (from : Here) (turns : ℕ) (result : Result (StmtTree × Here) Unread)
      → Settles source (stmt_in source.bytes.now) (λ reach place. try_then (behind_for turns (token_in source.bytes.now word)) (head_read around reach place)) from result
      → Settles source (stmt_in source.bytes.now) (for_in around (lists.stmt_in turns) (token_in source.bytes.now word)) from result
  for_by_head word from turns result s =
      settles_by source (stmt_in bytes) (for_in around (lists.stmt_in turns) (token_in bytes word)) (λ reach place. try_then (behind_for turns (token_in bytes word)) (head_read around reach place)) from from result
      (for_is turns (token_in bytes word) from) (le_refl from.place.at) (λ h. h) s

  pub for_no_head : (word : Token) (from : Here) (stop : Unread) → Follows source (head_in source.bytes.now) (head_read around) from (Err stop)
      → SettlesIn source (stmt_in source.bytes.now) (λ turns. for_in around (lists.stmt_in turns) (token_in source.bytes.now word)) from (Err stop)
  for_no_head word from stop f turns h =
      let first = token_in bytes word in
      for_by_head word from turns (Err stop)
      (settles_of source (stmt_in bytes) (λ reach place. try_then (behind_for turns first) (head_read around reach place)) from (Err stop)
      (stops_then source (head_in bytes) (stmt_in bytes) (behind_for turns first) (head_read around) from stop f))

  pub for_stops : (word : Token) (from : Here) (head : Head) (mid : Here) (stop : Unread) → IsAt source from.place → IsRead source (head_in source.bytes.now) (head_read around) from head mid → Bodies mid (Err stop)
      → SettlesIn source (stmt_in source.bytes.now) (λ turns. for_in around (lists.stmt_in turns) (token_in source.bytes.now word)) from (Err stop)
  for_stops word from head mid stop at r s turns h =
      let first = token_in bytes word in
      for_by_head word from turns (Err stop)
      (settles_then source (head_in bytes) (stmt_in bytes) (behind_for turns first) (head_read around) from head mid (Err stop) r
      (λ one is. settles_stop_as source (stmt_in bytes) (stmt_in bytes) (tree.For first one.start one.condition one.step) (body_in around (lists.stmt_in turns)) mid stop
      (s turns (enough source from mid turns at.stands r.behind.stands r.on h))))

  pub for_read : (word : Token) (from : Here) (head : Head) (mid : Here) (body : StmtTree) (end : Here) → IsAt source from.place → IsRead source (head_in source.bytes.now) (head_read around) from head mid
      → Bodies mid (Ok (body, end))
      → SettlesIn source (stmt_in source.bytes.now) (λ turns. for_in around (lists.stmt_in turns) (token_in source.bytes.now word)) from (Ok (stmt.For word head.start head.condition head.step body, end))
  for_read word from head mid body end at r s turns h =
      let first = token_in bytes word in
      let read = stmt.For word head.start head.condition head.step body in
      for_by_head word from turns (Ok (read, end))
      (settles_then source (head_in bytes) (stmt_in bytes) (behind_for turns first) (head_read around) from head mid (Ok (read, end)) r
      (λ one is. read_as source (stmt_in bytes) (stmt_in bytes) (tree.For first one.start one.condition one.step) (body_in around (lists.stmt_in turns)) mid body read end
      (s turns (enough source from mid turns at.stands r.behind.stands r.on h))
      (λ h k. ap (λ (one : HeadTree). tree.For first one.start one.condition one.step (stmt_in bytes body)) (is k)
      ∙ sym (stmt_in-For bytes word head.start head.condition head.step body))))
