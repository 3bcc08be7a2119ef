-- The reader of statements comes to each of them.
use Rattle.std.proofs.Common.{◌≡◌, ℕ, zero, suc, ◌<◌, ◌≤◌, Bool, true, false, List, [], ◌∷◌, ◌++◌, length, refl, sym, ap, subst, ◌∙◌, codes, arith, append-nil, le_refl}
use Rattle.std.specs.Prelude.{Option, Some, None}
use Rattle.std.proofs.lemmas.Bool.{false≢true}
use Rattle.def_token.specs.Lexical.{Token}
use Rattle.def_tree.specs.ExprTree.{ExprTree}
use Rattle.def_tree.specs.Limits.{Nesting, Entry, plain, opens, led_by, in_bracket, in_block, in_statement, local_entries, simple_entries, start_entries, maybe_expr_entries, maybe_simple_entries, condition_entries, stmt_entries, stmts_entries}
use Rattle.def_tree.specs.Statements.{begins_with, NoLocal, IsLocal, IsSimple, IsStart, without_start, with_local, with_simple, MayBeExpr, without_expr, with_expr, MayBeSimple, without_simple, with_step, IsCondition, of_brackets, IsStmt, of_block, of_local, of_simple, of_nothing, of_return, of_break, of_continue, of_if, of_if_else, of_while, of_for, AreStmts, no_stmts, more_stmts}
use Rattle.def_tree.specs.StmtTree as tree
use Rattle.def_tree.specs.StmtTree.{LocalTree, SimpleTree, StartTree, StmtTree, StmtTrees, NoStmts, MoreStmts}
use Rattle.def_tree.specs.Symbol.{Symbol, Sign, symbol, is_sign, Is}
use Rattle.law_tree.proofs.Heads.{IsHeaded, begins_expr, begins_plain, expr_head, local_head, simple_head}
use Rattle.law_tree.proofs.StmtsCovered.{stmt_covered}
use Rattle.law_tree.proofs.Symbols.{is_sign-true}
use Rattle.def_reading.specs.Machine.{sign_of}
use Rattle.def_reading.specs.Cursor.{Told, Cursor, At, noted, FarthestFailure}
use Rattle.def_reading.specs.StmtReading.{local_in, simple_in, declares, simple_up_to, either_by, either_in, start_in, maybe_expr_in, maybe_simple_in, condition_in, Opening, Brace, Semicolon, Return, Break, Continue, If, While, For, opening_text, openings, stmts_in, body_in, else_in, if_in, behind_in, opening_entry, stmt_by, stmt_at, stmt_in}
use Rattle.def_reading.specs.Try.{Try, Reads, Stops, Reader, try_then, try_as, or_else, refused, up_to, ahead, expr_in}
use Rattle.law_stmts.proofs.Declares.{simple_declares}
use Rattle.law_exprs.proofs.ExprComes.{expr_is}
use Rattle.law_stmts.proofs.Leads.{opens_shallow, stmt_led, led_passes}
use Rattle.law_stmts.proofs.LocalComes.{IsStop, headed_not, comes_ahead, local_is}
use Rattle.law_machine.proofs.MachineRun.{left, passed_shorter}
use Rattle.law_machine.proofs.MachineSigns.{sign_of-some}
use Rattle.law_stmts.proofs.SimpleComes.{IsAloneEnd, simple_is}
use Rattle.law_stmts.proofs.LocalSound.{local_sound}
use Rattle.law_exprs.proofs.TryComes.{noted_stays, noted_later, Comes, comes_end, comes_as, comes_then, comes_with, comes_yes, comes_no, comes_up_to, starts}
use Rattle.law_exprs.proofs.TrySound.{Sound, UpTo, sound_up_to}

-- what a reader comes to leaves no more tokens than there are
pub comes_shorter : {A : Type 0} {reader : Reader A} {tokens rest : List Token} {a : A} {entries : List Entry} → Comes reader tokens a entries rest → length rest ≤ length tokens
comes_shorter {tokens = tokens} {entries = entries} c =
    let g = c.comes 0 None None in
    omega (arith, passed_shorter entries (At 0 None tokens), ap (λ p. length (left p)) (g.passes tt))

-- the marks that end locals and simple statements
pub semicolon_stops : (mark : Token) (rest : List Token) → Is ";" mark → IsStop (mark ∷ rest)
semicolon_stops mark rest h = record { goes = rw h refl; equals = rw h refl; shifts = rw h refl }

semicolon_ends : (mark : Token) (rest : List Token) → Is ";" mark → IsAloneEnd (mark ∷ rest)
semicolon_ends mark rest h =
    record {
      first = mark;
      others = rest;
      are = refl;
      assigns = rw h refl;
      increments = rw h refl;
      decrements = rw h refl;
      stops = record { goes = rw h refl; equals = rw h refl; shifts = rw h refl };
    }

bracket_ends : (mark : Token) (rest : List Token) → Is ")" mark → IsAloneEnd (mark ∷ rest)
bracket_ends mark rest h =
    record {
      first = mark;
      others = rest;
      are = refl;
      assigns = rw h refl;
      increments = rw h refl;
      decrements = rw h refl;
      stops = record { goes = rw h refl; equals = rw h refl; shifts = rw h refl };
    }

-- what nothing can be read of stops
record IsStopped {A : Type 0} (look : Try A) : Type 0 where
  reach : Option FarthestFailure
  is : look ≡ Stops reach

stopped : {A : Type 0} (P : A → List Token → Type 0) (look : Try A) → Sound P look → ((a : A) (rest : List Token) → P a rest → ⊥) → IsStopped look
stopped P (Reads a (At at limit rest) reach) h none = absurd (none a rest h)
stopped P (Stops reach) h none = record { reach = reach; is = refl }

module _ {A : Type 0} (of_a_local : LocalTree → A) (of_a_simple : SimpleTree → A) (around : Nesting) where
  abbrev locals : Reader LocalTree
  locals reach place = up_to (is_sign ";") (local_in around reach place)

  abbrev simples : Reader SimpleTree
  simples reach place = up_to (is_sign ";") (simple_in around reach place)

  local_up : (semicolon : Token) {tokens rest : List Token} {local : LocalTree} → IsLocal tokens local (semicolon ∷ rest) → Is ";" semicolon
      → Comes locals tokens local (local_entries around local ++ plain ∷ []) rest
  local_up semicolon {rest = rest} l s =
      comes_up_to (is_sign ";") (local_in around) semicolon (rw s refl) (local_is around l (semicolon_stops semicolon rest s) (rw s refl))

  -- whether a local alone is tried, or a simple statement too
  local_by : (b : Bool) (at : ℕ) (limit : Option Told) (reach : Option FarthestFailure) (tokens : List Token) (local : LocalTree) (place : Cursor) (reach' : Option FarthestFailure)
      → locals reach (At at limit tokens) ≡ Reads local place reach' → either_by b of_a_local of_a_simple around reach (At at limit tokens) ≡ Reads (of_a_local local) place reach'
  local_by true at limit reach tokens local place reach' is = ap (try_as of_a_local) is
  local_by false at limit reach tokens local place reach' is = ap (λ look. or_else (simple_up_to of_a_simple around) (At at limit tokens) (try_as of_a_local look)) is

  either_local : (semicolon : Token) {tokens rest : List Token} {local : LocalTree} → IsLocal tokens local (semicolon ∷ rest) → Is ";" semicolon
      → Comes (either_in of_a_local of_a_simple around) tokens (of_a_local local) (local_entries around local ++ plain ∷ []) rest
  either_local semicolon {tokens = tokens} {rest = rest} {local = local} l s =
      record {
        comes = λ at limit reach.
            let g = (local_up semicolon l s).comes at limit reach in
            record {
              at = g.at;
              limit = g.limit;
              reach = g.reach;
              is = local_by (declares around (At at limit tokens)) at limit reach tokens local (At g.at g.limit rest) g.reach g.is;
              passes = g.passes;
            };
      }

  no_local : (at : ℕ) (limit : Option Told) (tokens : List Token) (reach : Option FarthestFailure) → NoLocal tokens → IsStopped (locals reach (At at limit tokens))
  no_local at limit tokens reach none =
      stopped (UpTo (IsLocal tokens) (is_sign ";")) (locals reach (At at limit tokens))
      (sound_up_to (IsLocal tokens) (is_sign ";") (local_in around reach (At at limit tokens)) (local_sound around at limit tokens reach))
      (λ local rest u. none local u.mark rest u.part (is_sign-true ";" (symbol u.mark) u.passes))

  either_simple : (semicolon : Token) {tokens rest : List Token} {simple : SimpleTree} → IsSimple tokens simple (semicolon ∷ rest) → Is ";" semicolon → NoLocal tokens
      → Comes (either_in of_a_local of_a_simple around) tokens (of_a_simple simple) (simple_entries around simple ++ plain ∷ []) rest
  either_simple semicolon {tokens = tokens} {rest = rest} {simple = simple} p s none =
      let c = comes_as of_a_simple simples (comes_up_to (is_sign ";") (simple_in around) semicolon (rw s refl) (simple_is around p (semicolon_ends semicolon rest s))) in
      record {
        comes = λ at limit reach.
            let n = no_local at limit tokens reach none in
            let g = c.comes at limit n.reach in
            record {
              at = g.at;
              limit = g.limit;
              reach = g.reach;
              is = ap (λ b. either_by b of_a_local of_a_simple around reach (At at limit tokens)) (simple_declares around at limit semicolon p s none)
                  ∙ ap (λ look. or_else (simple_up_to of_a_simple around) (At at limit tokens) (try_as of_a_local look)) n.is ∙ g.is;
              passes = g.passes;
            };
      }

-- heads of loops
abbrev no_start : Token → Reader StartTree
no_start semicolon reach place = Reads tree.NoStart place reach

start_is : (around : Nesting) {tokens rest : List Token} {start : StartTree} → IsStart tokens start rest → Comes (start_in around) tokens start (start_entries around start) rest
start_is around (without_start {semicolon = s} {rest = rest} h) =
    comes_yes (is_sign ";") plain no_start (either_in tree.LocalStart tree.SimpleStart around) s (rw h refl) (comes_end tree.NoStart rest)
start_is around (with_local {semicolon = s} l h) =
    comes_no (is_sign ";") plain no_start (either_in tree.LocalStart tree.SimpleStart around) (headed_not begins_plain ";" refl (local_head l))
    (either_local tree.LocalStart tree.SimpleStart around s l h)
start_is around (with_simple {semicolon = s} p h none) =
    comes_no (is_sign ";") plain no_start (either_in tree.LocalStart tree.SimpleStart around) (headed_not begins_plain ";" refl (simple_head p))
    (either_simple tree.LocalStart tree.SimpleStart around s p h none)

abbrev no_expr : Token → Reader (Option ExprTree)
no_expr semicolon reach place = Reads None place reach

abbrev some_expr : Nesting → Reader (Option ExprTree)
some_expr around reach place = try_as Some (up_to (is_sign ";") (expr_in false around reach place))

maybe_expr_is : (around : Nesting) {tokens rest : List Token} {value : Option ExprTree} → MayBeExpr tokens value rest → Comes (maybe_expr_in around) tokens value (maybe_expr_entries around value) rest
maybe_expr_is around (without_expr {semicolon = s} {rest = rest} h) = comes_yes (is_sign ";") plain no_expr (some_expr around) s (rw h refl) (comes_end None rest)
maybe_expr_is around (with_expr {semicolon = s} {rest = rest} e h) =
    comes_no (is_sign ";") plain no_expr (some_expr around) (headed_not begins_expr ";" refl (expr_head e))
    (comes_as Some (λ reach place. up_to (is_sign ";") (expr_in false around reach place))
    (comes_up_to (is_sign ";") (expr_in false around) s (rw h refl) (expr_is false around e (rw h refl) (rw h refl))))

abbrev no_simple : Token → Reader (Option SimpleTree)
no_simple closing reach place = Reads None place reach

abbrev some_simple : Nesting → Reader (Option SimpleTree)
some_simple around reach place = try_as Some (up_to (is_sign ")") (simple_in around reach place))

maybe_simple_is : (around : Nesting) {tokens rest : List Token} {step : Option SimpleTree} → MayBeSimple tokens step rest → Comes (maybe_simple_in around) tokens step (maybe_simple_entries around step) rest
maybe_simple_is around (without_simple {closing = c} {rest = rest} h) = comes_yes (is_sign ")") plain no_simple (some_simple around) c (rw h refl) (comes_end None rest)
maybe_simple_is around (with_step {closing = c} {rest = rest} p h) =
    comes_no (is_sign ")") plain no_simple (some_simple around) (headed_not begins_plain ")" refl (simple_head p))
    (comes_as Some (λ reach place. up_to (is_sign ")") (simple_in around reach place))
    (comes_up_to (is_sign ")") (simple_in around) c (rw h refl) (simple_is around p (bracket_ends c rest h))))

condition_is : (around : Nesting) {tokens rest : List Token} {condition : ExprTree} → IsCondition tokens condition rest → Comes (condition_in around) tokens condition (condition_entries around condition) rest
condition_is around (of_brackets {opening = o} {closing = c} b e h) =
    let inside = in_bracket around in
    comes_yes (is_sign "(") (opens inside.brackets) (λ opening reach place. up_to (is_sign ")") (expr_in false inside reach place)) refused o (rw b refl)
    (comes_up_to (is_sign ")") (expr_in false inside) c (rw h refl) (expr_is false inside e (rw h refl) (rw h refl)))

-- statements behind words
body_is : (around : Nesting) (stmt : Nesting → Reader StmtTree) {tokens rest : List Token} {body : StmtTree} → IsStmt tokens body rest
    → Comes (stmt (in_statement around)) tokens body (stmt_entries (in_statement around) body) rest
    → Comes (body_in around stmt) tokens body (led_by (opens (in_statement around).statements) (stmt_entries (in_statement around) body)) rest
body_is around stmt {tokens = []} {body = body} s c =
    let inside = in_statement around in
    let e = stmt_led inside body in
    absurd (omega (arith, stmt_covered inside s, ap length e.are))
body_is around stmt {tokens = token ∷ tokens} {body = body} s c =
    let inside = in_statement around in
    record {
      comes = λ at limit reach.
          let g = c.comes at (noted limit (opens inside.statements) at token) reach in
          record {
            at = g.at;
            limit = g.limit;
            reach = g.reach;
            is = g.is;
            passes = λ h.
                led_passes (stmt_entries inside body) (opens inside.statements) at limit token tokens (stmt_led inside body) (opens_shallow inside.statements)
                ∙ g.passes (noted_stays limit (opens inside.statements) at token h);
          };
    }

-- the words with which statements begin
not_plain : (opening : Opening) → begins_plain (Sign (codes (opening_text opening))) ≡ false
not_plain Brace = refl
not_plain Semicolon = refl
not_plain Return = refl
not_plain Break = refl
not_plain Continue = refl
not_plain If = refl
not_plain While = refl
not_plain For = refl

no_opening_by : (found : Option Opening) (s : Symbol) → sign_of opening_text openings s ≡ found → begins_plain s ≡ true → found ≡ None
no_opening_by None s is h = refl
no_opening_by (Some opening) s is h = absurd (false≢true (sym (not_plain opening) ∙ ap begins_plain (sym (sign_of-some opening_text openings s opening is)) ∙ h))

no_opening : (s : Symbol) → begins_plain s ≡ true → sign_of opening_text openings s ≡ None
no_opening s h = no_opening_by (sign_of opening_text openings s) s refl h

not_else : (rest : List Token) → begins_with "else" rest ≡ false → starts (is_sign "else") rest ≡ false
not_else [] h = refl
not_else (token ∷ tokens) h = h

-- statements in a block
abbrev no_stmt : Reader StmtTree → ℕ → Token → Reader StmtTrees
no_stmt stmt many closing reach place = Reads NoStmts place reach

abbrev more_behind : Reader StmtTree → ℕ → StmtTree → Reader StmtTrees
more_behind stmt many first reach place = try_as (MoreStmts first) (stmts_in stmt many reach place)

abbrev some_stmts : Reader StmtTree → ℕ → Reader StmtTrees
some_stmts stmt many reach place = try_then (more_behind stmt many) (stmt reach place)

head_not_closing : {tokens : List Token} → IsHeaded begins_plain tokens → starts (is_sign "}") tokens ≡ false
head_not_closing head = headed_not begins_plain "}" refl head

-- no statement begins with a closing brace
not_closing : {tokens rest : List Token} {stmt : StmtTree} → IsStmt tokens stmt rest → starts (is_sign "}") tokens ≡ false
not_closing (of_block h m) = rw h refl
not_closing (of_local l h) = head_not_closing (local_head l)
not_closing (of_simple p h none) = head_not_closing (simple_head p)
not_closing (of_nothing h) = rw h refl
not_closing (of_return h v) = rw h refl
not_closing (of_break h e) = rw h refl
not_closing (of_continue h e) = rw h refl
not_closing (of_if h c s none) = rw h refl
not_closing (of_if_else h c s e t) = rw h refl
not_closing (of_while h c s) = rw h refl
not_closing (of_for h b s c t p) = rw h refl

module _ (around : Nesting) (stmt : Nesting → Reader StmtTree) where
  opened_is : (opening : Opening) (token : Token) {tokens rest : List Token} {a : StmtTree} {entries : List Entry} → sign_of opening_text openings (symbol token) ≡ Some opening
      → Comes (behind_in around stmt opening token) tokens a entries rest → Comes (stmt_at around stmt) (token ∷ tokens) a (opening_entry around stmt opening ∷ entries) rest
  opened_is opening token {tokens = tokens} is c =
      record {
        comes = λ at limit reach.
            let entry = opening_entry around stmt opening in
            let g = c.comes (suc at) (noted limit entry at token) reach in
            record {
              at = g.at;
              limit = g.limit;
              reach = g.reach;
              is = ap (λ found. stmt_by around stmt found reach token (At at limit (token ∷ tokens))) is ∙ g.is;
              passes = λ h. g.passes (noted_later (noted limit entry at token) at (noted_stays limit entry at token h));
            };
      }

  plain_at : (token : Token) {tokens rest : List Token} {a : StmtTree} {entries : List Entry} → begins_plain (symbol token) ≡ true
      → Comes (either_in tree.Local tree.Simple around) (token ∷ tokens) a entries rest → Comes (stmt_at around stmt) (token ∷ tokens) a entries rest
  plain_at token {tokens = tokens} h c =
      record {
        comes = λ at limit reach.
            let g = c.comes at limit reach in
            record {
              at = g.at;
              limit = g.limit;
              reach = g.reach;
              is = ap (λ found. stmt_by around stmt found reach token (At at limit (token ∷ tokens))) (no_opening (symbol token) h) ∙ g.is;
              passes = g.passes;
            };
      }

  plain_is : {tokens rest : List Token} {a : StmtTree} {entries : List Entry} → IsHeaded begins_plain tokens
      → Comes (either_in tree.Local tree.Simple around) tokens a entries rest → Comes (stmt_at around stmt) tokens a entries rest
  plain_is {rest = rest} {a = a} {entries = entries} head c =
      subst (λ ts. Comes (stmt_at around stmt) ts a entries rest) (sym head.are)
      (plain_at head.token head.passes (subst (λ ts. Comes (either_in tree.Local tree.Simple around) ts a entries rest) head.are c))

  abbrev else_body : Token → ExprTree → StmtTree → Token → Reader StmtTree
  else_body word condition yes' otherwise reach place = try_as (tree.IfElse word condition yes') (body_in around stmt reach place)

  abbrev no_else : Token → ExprTree → StmtTree → Reader StmtTree
  no_else word condition yes' reach place = Reads (tree.If word condition yes') place reach

  abbrev if_behind : Token → ExprTree → Reader StmtTree
  if_behind word condition reach place = try_then (else_in around stmt word condition) (body_in around stmt reach place)

  abbrev while_behind : Token → ExprTree → Reader StmtTree
  while_behind word condition reach place = try_as (tree.While word condition) (body_in around stmt reach place)

  abbrev for_last : Token → StartTree → Option ExprTree → Option SimpleTree → Reader StmtTree
  for_last word start condition step reach place = try_as (tree.For word start condition step) (body_in around stmt reach place)

  abbrev for_third : Token → StartTree → Option ExprTree → Reader StmtTree
  for_third word start condition reach place = try_then (for_last word start condition) (maybe_simple_in (in_bracket around) reach place)

  abbrev for_second : Token → StartTree → Reader StmtTree
  for_second word start reach place = try_then (for_third word start) (maybe_expr_in (in_bracket around) reach place)

  abbrev for_first : Token → Token → Reader StmtTree
  for_first word opening reach place = try_then (for_second word) (start_in (in_bracket around) reach place)

-- a statement is read in as many turns as it has tokens
at_turns : {tokens rest : List Token} {stmt : StmtTree} (around : Nesting) → IsStmt tokens stmt rest
    → ((turns : ℕ) → length tokens ≤ suc turns → Comes (stmt_in (suc turns) around) tokens stmt (stmt_entries around stmt) rest)
    → (turns : ℕ) → length tokens ≤ turns → Comes (stmt_in turns around) tokens stmt (stmt_entries around stmt) rest
at_turns {stmt = stmt} around s f zero few = absurd (omega (arith, few, stmt_covered around s, ap length (stmt_led around stmt).are))
at_turns around s f (suc turns) few = f turns few

at_many : {tokens rest : List Token} {stmts : StmtTrees} (around : Nesting) (turns : ℕ) → AreStmts tokens stmts rest
    → ((many : ℕ) → length tokens ≤ many → Comes (stmts_in (stmt_in turns around) (suc many)) tokens stmts (stmts_entries around stmts) rest)
    → (many : ℕ) → length tokens < many → Comes (stmts_in (stmt_in turns around) many) tokens stmts (stmts_entries around stmts) rest
at_many around turns m f zero short = absurd (omega (arith, short))
at_many around turns m f (suc many) short = f many (omega (arith, short))

mutual
  stmt_turns : {tokens rest : List Token} {stmt : StmtTree} → IsStmt tokens stmt rest → (around : Nesting) (turns : ℕ) → length tokens ≤ suc turns
      → Comes (stmt_in (suc turns) around) tokens stmt (stmt_entries around stmt) rest
  stmt_turns (of_block {opening = o} {tokens = tokens} h m) around turns few =
      opened_is around (stmt_in turns) Brace o (rw h refl)
      (comes_as (tree.Block o) (λ reach place. stmts_in (stmt_in turns (in_block around)) (suc (length (ahead place))) reach place)
      (comes_ahead (stmts_in (stmt_in turns (in_block around))) (stmts_turns m (in_block around) turns (length tokens) (omega (arith, few)) (le_refl (length tokens)))))
  stmt_turns (of_local {semicolon = s} l h) around turns few =
      plain_is around (stmt_in turns) (local_head l) (either_local tree.Local tree.Simple around s l h)
  stmt_turns (of_simple {semicolon = s} p h none) around turns few =
      plain_is around (stmt_in turns) (simple_head p) (either_simple tree.Local tree.Simple around s p h none)
  stmt_turns (of_nothing {semicolon = s} {rest = rest} h) around turns few =
      opened_is around (stmt_in turns) Semicolon s (rw h refl) (comes_end (tree.Empty s) rest)
  stmt_turns (of_return {word = w} h v) around turns few =
      opened_is around (stmt_in turns) Return w (rw h refl) (comes_as (tree.Return w) (maybe_expr_in around) (maybe_expr_is around v))
  stmt_turns (of_break {word = w} {semicolon = s} {rest = rest} h e) around turns few =
      opened_is around (stmt_in turns) Break w (rw h refl)
      (comes_yes (is_sign ";") plain (λ semicolon reach place. Reads (tree.Break w) place reach) refused s (rw e refl) (comes_end (tree.Break w) rest))
  stmt_turns (of_continue {word = w} {semicolon = s} {rest = rest} h e) around turns few =
      opened_is around (stmt_in turns) Continue w (rw h refl)
      (comes_yes (is_sign ";") plain (λ semicolon reach place. Reads (tree.Continue w) place reach) refused s (rw e refl) (comes_end (tree.Continue w) rest))
  stmt_turns (of_if {word = w} {tokens = tokens} {behind = behind} {rest = rest} {condition = condition} {yes' = yes'} h c s none) around turns few =
      let inside = in_statement around in
      let body = led_by (opens inside.statements) (stmt_entries inside yes') in
      let head = condition_is around c in
      opened_is around (stmt_in turns) If w (rw h refl)
      (comes_with (if_in around (stmt_in turns) w) (condition_entries around condition ++ (body ++ [])) (condition_entries around condition ++ body)
      (ap (λ es. condition_entries around condition ++ es) (append-nil body))
      (comes_then (if_behind around (stmt_in turns) w) (condition_in around) head
      (comes_then (else_in around (stmt_in turns) w condition) (body_in around (stmt_in turns))
      (body_is around (stmt_in turns) s (at_turns inside s (λ turns few. stmt_turns s inside turns few) turns (omega (arith, few, comes_shorter head))))
      (comes_no (is_sign "else") plain (else_body around (stmt_in turns) w condition yes') (no_else around (stmt_in turns) w condition yes') (not_else rest none)
      (comes_end (tree.If w condition yes') rest)))))
  stmt_turns (of_if_else {word = w} {otherwise = o} {behind = behind} {after = after} {rest = rest} {condition = condition} {yes' = yes'} {no' = no'} h c s e t) around turns few =
      let inside = in_statement around in
      let head = condition_is around c in
      let first = at_turns inside s (λ turns few. stmt_turns s inside turns few) turns (omega (arith, few, comes_shorter head)) in
      opened_is around (stmt_in turns) If w (rw h refl)
      (comes_then (if_behind around (stmt_in turns) w) (condition_in around) head
      (comes_then (else_in around (stmt_in turns) w condition) (body_in around (stmt_in turns)) (body_is around (stmt_in turns) s first)
      (comes_yes (is_sign "else") plain (else_body around (stmt_in turns) w condition yes') (no_else around (stmt_in turns) w condition yes') o (rw e refl)
      (comes_as (tree.IfElse w condition yes') (body_in around (stmt_in turns))
      (body_is around (stmt_in turns) t (at_turns inside t (λ turns few. stmt_turns t inside turns few) turns (omega (arith, few, comes_shorter head, comes_shorter first))))))))
  stmt_turns (of_while {word = w} {behind = behind} {condition = condition} h c s) around turns few =
      let head = condition_is around c in
      opened_is around (stmt_in turns) While w (rw h refl)
      (comes_then (while_behind around (stmt_in turns) w) (condition_in around) head
      (comes_as (tree.While w condition) (body_in around (stmt_in turns))
      (body_is around (stmt_in turns) s (at_turns (in_statement around) s (λ turns few. stmt_turns s (in_statement around) turns few) turns (omega (arith, few, comes_shorter head))))))
  stmt_turns (of_for {word = w} {opening = o} {start = start} {condition = condition} {step = step} h b s c t p) around turns few =
      let bracket = in_bracket around in
      let first = start_is bracket s in
      let second = maybe_expr_is bracket c in
      let third = maybe_simple_is bracket t in
      opened_is around (stmt_in turns) For w (rw h refl)
      (comes_yes (is_sign "(") (opens bracket.brackets) (for_first around (stmt_in turns) w) refused o (rw b refl)
      (comes_then (for_second around (stmt_in turns) w) (start_in bracket) first
      (comes_then (for_third around (stmt_in turns) w start) (maybe_expr_in bracket) second
      (comes_then (for_last around (stmt_in turns) w start condition) (maybe_simple_in bracket) third
      (comes_as (tree.For w start condition step) (body_in around (stmt_in turns))
      (body_is around (stmt_in turns) p (at_turns (in_statement around) p (λ turns few. stmt_turns p (in_statement around) turns few) turns
      (omega (arith, few, comes_shorter first, comes_shorter second, comes_shorter third)))))))))

  stmts_turns : {tokens rest : List Token} {stmts : StmtTrees} → AreStmts tokens stmts rest → (around : Nesting) (turns many : ℕ) → length tokens ≤ turns → length tokens ≤ many
      → Comes (stmts_in (stmt_in turns around) (suc many)) tokens stmts (stmts_entries around stmts) rest
  stmts_turns (no_stmts {closing = c} {rest = rest} h) around turns many few short =
      comes_yes (is_sign "}") plain (no_stmt (stmt_in turns around) many) (some_stmts (stmt_in turns around) many) c (rw h refl) (comes_end NoStmts rest)
  stmts_turns (more_stmts {tokens = tokens} {behind = behind} {rest = rest} {stmt = stmt} {stmts = stmts} s m) around turns many few short =
      comes_no (is_sign "}") plain (no_stmt (stmt_in turns around) many) (some_stmts (stmt_in turns around) many) (not_closing s)
      (comes_then (more_behind (stmt_in turns around) many) (stmt_in turns around) (at_turns around s (λ turns few. stmt_turns s around turns few) turns few)
      (comes_as (MoreStmts stmt) (stmts_in (stmt_in turns around) many)
      (at_many around turns m (λ many short. stmts_turns m around turns many (omega (arith, few, stmt_covered around s)) short) many
      (omega (arith, short, stmt_covered around s, ap length (stmt_led around stmt).are)))))

pub stmt_is : {tokens rest : List Token} {stmt : StmtTree} → IsStmt tokens stmt rest → (around : Nesting) (turns : ℕ) → length tokens ≤ turns
    → Comes (stmt_in turns around) tokens stmt (stmt_entries around stmt) rest
stmt_is s around turns few = at_turns around s (λ turns few. stmt_turns s around turns few) turns few

pub stmts_are : {tokens rest : List Token} {stmts : StmtTrees} → AreStmts tokens stmts rest → (around : Nesting) (turns many : ℕ) → length tokens ≤ turns → length tokens ≤ many
    → Comes (stmts_in (stmt_in turns around) (suc many)) tokens stmts (stmts_entries around stmts) rest
stmts_are m around turns many few short = stmts_turns m around turns many few short
