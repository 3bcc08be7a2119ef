-- The reader of statements: what it reads, and where the ways that it notes come from.
use Rattle.std.proofs.Common.{◌≡◌, inl, inr, ⊎_elim, ℕ, zero, suc, ◌+◌, false, List, [], ◌∷◌, ◌++◌, length, refl, sym, ap, subst, ◌∙◌, codes, arith, append-nil}
use Rattle.std.specs.Prelude.{Option, Some, None, nat_lt}
use Rattle.std.proofs.lemmas.Bool.Decides.{nat_tests}
use Rattle.def_token.specs.Lexical.{Token}
use Rattle.def_tree.specs.ExprTree.{ExprTree}
use Rattle.def_tree.specs.Limits.{Nesting, Entry, plain, opens, first_of, led_by, in_bracket, in_block, in_statement, start_entries, maybe_expr_entries, maybe_simple_entries, condition_entries, stmt_entries, stmts_entries}
use Rattle.def_tree.specs.Statements.{begins_with, IsLocal, of_type, of_const, of_binding, IsSimple, of_assignment, of_postfix_step, of_prefix_step, of_call_statement, without_start, without_expr, without_simple, IsStmt, of_block, of_local, of_simple, of_nothing, of_return, of_break, of_continue, of_if, of_if_else, of_while, of_for, AreStmts, no_stmts, more_stmts}
use Rattle.def_tree.specs.Operator.{Increment, Decrement}
use Rattle.def_tree.specs.StmtTree as tree
use Rattle.def_tree.specs.StmtTree.{Binding, Let, Var, LocalTree, SimpleTree, StartTree, StmtTree, StmtTrees, NoStmts, MoreStmts}
use Rattle.def_tree.specs.Symbol.{End, symbol, is_sign, Is}
use Rattle.law_tree.proofs.Heads.{begins_type, type_head, begins_expr, expr_head}
use Rattle.law_tree.proofs.Symbols.{is_sign-true}
use Rattle.def_reading.specs.Machine.{sign_of}
use Rattle.def_reading.specs.Cursor.{Told, At, noted, FarthestFailure}
use Rattle.def_reading.specs.StmtReading.{start_in, maybe_expr_in, maybe_simple_in, condition_in, Opening, Brace, Semicolon, Return, Break, Continue, If, While, For, opening_text, openings, stmts_in, ended_in, body_in, block_in, else_in, if_in, while_in, for_in, behind_in, opening_entry, stmt_by, stmt_at, stmt_in}
use Rattle.def_reading.specs.Try.{Try, Reads, Stops, Reader, try_then, try_as}
use Rattle.def_reading.specs.TypeReading.{Ended}
use Rattle.law_stmts.proofs.ExprTraces.{starts_is}
use Rattle.law_stmts.proofs.HeadTraced.{Starts, MaybeExprs, MaybeSimples, Conditions, traces_either, traces_start, traces_maybe_expr, traces_maybe_simple, traces_condition}
use Rattle.law_stmts.proofs.Leads.{IsLed, Shallow, opens_shallow, noted_twice, stmt_led, led_passes}
use Rattle.law_stmts.proofs.LocalComes.{headed_not}
use Rattle.law_stmts.proofs.LocalTraced.{mark}
use Rattle.law_machine.proofs.MachineGood.{Placed, placed_token, stands_here, noted_stands}
use Rattle.law_machine.proofs.MachineKinds.{sign_no_end}
use Rattle.law_machine.proofs.MachineSigns.{sign_of-some}
use Rattle.law_exprs.proofs.Quiet.{NoElse}
use Rattle.law_types.proofs.Stopping.{ended_behind}
use Rattle.law_exprs.proofs.TryComes.{Noted, noted_stays, noted_later, starts}
use Rattle.law_exprs.proofs.TryTraces.{Language, Class, Any, Free, Suffix, After, Origin, Traced, Traces, traced_then, traced_as, traced_for, traced_choice, traced_token, traced_refused, traced_end, traced_head, traced_after, spot_by, spot_cons}

-- tokens that do not begin with `else`
abbrev pub Calm : Class
Calm rest = begins_with "else" rest ≡ false

-- statements begin with no `else`
calm_by : (ts : List Token) → starts (is_sign "else") ts ≡ false → Calm ts
calm_by ts h = sym (starts_is "else" ts) ∙ h

-- no local begins with `else`
local_calm : {ts rest : List Token} {local : LocalTree} → IsLocal ts local rest → Calm ts
local_calm {ts = ts} (of_type t d) = calm_by ts (headed_not begins_type "else" refl (type_head t))
local_calm (of_const h t d) = ap (is_sign "else") h
local_calm (of_binding {binding = Let} h n t e v) = ap (is_sign "else") h
local_calm (of_binding {binding = Var} h n t e v) = ap (is_sign "else") h

-- no simple statement begins with `else`
simple_calm : {ts rest : List Token} {simple : SimpleTree} → IsSimple ts simple rest → Calm ts
simple_calm {ts = ts} (of_assignment p sign v) = calm_by ts (headed_not begins_expr "else" refl (expr_head p))
simple_calm {ts = ts} (of_postfix_step p h) = calm_by ts (headed_not begins_expr "else" refl (expr_head p))
simple_calm (of_prefix_step {step = Increment} h p) = ap (is_sign "else") h
simple_calm (of_prefix_step {step = Decrement} h p) = ap (is_sign "else") h
simple_calm {ts = ts} (of_call_statement p c) = calm_by ts (headed_not begins_expr "else" refl (expr_head p))

-- no statement begins with `else`
stmt_calm : {ts rest : List Token} {stmt : StmtTree} → IsStmt ts stmt rest → Calm ts
stmt_calm (of_block h s) = ap (is_sign "else") h
stmt_calm (of_local l h) = local_calm l
stmt_calm (of_simple p h out) = simple_calm p
stmt_calm (of_nothing h) = ap (is_sign "else") h
stmt_calm (of_return h v) = ap (is_sign "else") h
stmt_calm (of_break h s) = ap (is_sign "else") h
stmt_calm (of_continue h s) = ap (is_sign "else") h
stmt_calm (of_if h c s e) = ap (is_sign "else") h
stmt_calm (of_if_else h c s e t) = ap (is_sign "else") h
stmt_calm (of_while h c s) = ap (is_sign "else") h
stmt_calm (of_for h o s c t b) = ap (is_sign "else") h

-- the languages of statements
abbrev pub Stmts : Nesting → Language StmtTree
Stmts around tokens stmt es rest = IsStmt tokens stmt rest × (es ≡ stmt_entries around stmt)

-- statements up to a closing brace
abbrev pub Blocks : Nesting → Language StmtTrees
Blocks around tokens stmts es rest = AreStmts tokens stmts rest × (es ≡ stmts_entries around stmts)

-- statements whose first token opens more than themselves
record IsBody (around : Nesting) (tokens : List Token) (stmt : StmtTree) (es : List Entry) (rest : List Token) : Type 0 where
  stmt' : IsStmt tokens stmt rest
  entries_are : es ≡ led_by (opens (in_statement around).statements) (stmt_entries (in_statement around) stmt)

-- what opens more at the first token adds no entry
led_length : (e : Entry) (es : List Entry) → length (led_by e es) ≡ length es
led_length e [] = refl
led_length e (first ∷ es) = refl

-- before the first token no limit is told of it
spot_here : (limit : Option Told) (e : Entry) (at : ℕ) (t : Token) (es others : List Entry) → spot_by limit at zero es ≡ spot_by (noted limit e at t) at zero others
spot_here None None at t es others = refl
spot_here None (Some l) at t es others = let no : nat_lt at (at + 0) ≡ false = grind (arith, nat_tests) in rw no (ap (λ n. record { at = n; code = 110 }) (omega arith))
spot_here (Some told) None at t es others = refl
spot_here (Some told) (Some l) at t es others = refl

-- the spot of entries whose first token opens more, from the place where this is noted
led_spot : (limit : Option Told) (e : Entry) (at : ℕ) (t : Token) (many : ℕ) (es : List Entry) → IsLed es → Shallow e → spot_by limit at many (led_by e es) ≡ spot_by (noted limit e at t) at many es
led_spot limit e at t zero es l h = spot_here limit e at t (led_by e es) es
led_spot limit e at t (suc many) es l h =
    ap (λ es. spot_by limit at (suc many) (led_by e es)) l.are
    ∙ spot_cons limit at many (first_of l.first e) l.more t ∙ ap (λ limit. spot_by limit (suc at) many l.more) (noted_twice limit l.first e at t l.shallow h)
    ∙ sym (spot_cons (noted limit e at t) at many l.first l.more t) ∙ ap (λ es. spot_by (noted limit e at t) at (suc many) es) (sym l.are)

-- a semicolon that touches nothing
abbrev semicolon : Token
semicolon = mark ";"

-- these signs are no end
opening_end : (opening : Opening) (t : Token) → Is (opening_text opening) t → symbol t ≡ End → ⊥
opening_end opening t h e = sign_no_end t (codes (opening_text opening)) h e

-- an empty statement
empty_stmt : (rest : List Token) → IsStmt (semicolon ∷ rest) (tree.Empty semicolon) rest
empty_stmt rest = of_nothing refl

module _ (all : List Token) (around : Nesting) (stmt : Reader StmtTree) (traces : Traces all (Stmts around) Calm NoElse NoElse stmt) where
  -- statements in a block
  pub traces_stmts : (turns : ℕ) → Traces all (Blocks around) Any Free NoElse (stmts_in stmt turns)
  traces_stmts zero at limit tokens start b end n p =
      traced_refused all (Blocks around) Any Free NoElse start at limit tokens b p
      (record { tokens = mark "}" ∷ []; tree = NoStmts; entries = plain ∷ []; whole = λ rest h. (no_stmts refl, refl); before = λ rest h. tt }) (λ rest h k. refl)
  traces_stmts (suc turns) at limit tokens start b end n p =
      let Q = Blocks around in
      let more : Reader StmtTrees = λ reach place. try_then (λ first reach place. try_as (MoreStmts first) (stmts_in stmt turns reach place)) (stmt reach place) in
      traced_choice all Q Any Free Free NoElse (is_sign "}") plain (λ closing reach place. Reads NoStmts place reach) more refl (λ t one other h k c. c) start at limit tokens b end n p
      (λ t h at' limit' rest reach b end' n' p'. traced_end all (After t plain Q) Any Free Free NoStmts reach at' limit' rest b end' (λ other k. (no_stmts (is_sign-true "}" (symbol t) h), refl)) (λ other k. tt))
      (λ no'.
      traced_then all (Stmts around) Q Any Calm NoElse Free NoElse (λ first reach place. try_as (MoreStmts first) (stmts_in stmt turns reach place)) start at limit tokens b (stmt start (At at limit tokens)) n p
      (λ first.
      record {
        tokens = mark "}" ∷ [];
        tree = MoreStmts first NoStmts;
        entries = plain ∷ [];
        whole = λ rest h toks front q. (more_stmts q.0 (no_stmts refl), ap (λ es. es ++ plain ∷ []) q.1);
        before = λ rest h. refl;
      })
      (λ first at' limit' mid reach b end' n' p'.
      traced_as all (MoreStmts first) Q (Suffix (Stmts around) first Q) Any Free NoElse reach at' limit' mid b (stmts_in stmt turns reach (At at' limit' mid))
      (λ ts stmts es rest r toks front q. (more_stmts q.0 r.0, ap (λ front. front ++ es) q.1 ∙ ap (λ es. stmt_entries around first ++ es) r.1)) (traces_stmts turns at' limit' mid reach b end' n' p'))
      (traces at limit tokens start b end n p))

module _ (all : List Token) (around : Nesting) where
  -- statements behind heads
  abbrev Bodies : Language StmtTree
  Bodies tokens stmt es rest = IsBody around tokens stmt es rest

  -- what is open in a body
  abbrev inside : Nesting
  inside = in_statement around

  -- what ends at the first token of a body
  abbrev led : Entry
  led = opens inside.statements

  -- the entries of an empty body
  abbrev empty_body : List Entry
  empty_body = led_by led (plain ∷ [])

  -- the ways of a body
  body_origin : (at : ℕ) (limit : Option Told) (t : Token) (tokens : List Token) (start : Option FarthestFailure) (b : FarthestFailure) (reach : Option FarthestFailure) → Origin all (Stmts inside) Calm NoElse start at (noted limit led at t) (t ∷ tokens) b reach
      → Origin all Bodies Calm NoElse start at limit (t ∷ tokens) b reach
  body_origin at limit t tokens start b reach o is =
      ⊎_elim (λ h. inl h)
      (λ c.
      let es_are : c.entries ≡ stmt_entries inside c.tree = (c.whole [] refl).1 in
      inr (record {
        front = c.front;
        tail = c.tail;
        are = c.are;
        here = c.here;
        more = c.more;
        tree = c.tree;
        entries = led_by led c.entries;
        whole = λ rest h. let w = c.whole rest h in record { stmt' = w.0; entries_are = ap (led_by led) w.1 };
        room = omega (arith, c.room, led_length led c.entries);
        spot = led_spot limit led at t (length c.front) c.entries (subst IsLed (sym es_are) (stmt_led inside c.tree)) (opens_shallow inside.statements) ∙ c.spot;
        alike = c.alike;
        stands = c.stands;
      })) (o is)

  -- what is read as a body, from what is read as a statement
  body_by : (at : ℕ) (limit : Option Told) (t : Token) (tokens : List Token) (start : Option FarthestFailure) (b : FarthestFailure) (look : Try StmtTree) → Traced all (Stmts inside) Calm NoElse NoElse start at (noted limit led at t) (t ∷ tokens) b look
      → Traced all Bodies Calm NoElse NoElse start at limit (t ∷ tokens) b look
  body_by at limit t tokens start b (Reads stmt (At at' limit' rest) reach) (g, o) =
      let es_are : g.entries ≡ stmt_entries inside stmt = (g.stable rest (λ h. h)).1 in (
        record {
          entries = led_by led g.entries;
          piece = g.piece;
          are = g.are;
          stable = λ other h. let w = g.stable other h in record { stmt' = w.0; entries_are = ap (led_by led) w.1 };
          count = g.count ∙ sym (led_length led g.entries);
          passes = led_passes g.entries led at limit t tokens (subst IsLed (sym es_are) (stmt_led inside stmt)) (opens_shallow inside.statements) ∙ g.passes;
          end = g.end;
          alike = g.alike;
        },
        body_origin at limit t tokens start b reach o,
      )
  body_by at limit t tokens start b (Stops reach) o = body_origin at limit t tokens start b reach o

  module _ (stmt : Nesting → Reader StmtTree) (traces : (around : Nesting) → Traces all (Stmts around) Calm NoElse NoElse (stmt around)) where
    -- the reader of bodies
    traces_body : Traces all Bodies Calm NoElse NoElse (body_in around stmt)
    traces_body at limit [] start b end n p = absurd end
    traces_body at limit (t ∷ tokens) start b end n p =
        let p' : Placed all at (noted limit led at t) (t ∷ tokens) =
        record { front = p.front; are = p.are; is_at = p.is_at; stands = noted_stands all limit led at t (stands_here all at limit t tokens p) p.stands } in
        body_by at limit t tokens start b (stmt inside start (At at (noted limit led at t) (t ∷ tokens))) (traces inside at (noted limit led at t) (t ∷ tokens) start b end (noted_stays limit led at t n) p')

    -- a body, whatever stands where it begins
    traces_free : Traces all Bodies Calm NoElse Free (body_in around stmt)
    traces_free at limit tokens start b end n p =
        traced_for all Bodies Calm Calm NoElse NoElse NoElse Free (λ rest h. h) (λ rest other h. h) start at limit tokens b (body_in around stmt start (At at limit tokens)) (λ other h. tt) (traces_body at limit tokens start b end n p)

    -- conditions, with or without an other branch
    module _ (word : Token) (h : Is "if" word) where
      -- conditions behind their word
      abbrev IfAfter : Language StmtTree
      IfAfter = After word plain (Stmts around)

      -- what stands behind the condition in its brackets
      abbrev IfBehind : ExprTree → Language StmtTree
      IfBehind c = Suffix (Conditions around) c IfAfter

      -- an other branch, or none
      traces_else : (c : ExprTree) (yes' : StmtTree) → Traces all (Suffix Bodies yes' (IfBehind c)) Calm NoElse NoElse (else_in around stmt word c yes')
      traces_else c yes' at limit tokens start b end n p =
          let X = Suffix Bodies yes' (IfBehind c) in
          traced_choice all X Calm NoElse Free NoElse (is_sign "else") plain (λ otherwise reach place. try_as (tree.IfElse word c yes') (body_in around stmt reach place)) (λ reach place. Reads (tree.If word c yes') place reach) refl
          (λ t one other k f calm. calm) start at limit tokens b end n p
          (λ t k at' limit' rest reach b end' n' p'.
          traced_as all (tree.IfElse word c yes') Bodies (After t plain X) Calm NoElse Free reach at' limit' rest b (body_in around stmt reach (At at' limit' rest))
          (λ ts no' es rest r ts1 front q toks fr d. (
            of_if_else h d.0 q.stmt' (is_sign-true "else" (symbol t) k) r.stmt',
            ap (λ fr. plain ∷ (fr ++ (front ++ plain ∷ es))) d.1 ∙ ap (λ front. plain ∷ (condition_entries around c ++ (front ++ plain ∷ es))) q.entries_are
                ∙ ap (λ es. plain ∷ (condition_entries around c ++ (led_by led (stmt_entries inside yes') ++ plain ∷ es))) r.entries_are,
          )) (traces_free at' limit' rest reach b end' n' p'))
          (λ no'.
          traced_end all X Calm NoElse NoElse (tree.If word c yes') start at limit tokens b end
          (λ other k ts1 front q toks fr d. (
            of_if h d.0 q.stmt' (k (calm_by tokens no')),
            ap (λ front. plain ∷ (fr ++ front)) (append-nil front) ∙ ap (λ fr. plain ∷ (fr ++ front)) d.1 ∙ ap (λ front. plain ∷ (condition_entries around c ++ front)) q.entries_are,
          )) (λ other k. k))

      -- the condition, its branch and maybe an other one
      traces_if : Traces all IfAfter Calm NoElse Free (if_in around stmt word)
      traces_if at limit tokens start b end n p =
          traced_then all (Conditions around) IfAfter Calm Any Free NoElse Free (λ c reach place. try_then (else_in around stmt word c) (body_in around stmt reach place)) start at limit tokens b (condition_in around start (At at limit tokens)) n p
          (λ c.
          record {
            tokens = semicolon ∷ [];
            tree = tree.If word c (tree.Empty semicolon);
            entries = empty_body;
            whole = λ rest calm toks front q. (of_if h q.0 (empty_stmt rest) calm, ap (λ front. plain ∷ (front ++ empty_body)) q.1);
            before = λ rest k. tt;
          })
          (λ c at' limit' mid reach b end' n' p'.
          traced_then all Bodies (IfBehind c) Calm Calm NoElse NoElse Free (else_in around stmt word c) reach at' limit' mid b (body_in around stmt reach (At at' limit' mid)) n' p'
          (λ yes'.
          record {
            tokens = [];
            tree = tree.If word c yes';
            entries = [];
            whole = λ rest calm ts1 front q toks fr d. (
              of_if h d.0 q.stmt' calm,
              ap (λ front. plain ∷ (fr ++ front)) (append-nil front) ∙ ap (λ fr. plain ∷ (fr ++ front)) d.1 ∙ ap (λ front. plain ∷ (condition_entries around c ++ front)) q.entries_are,
            );
            before = λ rest calm. calm;
          })
          (traces_else c) (traces_free at' limit' mid reach b end' n' p'))
          (traces_condition all around at limit tokens start b end n p)

    -- `while`
    traces_while : (word : Token) → Is "while" word → Traces all (After word plain (Stmts around)) Calm NoElse Free (while_in around stmt word)
    traces_while word h at limit tokens start b end n p =
        let Q = After word plain (Stmts around) in
        traced_then all (Conditions around) Q Calm Any Free NoElse Free (λ c reach place. try_as (tree.While word c) (body_in around stmt reach place)) start at limit tokens b (condition_in around start (At at limit tokens)) n p
        (λ c.
        record {
          tokens = semicolon ∷ [];
          tree = tree.While word c (tree.Empty semicolon);
          entries = empty_body;
          whole = λ rest calm toks front q. (of_while h q.0 (empty_stmt rest), ap (λ front. plain ∷ (front ++ empty_body)) q.1);
          before = λ rest k. tt;
        })
        (λ c at' limit' mid reach b end' n' p'.
        traced_as all (tree.While word c) Bodies (Suffix (Conditions around) c Q) Calm NoElse Free reach at' limit' mid b (body_in around stmt reach (At at' limit' mid))
        (λ ts body es rest r toks front q. (of_while h q.0 r.stmt', ap (λ front. plain ∷ (front ++ es)) q.1 ∙ ap (λ es. plain ∷ (condition_entries around c ++ es)) r.entries_are)) (traces_free at' limit' mid reach b end' n' p'))
        (traces_condition all around at limit tokens start b end n p)

    -- `for`
    module _ (word : Token) (h : Is "for" word) where
      -- what is open in its brackets
      abbrev bracket : Nesting
      bracket = in_bracket around

      -- loops behind their word and bracket
      abbrev ForAfter : Token → Language StmtTree
      ForAfter opening = After opening (opens bracket.brackets) (After word plain (Stmts around))

      -- a whole loop, from its parts
      for_is : (opening : Token) → Is "(" opening → (tokens second third behind rest : List Token) (start : StartTree) (c : Option ExprTree) (step : Option SimpleTree) (body : StmtTree) (es1 es2 es3 es4 : List Entry)
          → Starts bracket tokens start es1 second → MaybeExprs bracket second c es2 third → MaybeSimples bracket third step es3 behind → IsBody around behind body es4 rest
          → ForAfter opening tokens (tree.For word start c step body) (es1 ++ (es2 ++ (es3 ++ es4))) rest
      for_is opening o tokens second third behind rest start c step body es1 es2 es3 es4 p q r s = (
        of_for h o p.0 q.0 r.0 s.stmt',
        ap (λ es1. plain ∷ opens bracket.brackets ∷ (es1 ++ (es2 ++ (es3 ++ es4)))) p.1
            ∙ ap (λ es2. plain ∷ opens bracket.brackets ∷ (start_entries bracket start ++ (es2 ++ (es3 ++ es4)))) q.1
            ∙ ap (λ es3. plain ∷ opens bracket.brackets ∷ (start_entries bracket start ++ (maybe_expr_entries bracket c ++ (es3 ++ es4)))) r.1
            ∙ ap (λ es4. plain ∷ opens bracket.brackets ∷ (start_entries bracket start ++ (maybe_expr_entries bracket c ++ (maybe_simple_entries bracket step ++ es4)))) s.entries_are,
      )

      -- an empty body
      empty_is : (rest : List Token) → IsBody around (semicolon ∷ rest) (tree.Empty semicolon) empty_body rest
      empty_is rest = record { stmt' = empty_stmt rest; entries_are = refl }

      -- no step
      no_step : (rest : List Token) → MaybeSimples bracket (mark ")" ∷ rest) None (plain ∷ []) rest
      no_step rest = (without_simple refl, refl)

      -- no condition
      no_expr : (rest : List Token) → MaybeExprs bracket (semicolon ∷ rest) None (plain ∷ []) rest
      no_expr rest = (without_expr refl, refl)

      -- nothing to begin with
      no_start : (rest : List Token) → Starts bracket (semicolon ∷ rest) tree.NoStart (plain ∷ []) rest
      no_start rest = (without_start refl, refl)

      -- the step and the body
      traces_step : (opening : Token) → Is "(" opening → (start : StartTree) (c : Option ExprTree)
          → Traces all (Suffix (MaybeExprs bracket) c (Suffix (Starts bracket) start (ForAfter opening))) Calm NoElse Free
          (λ reach place. try_then (λ step reach place. try_as (tree.For word start c step) (body_in around stmt reach place)) (maybe_simple_in bracket reach place))
      traces_step opening o start c at limit tokens first b end n p =
          let X = Suffix (MaybeExprs bracket) c (Suffix (Starts bracket) start (ForAfter opening)) in
          traced_then all (MaybeSimples bracket) X Calm Any Free NoElse Free (λ step reach place. try_as (tree.For word start c step) (body_in around stmt reach place)) first at limit tokens b (maybe_simple_in bracket first (At at limit tokens)) n p
          (λ step.
          record {
            tokens = semicolon ∷ [];
            tree = tree.For word start c step (tree.Empty semicolon);
            entries = empty_body;
            whole = λ rest calm ts3 es3 r ts2 es2 q ts1 es1 s. for_is opening o ts1 ts2 ts3 (semicolon ∷ rest) rest start c step (tree.Empty semicolon) es1 es2 es3 empty_body s q r (empty_is rest);
            before = λ rest k. tt;
          })
          (λ step at' limit' mid reach b end' n' p'.
          traced_as all (tree.For word start c step) Bodies (Suffix (MaybeSimples bracket) step X) Calm NoElse Free reach at' limit' mid b (body_in around stmt reach (At at' limit' mid))
          (λ ts body es rest r ts3 es3 d ts2 es2 q ts1 es1 s. for_is opening o ts1 ts2 ts3 ts rest start c step body es1 es2 es3 es s q d r) (traces_free at' limit' mid reach b end' n' p'))
          (traces_maybe_simple all bracket at limit tokens first b end n p)

      -- the condition, the step and the body
      traces_middle : (opening : Token) → Is "(" opening → (start : StartTree)
          → Traces all (Suffix (Starts bracket) start (ForAfter opening)) Calm NoElse Free
          (λ reach place.
          try_then (λ c reach place. try_then (λ step reach place. try_as (tree.For word start c step) (body_in around stmt reach place)) (maybe_simple_in bracket reach place)) (maybe_expr_in bracket reach place))
      traces_middle opening o start at limit tokens first b end n p =
          let X = Suffix (Starts bracket) start (ForAfter opening) in
          traced_then all (MaybeExprs bracket) X Calm Any Free NoElse Free (λ c reach place. try_then (λ step reach place. try_as (tree.For word start c step) (body_in around stmt reach place)) (maybe_simple_in bracket reach place))
          first at limit tokens b (maybe_expr_in bracket first (At at limit tokens)) n p
          (λ c.
          record {
            tokens = mark ")" ∷ semicolon ∷ [];
            tree = tree.For word start c None (tree.Empty semicolon);
            entries = plain ∷ empty_body;
            whole = λ rest calm ts2 es2 q ts1 es1 s.
                for_is opening o ts1 ts2 (mark ")" ∷ semicolon ∷ rest) (semicolon ∷ rest) rest start c None (tree.Empty semicolon) es1 es2 (plain ∷ []) empty_body s q (no_step (semicolon ∷ rest)) (empty_is rest);
            before = λ rest k. tt;
          })
          (traces_step opening o start) (traces_maybe_expr all bracket at limit tokens first b end n p)

      -- all parts
      traces_for : Traces all (After word plain (Stmts around)) Calm NoElse Free (for_in around stmt word)
      traces_for at limit tokens first b end n p =
          let Q = After word plain (Stmts around) in
          let after_start : StartTree → Reader StmtTree =
          λ start reach place. try_then (λ c reach place. try_then (λ step reach place. try_as (tree.For word start c step) (body_in around stmt reach place)) (maybe_simple_in bracket reach place)) (maybe_expr_in bracket reach place) in
          traced_token all Q Calm NoElse Free Free (is_sign "(") (opens bracket.brackets) (λ opening reach place. try_then after_start (start_in bracket reach place)) refl (λ t one other k f. tt) first at limit tokens b end n p
          (λ t k at' limit' rest reach b end' n' p'.
          let o = is_sign-true "(" (symbol t) k in
          traced_then all (Starts bracket) (ForAfter t) Calm Any Free NoElse Free after_start reach at' limit' rest b (start_in bracket reach (At at' limit' rest)) n' p'
          (λ start.
          record {
            tokens = semicolon ∷ mark ")" ∷ semicolon ∷ [];
            tree = tree.For word start None None (tree.Empty semicolon);
            entries = plain ∷ plain ∷ empty_body;
            whole = λ rest calm ts1 es1 s.
                for_is t o ts1 (semicolon ∷ mark ")" ∷ semicolon ∷ rest) (mark ")" ∷ semicolon ∷ rest) (semicolon ∷ rest) rest start None None (tree.Empty semicolon) es1 (plain ∷ []) (plain ∷ []) empty_body s (no_expr (mark ")" ∷ semicolon ∷ rest))
                (no_step (semicolon ∷ rest)) (empty_is rest);
            before = λ rest k. tt;
          })
          (traces_middle t o) (traces_start all bracket at' limit' rest reach b end' n' p'))
          (record {
            tokens = mark "(" ∷ semicolon ∷ semicolon ∷ mark ")" ∷ semicolon ∷ [];
            tree = tree.For word tree.NoStart None None (tree.Empty semicolon);
            entries = opens bracket.brackets ∷ plain ∷ plain ∷ plain ∷ empty_body;
            whole = λ rest calm.
                for_is (mark "(") refl (semicolon ∷ semicolon ∷ mark ")" ∷ semicolon ∷ rest) (semicolon ∷ mark ")" ∷ semicolon ∷ rest) (mark ")" ∷ semicolon ∷ rest) (semicolon ∷ rest) rest tree.NoStart None None (tree.Empty semicolon)
                (plain ∷ []) (plain ∷ []) (plain ∷ []) empty_body (no_start (semicolon ∷ mark ")" ∷ semicolon ∷ rest)) (no_expr (mark ")" ∷ semicolon ∷ rest)) (no_step (semicolon ∷ rest)) (empty_is rest);
            before = λ rest k. tt;
          })
          (λ rest k. tt)

    -- a word with a semicolon
    traces_ended : (word : Token) (s : StmtTree) → ((t : Token) (rest : List Token) → Is ";" t → Stmts around (word ∷ t ∷ rest) s (plain ∷ plain ∷ []) rest) → Traces all (After word plain (Stmts around)) Calm NoElse Free (ended_in s)
    traces_ended word s f at limit tokens start b end n p =
        traced_token all (After word plain (Stmts around)) Calm NoElse Free Free (is_sign ";") plain (λ t reach place. Reads s place reach) refl (λ t one other k c. tt) start at limit tokens b end n p
        (λ t k at' limit' rest reach b end' n' p'. traced_end all (After t plain (After word plain (Stmts around))) Calm NoElse Free s reach at' limit' rest b end' (λ other c. f t other (is_sign-true ";" (symbol t) k)) (λ other c. tt))
        (record { tokens = semicolon ∷ []; tree = s; entries = plain ∷ []; whole = λ rest c. f semicolon rest refl; before = λ rest k. tt }) (λ rest k. tt)

    -- a statement behind the sign with which it begins
    traces_behind : (opening : Opening) (word : Token) → Is (opening_text opening) word → Traces all (After word (opening_entry around stmt opening) (Stmts around)) Calm NoElse Free (behind_in around stmt opening word)
    traces_behind Brace word h at limit tokens start b end n p =
        let within = in_block around in
        let Q = After word (opens within.blocks) (Stmts around) in
        traced_for all Q Any Calm Free NoElse NoElse Free (λ rest k. tt) (λ rest other k. tt) start at limit tokens b (block_in around stmt word start (At at limit tokens)) (λ other k. tt)
        (traced_as all (tree.Block word) (Blocks within) Q Any Free NoElse start at limit tokens b (stmts_in (stmt within) (suc (length tokens)) start (At at limit tokens))
        (λ ts stmts es rest q. (of_block h q.0, ap (λ es. opens within.blocks ∷ es) q.1)) (traces_stmts all within (stmt within) (traces within) (suc (length tokens)) at limit tokens start b end n p))
    traces_behind Semicolon word h at limit tokens start b end n p =
        traced_end all (After word plain (Stmts around)) Calm NoElse Free (tree.Empty word) start at limit tokens b end (λ other c. (of_nothing h, refl)) (λ other c. tt)
    traces_behind Return word h at limit tokens start b end n p =
        traced_for all (After word plain (Stmts around)) Any Calm Free NoElse Free Free (λ rest k. tt) (λ rest other k. tt) start at limit tokens b (try_as (tree.Return word) (maybe_expr_in around start (At at limit tokens))) (λ other k. tt)
        (traced_as all (tree.Return word) (MaybeExprs around) (After word plain (Stmts around)) Any Free Free start at limit tokens b (maybe_expr_in around start (At at limit tokens))
        (λ ts value es rest q. (of_return h q.0, ap (λ es. plain ∷ es) q.1)) (traces_maybe_expr all around at limit tokens start b end n p))
    traces_behind Break word h at limit tokens start b end n p = traces_ended word (tree.Break word) (λ t rest k. (of_break h k, refl)) at limit tokens start b end n p
    traces_behind Continue word h at limit tokens start b end n p = traces_ended word (tree.Continue word) (λ t rest k. (of_continue h k, refl)) at limit tokens start b end n p
    traces_behind If word h at limit tokens start b end n p = traces_if word h at limit tokens start b end n p
    traces_behind While word h at limit tokens start b end n p = traces_while word h at limit tokens start b end n p
    traces_behind For word h at limit tokens start b end n p = traces_for word h at limit tokens start b end n p

    -- a statement by the sign with which it begins
    stmt_by_traced : (found : Option Opening) (at : ℕ) (limit : Option Told) (t : Token) (tokens : List Token) (start : Option FarthestFailure) (b : FarthestFailure) → sign_of opening_text openings (symbol t) ≡ found → Ended (t ∷ tokens) → Noted at limit
        → Placed all at limit (t ∷ tokens) → Traced all (Stmts around) Calm NoElse Free start at limit (t ∷ tokens) b (stmt_by around stmt found start t (At at limit (t ∷ tokens)))
    stmt_by_traced None at limit t tokens start b is end n p =
        traced_for all (Stmts around) Any Calm Free NoElse Free Free (λ rest k. tt) (λ rest other k. tt) start at limit (t ∷ tokens) b (stmt_by around stmt None start t (At at limit (t ∷ tokens))) (λ other k. tt)
        (traces_either all around tree.Local tree.Simple (Stmts around) (λ ts local s rest l h. (of_local l h, refl)) (λ ts simple s rest q h out. (of_simple q h out, refl)) at limit (t ∷ tokens) start b end n p)
    stmt_by_traced (Some opening) at limit t tokens start b is end n p =
        let h = sign_of-some opening_text openings (symbol t) opening is in
        let e = opening_entry around stmt opening in
        traced_after all (Stmts around) Calm NoElse Free Free t e (λ one other k. tt) start at limit tokens b (behind_in around stmt opening t start (At (suc at) (noted limit e at t) tokens))
        (traces_behind opening t h (suc at) (noted limit e at t) tokens start b (ended_behind t tokens (opening_end opening t h) end) (noted_later (noted limit e at t) at (noted_stays limit e at t n)) (placed_token all at limit e t tokens p))

    -- a statement
    traces_at : Traces all (Stmts around) Calm NoElse NoElse (stmt_at around stmt)
    traces_at at limit [] start b end n p = absurd end
    traces_at at limit (t ∷ tokens) start b end n p =
        traced_head all (Stmts around) Calm NoElse Free NoElse (λ old new s es rest q calm. stmt_calm q.0) start at limit (t ∷ tokens) b (stmt_at around stmt start (At at limit (t ∷ tokens)))
        (stmt_by_traced (sign_of opening_text openings (symbol t)) at limit t tokens start b refl end n p)

-- the reader of statements
pub traces_stmt : (all : List Token) (turns : ℕ) (around : Nesting) → Traces all (Stmts around) Calm NoElse NoElse (stmt_in turns around)
traces_stmt all zero around at limit tokens start b end n p =
    traced_refused all (Stmts around) Calm NoElse NoElse start at limit tokens b p
    (record { tokens = semicolon ∷ []; tree = tree.Empty semicolon; entries = plain ∷ []; whole = λ rest h. (empty_stmt rest, refl); before = λ rest h. tt }) (λ rest h k. refl)
traces_stmt all (suc turns) around at limit tokens start b end n p = traces_at all around (stmt_in turns) (traces_stmt all turns) at limit tokens start b end n p
