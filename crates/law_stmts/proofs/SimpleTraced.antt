-- The reader of simple statements: what it reads, and where the ways that it notes come from.
use Rattle.std.proofs.Common.{◌≡◌, ◌⊎◌, inl, inr, ℕ, zero, suc, Bool, true, false, List, [], ◌∷◌, ◌++◌, length, refl, sym, ap, subst, ◌∙◌, codes, arith, append_assoc, length-append, append-nil}
use Rattle.std.specs.Prelude.{Option, Some, None, replicate}
use Rattle.std.proofs.lemmas.Bool.{false≢true}
use Rattle.def_token.specs.Lexical.{Token}
use Rattle.def_tree.specs.ExprTree.{ExprTree}
use Rattle.def_tree.specs.ExprTree as expr
use Rattle.def_tree.specs.Expressions.{IsExpr}
use Rattle.def_tree.specs.Fault.{first_spot}
use Rattle.def_tree.specs.Limits.{Nesting, Entry, plain, assignment_tokens, whole_entries, simple_entries}
use Rattle.def_tree.specs.Operator.{Assignment, Set, AddTo, SubtractFrom, MultiplyBy, DivideBy, RemainderBy, BitAndWith, BitOrWith, BitXorWith, ShiftLeftBy, ShiftRightBy, assignment_text, Step, Increment, Decrement, step_text, SignAt, sign_at, joins}
use Rattle.def_tree.specs.Statements.{is_call, IsSimple, of_assignment, of_postfix_step, of_prefix_step, of_call_statement}
use Rattle.def_tree.specs.StmtTree as tree
use Rattle.def_tree.specs.StmtTree.{SimpleTree}
use Rattle.def_tree.specs.Symbol.{Sign, symbol, is_sign, Is}
use Rattle.def_tree.specs.Types.{IsType}
use Rattle.law_tree.proofs.StmtsCovered.{assignment_covered}
use Rattle.law_tree.proofs.Symbols.{is_sign-true}
use Rattle.def_reading.specs.Cursor.{Told, At, passed, FarthestFailure}
use Rattle.def_reading.specs.StmtReading.{assignments, assignment_at, alone_by, stepped_in, assigned_by, assigned_in, simple_in}
use Rattle.def_reading.specs.Try.{Try, Reads, Stops, Reader, try_then, try_as, choice, expr_in}
use Rattle.def_reading.specs.TypeReading.{Ended}
use Rattle.law_stmts.proofs.Declares.{not_greater, sign_by, StopsAt, other_sign, assign_stops, step_stops, IsDeclared, stop_is}
use Rattle.law_stmts.proofs.ExprTraces.{Wholes, Shifted}
use Rattle.law_stmts.proofs.ExprTraced.{ExprOrigin, completes, shifts, ExprTraced, expr_traced}
use Rattle.law_stmts.proofs.LocalSound.{sign_with}
use Rattle.law_stmts.proofs.LocalTraced.{mark, expr_scratch, traces_value}
use Rattle.law_machine.proofs.MachineCloses.{number}
use Rattle.law_machine.proofs.MachineGood.{Placed, placed_token}
use Rattle.law_machine.proofs.MachineKinds.{sign_no_end}
use Rattle.law_machine.proofs.MachineSigns.{written-some}
use Rattle.law_exprs.proofs.Quiet.{Kept, Fine, Both, fine, kept_quiet, kept_shift, quiet}
use Rattle.law_machine.proofs.SignParts.{assign_sign, joins_no_end}
use Rattle.law_stmts.proofs.SimpleComes.{sign_is}
use Rattle.law_stmts.proofs.Spans.{in_type}
use Rattle.law_stmts.proofs.StmtAlien.{AssignParts, one_token, three_tokens, assign_parts}
use Rattle.law_types.proofs.Stopping.{ended_behind}
use Rattle.law_exprs.proofs.TryComes.{Noted, noted_later}
use Rattle.law_exprs.proofs.TryTraces.{Language, Change, Free, Scratch, Suffix, After, Completes, Gives, Traced, Traces, extended, traced_then, traced_as, traced_for, traced_after, traced_choice, traced_refused, traced_end, traced_from, spot_by}
use Rattle.law_types.proofs.TypeStable.{cancel, type_stable}
use Rattle.law_stmts.proofs.Undeclared.{step_head}

-- tokens begin with no type, name and `=`
abbrev pub Undeclared : List Token → Type 0
Undeclared tokens = IsDeclared tokens → ⊥

-- simple statements, which no type, name and `=` begin if none begin other tokens
pub record IsSimpleBy (base : List Token) (around : Nesting) (tokens : List Token) (simple : SimpleTree) (es : List Entry) (rest : List Token) : Type 0 where
  pub simple' : IsSimple tokens simple rest
  pub entries_are : es ≡ simple_entries around simple
  pub undeclared : Undeclared base → Undeclared tokens

-- `=` behind an expression makes no local of it, if none is declared before
record IsPlace (base : List Token) (around : Nesting) (tokens : List Token) (e : ExprTree) (es : List Entry) (rest : List Token) : Type 0 where
  whole : IsExpr tokens e rest
  entries_are : es ≡ whole_entries around e
  linked : Undeclared base → (equals : Token) (others : List Token) → rest ≡ equals ∷ others → Is "=" equals → Undeclared tokens

-- no type, name and `=` begin tokens whose first expression stops elsewhere
undeclared_by : {base tokens rest : List Token} {around : Nesting} {e : ExprTree} {es : List Entry} → IsPlace base around tokens e es rest → StopsAt rest → Undeclared base → Undeclared tokens
undeclared_by p s u d = p.linked u d.equals d.others (stop_is d p.whole s) d.marked d

-- what may stand behind an expression in place of other tokens: where `=` stands, it stood there
record Firm (rest new : List Token) : Type 0 where
  kept : Kept rest new
  first : (equals : Token) (others : List Token) → new ≡ equals ∷ others → Is "=" equals → (before : List Token) × (rest ≡ equals ∷ before)

-- the same behind a simple statement
pub record Sure (rest new : List Token) : Type 0 where
  pub kept : Kept rest new
  pub first : (equals : Token) (others : List Token) → new ≡ equals ∷ others → Is "=" equals → (before : List Token) × (rest ≡ equals ∷ before)
  pub stops : StopsAt new

-- what may stand behind a simple statement may stand behind an expression
sure_firm : {rest new : List Token} → Sure rest new → Firm rest new
sure_firm s = record { kept = s.kept; first = s.first }

-- other tokens behind one token
firm_same : (t : Token) (one other : List Token) → Kept (t ∷ one) (t ∷ other) → Firm (t ∷ one) (t ∷ other)
firm_same t one other k = record { kept = k; first = λ equals others is h. (one, ap (λ t. t ∷ one) (same t equals other others is)) }
  where
    same : (t equals : Token) (ts others : List Token) → t ∷ ts ≡ equals ∷ others → t ≡ equals
    same t equals ts others h = cc

-- a token that is no `=`
no_equals : {A : Type 0} (t : Token) (ts : List Token) (equals : Token) (others : List Token) → t ∷ ts ≡ equals ∷ others → Is "=" equals → is_sign "=" (symbol t) ≡ false → A
no_equals t ts equals others is h no' =
    let same : t ≡ equals = cc in absurd (false≢true (sym no' ∙ ap (λ (x : Token). is_sign "=" (symbol x)) same ∙ ap (is_sign "=") h))

-- a quiet token that is no `=`, in place of others
firm_new : (rest : List Token) (t : Token) (ts : List Token) → quiet (symbol t) ≡ true → is_sign "=" (symbol t) ≡ false → Firm rest (t ∷ ts)
firm_new rest t ts q no' = record { kept = kept_quiet rest t ts q; first = λ equals others is h. no_equals t ts equals others is h no' }

-- other tokens behind a mark
pub sure_mark : (t : Token) (one other : List Token) → quiet (symbol t) ≡ true → in_type (symbol t) ≡ false → Sure (t ∷ one) (t ∷ other)
sure_mark t one other q out =
    let f = firm_same t one other (kept_quiet (t ∷ one) t other q) in record { kept = f.kept; first = f.first; stops = other_sign out }

-- a mark in place of other tokens
pub sure_new : (rest : List Token) (t : Token) (ts : List Token) → quiet (symbol t) ≡ true → is_sign "=" (symbol t) ≡ false → in_type (symbol t) ≡ false → Sure rest (t ∷ ts)
sure_new rest t ts q no' out = let f = firm_new rest t ts q no' in record { kept = f.kept; first = f.first; stops = other_sign out }

-- fine tokens that do not begin with `=`
record FineStep (tokens : List Token) : Type 0 where
  fine' : Fine tokens
  no_equal : (equals : Token) (others : List Token) → tokens ≡ equals ∷ others → Is "=" equals → ⊥

-- where a type, a name and `=` stand, they stand behind the same tokens before the same `=` too
declared_before : (piece : List Token) {e : ExprTree} {new others before rest : List Token} (equals : Token) → new ≡ equals ∷ others → Is "=" equals → rest ≡ equals ∷ before → IsExpr (piece ++ new) e new → IsDeclared (piece ++ new) → IsDeclared (piece ++ rest)
declared_before piece {new = new} {others = others} {before = before} {rest = rest} equals is h was p d =
    let stop : new ≡ d.equals ∷ d.others = stop_is d p (subst StopsAt (sym is) (other_sign (ap in_type h))) in
    let s = type_stable d.typed in
    let same : piece ≡ s.piece ++ d.name ∷ [] =
    cancel piece (s.piece ++ d.name ∷ []) new (s.are ∙ ap (λ ts. s.piece ++ d.name ∷ ts) (sym stop) ∙ sym (append_assoc s.piece (d.name ∷ []) new)) in
    record {
      type = d.type;
      name = d.name;
      equals = equals;
      others = before;
      typed = subst (λ ts. IsType ts d.type (d.name ∷ equals ∷ before))
          (sym (append_assoc s.piece (d.name ∷ []) (equals ∷ before)) ∙ ap (λ ts. ts ++ equals ∷ before) (sym same) ∙ ap (λ ts. piece ++ ts) (sym was)) (s.stable (d.name ∷ equals ∷ before));
      named = d.named;
      marked = h;
    }

-- the sign of an assignment is quiet
assign_quiet : (a : Assignment) → quiet (Sign (codes (assignment_text a))) ≡ true
assign_quiet Set = refl
assign_quiet AddTo = refl
assign_quiet SubtractFrom = refl
assign_quiet MultiplyBy = refl
assign_quiet DivideBy = refl
assign_quiet RemainderBy = refl
assign_quiet BitAndWith = refl
assign_quiet BitOrWith = refl
assign_quiet BitXorWith = refl
assign_quiet ShiftLeftBy = refl
assign_quiet ShiftRightBy = refl

-- an assignment of one token is quiet
quiet_by : (c : Bool) (a : Assignment) (t : Token) → sign_by c t ≡ (codes (assignment_text a), []) → quiet (symbol t) ≡ true
quiet_by true a t h = absurd (not_greater a (ap (λ (q : SignAt). q.0) h))
quiet_by false a t h = ap quiet (sign_is (symbol t) a (ap (λ (q : SignAt). q.0) h)) ∙ assign_quiet a

-- tokens that begin with a token, or with two
abbrev One : Token → Change
One q one other = (ones : List Token) × (others : List Token) × (one ≡ q ∷ ones) × (other ≡ q ∷ others)

-- tokens that begin with two
abbrev Two : Token → Token → Change
Two p q one other = (ones : List Token) × (others : List Token) × (one ≡ p ∷ q ∷ ones) × (other ≡ p ∷ q ∷ others)

-- a step is quiet
step_quiet : (step : Step) (t : Token) → Is (step_text step) t → quiet (symbol t) ≡ true
step_quiet Increment t h = ap quiet h
step_quiet Decrement t h = ap quiet h

module _ (all base : List Token) (around : Nesting) where
  -- the first expressions of simple statements
  abbrev Cursor' : Language ExprTree
  Cursor' tokens e es rest = IsPlace base around tokens e es rest

  -- simple statements
  abbrev pub Simples : Language SimpleTree
  Simples tokens simple es rest = IsSimpleBy base around tokens simple es rest

  -- what stands behind the first expression
  abbrev Behind : ExprTree → Language SimpleTree
  Behind e = Suffix Cursor' e Simples

  -- a step behind an expression
  stepped : (step : Step) (e : ExprTree) (t : Token) (rest tokens : List Token) (front : List Entry) → Is (step_text step) t → IsPlace base around tokens e front (t ∷ rest) → IsSimpleBy base around tokens (tree.PostfixStep step e t) (front ++ plain ∷ []) rest
  stepped step e t rest tokens front h p =
      record { simple' = of_postfix_step {step = step} p.whole h; entries_are = ap (λ es. es ++ plain ∷ []) p.entries_are; undeclared = λ u. undeclared_by p (step_stops step t rest h) u }

  -- a step behind an expression
  abbrev step_scratch : (e : ExprTree) → Scratch (Behind e) Fine FineStep
  step_scratch e =
      record {
        tokens = mark "++" ∷ [];
        tree = tree.PostfixStep Increment e (mark "++");
        entries = plain ∷ [];
        whole = λ rest h tokens front p. stepped Increment e (mark "++") rest tokens front refl p;
        before = λ rest h. record { fine' = fine (mark "++") rest refl refl; no_equal = λ equals others is k. no_equals (mark "++") rest equals others is k refl };
      }

  -- an expression alone
  alone_traced : (c : Bool) (e : ExprTree) (at : ℕ) (limit : Option Told) (tokens : List Token) (start : Option FarthestFailure) (b : FarthestFailure) → is_call e ≡ c → Ended tokens → Placed all at limit tokens
      → Traced all (Behind e) Fine Sure Firm start at limit tokens b (alone_by c e start (At at limit tokens))
  alone_traced true e at limit tokens start b is end p =
      traced_end all (Behind e) Fine Sure Firm (tree.CallStatement e) start at limit tokens b end
      (λ other f toks front q. record { simple' = of_call_statement q.whole is; entries_are = append-nil front ∙ q.entries_are; undeclared = λ u. undeclared_by q f.stops u }) (λ other f. sure_firm f)
  alone_traced false e at limit tokens start b is end p =
      let s = step_scratch e in
      traced_refused all (Behind e) Fine Sure Firm start at limit tokens b p (record { tokens = s.tokens; tree = s.tree; entries = s.entries; whole = s.whole; before = λ rest h. tt }) (λ rest h. firm_new tokens (mark "++") rest refl refl)

  -- a step that stands there
  stepped_by : (step : Step) (e : ExprTree) (t : Token) → Is (step_text step) t → Traces all (After t plain (Behind e)) Fine Sure Free (λ reach place. Reads (tree.PostfixStep step e t) place reach)
  stepped_by step e t h at limit tokens start b end n p =
      traced_end all (After t plain (Behind e)) Fine Sure Free (tree.PostfixStep step e t) start at limit tokens b end (λ other f toks front q. stepped step e t other toks front h q) (λ other f. tt)

  -- a step, or an expression alone
  stepped_traced : (e : ExprTree) → Traces all (Behind e) Fine Sure Firm (stepped_in e)
  stepped_traced e at limit tokens start b end n p =
      let decremented = choice (is_sign "--") plain (λ token reach place. Reads (tree.PostfixStep Decrement e token) place reach) (alone_by (is_call e) e) in
      traced_choice all (Behind e) Fine Sure Free Firm (is_sign "++") plain (λ token reach place. Reads (tree.PostfixStep Increment e token) place reach) decremented refl
      (λ t one other h k. firm_same t one other (kept_quiet (t ∷ one) t other (step_quiet Increment t (is_sign-true "++" (symbol t) h)))) start at limit tokens b end n p
      (λ t h. stepped_by Increment e t (is_sign-true "++" (symbol t) h))
      (λ no'.
      traced_choice all (Behind e) Fine Sure Free Firm (is_sign "--") plain (λ token reach place. Reads (tree.PostfixStep Decrement e token) place reach) (alone_by (is_call e) e) refl
      (λ t one other h k. firm_same t one other (kept_quiet (t ∷ one) t other (step_quiet Decrement t (is_sign-true "--" (symbol t) h)))) start at limit tokens b end n p
      (λ t h. stepped_by Decrement e t (is_sign-true "--" (symbol t) h))
      (λ no'. alone_traced (is_call e) e at limit tokens start b refl end p))

  -- the value of an assignment
  valued : (a : Assignment) (t : Token) (e : ExprTree) (R : Language SimpleTree) → ((mid : List Token) (v : ExprTree) (es : List Entry) (rest : List Token) → IsExpr mid v rest → es ≡ whole_entries around v → R mid (tree.Assign a t e v) es rest)
      → Traces all R Fine Sure Free (λ reach place. try_as (tree.Assign a t e) (expr_in false around reach place))
  valued a t e R f at limit tokens start b end n p =
      traced_as all (tree.Assign a t e) (Wholes around) R Fine Sure Free start at limit tokens b (expr_in false around start (At at limit tokens)) (λ mid v es rest q. f mid v es rest q.0 q.1)
      (traced_for all (Wholes around) Fine Fine Kept Sure Free Free (λ rest h. h) (λ rest other f. f.kept) start at limit tokens b (expr_in false around start (At at limit tokens)) (λ other h. tt) (traces_value all around at limit tokens start b end n p))

  -- an assignment by its parts
  assigned_is : (a : Assignment) (e v : ExprTree) (t : Token) (others mid : List Token) (tokens : List Token) (front es : List Entry) (rest : List Token) → suc (length others) ≡ assignment_tokens a
      → sign_at (t ∷ (others ++ mid)) ≡ (codes (assignment_text a), mid) → IsPlace base around tokens e front (t ∷ (others ++ mid)) → IsExpr mid v rest → es ≡ whole_entries around v
      → IsSimpleBy base around tokens (tree.Assign a t e v) (front ++ (replicate (assignment_tokens a) plain ++ es)) rest
  assigned_is a e v t others mid tokens front es rest count sign p q is =
      record {
        simple' = of_assignment {assignment = a} p.whole sign q;
        entries_are = ap (λ front. front ++ (replicate (assignment_tokens a) plain ++ es)) p.entries_are ∙ ap (λ es. whole_entries around e ++ (replicate (assignment_tokens a) plain ++ es)) is;
        undeclared = λ u. undeclared_by p (assign_stops (assign_parts a t (others ++ mid) mid sign)) u;
      }

  -- an assignment by its tokens
  assign_traced : (a : Assignment) (e : ExprTree) (at : ℕ) (limit : Option Told) (t : Token) (tokens behind : List Token) (start : Option FarthestFailure) (b : FarthestFailure) → sign_at (t ∷ tokens) ≡ (codes (assignment_text a), behind) → Ended (t ∷ tokens)
      → Noted at limit → Placed all at limit (t ∷ tokens) → AssignParts t tokens a behind
      → Traced all (Behind e) Fine Sure Firm start at limit (t ∷ tokens) b (try_as (tree.Assign a t e) (expr_in false around start (passed (replicate (assignment_tokens a) plain) (At at limit (t ∷ tokens)))))
  assign_traced a e at limit t tokens behind start b sign end n p (one_token no_end each is) =
      let reader : Reader SimpleTree = λ reach place. try_as (tree.Assign a t e) (expr_in false around reach place) in
      let count : suc zero ≡ assignment_tokens a = omega (arith, assignment_covered a t tokens behind sign, ap length is) in
      subst (λ n. Traced all (Behind e) Fine Sure Firm start at limit (t ∷ tokens) b (reader start (passed (replicate n plain) (At at limit (t ∷ tokens))))) count
      (traced_after all (Behind e) Fine Sure Free Firm t plain (λ one other k. firm_same t one other (kept_quiet (t ∷ one) t other (quiet_by (is_sign ">" (symbol t)) a t (each [])))) start at limit tokens b (reader start (At (suc at) limit tokens))
      (valued a t e (After t plain (Behind e))
      (λ mid v es rest q is' toks front r. subst (λ n. IsSimpleBy base around toks (tree.Assign a t e v) (front ++ (replicate n plain ++ es)) rest) (sym count) (assigned_is a e v t [] mid toks front es rest count (each mid) r q is'))
      (suc at) limit tokens start b (ended_behind t tokens no_end end) (noted_later limit at n) (placed_token all at limit plain t tokens p)))
  assign_traced a e at limit t tokens behind start b sign end n pl (three_tokens p q is g j k s) =
      let reader : Reader SimpleTree = λ reach place. try_as (tree.Assign a t e) (expr_in false around reach place) in
      let count : suc (suc (suc zero)) ≡ assignment_tokens a = sym (ap assignment_tokens s) in
      let end' : Ended (t ∷ p ∷ q ∷ behind) = subst (λ ts. Ended (t ∷ ts)) is end in
      let p0 : Placed all at limit (t ∷ p ∷ q ∷ behind) = subst (λ ts. Placed all at limit (t ∷ ts)) is pl in
      let p1 : Placed all (suc at) limit (p ∷ q ∷ behind) = placed_token all at limit plain t (p ∷ q ∷ behind) p0 in
      let p2 : Placed all (suc (suc at)) limit (q ∷ behind) = placed_token all (suc at) limit plain p (q ∷ behind) p1 in
      let last : Ended behind = ended_behind q behind (joins_no_end p q "=" k) (ended_behind p (q ∷ behind) (joins_no_end t p ">" j) (ended_behind t (p ∷ q ∷ behind) (sign_no_end t _ g) end')) in
      subst (λ n. Traced all (Behind e) Fine Sure Firm start at limit (t ∷ tokens) b (reader start (passed (replicate n plain) (At at limit (t ∷ tokens))))) count
      (subst (λ ts. Traced all (Behind e) Fine Sure Firm start at limit (t ∷ ts) b (reader start (passed (replicate 3 plain) (At at limit (t ∷ ts))))) (sym is)
      (traced_after all (Behind e) Fine Sure (Two p q) Firm t plain
      (λ one other h. firm_same t one other (subst (λ ts. Kept (t ∷ one) (t ∷ ts)) (sym h.3) (kept_shift (t ∷ one) t p q h.1 g j k))) start at limit (p ∷ q ∷ behind) b (reader start (At (suc (suc (suc at))) limit behind))
      (traced_after all (After t plain (Behind e)) Fine Sure (One q) (Two p q) p plain (λ one other h. (h.0, h.1, ap (λ ts. p ∷ ts) h.2, ap (λ ts. p ∷ ts) h.3)) start (suc at) limit (q ∷ behind) b (reader start (At (suc (suc (suc at))) limit behind))
      (traced_after all (After p plain (After t plain (Behind e))) Fine Sure Free (One q) q plain (λ one other h. (one, other, refl, refl)) start (suc (suc at)) limit behind b (reader start (At (suc (suc (suc at))) limit behind))
      (valued a t e (After q plain (After p plain (After t plain (Behind e))))
      (λ mid v es rest r is' toks front x. subst (λ n. IsSimpleBy base around toks (tree.Assign a t e v) (front ++ (replicate n plain ++ es)) rest) (sym count)
      (assigned_is a e v t (p ∷ q ∷ []) mid toks front es rest count (assign_sign t p q mid g j k ∙ ap (λ (a : Assignment). (codes (assignment_text a), mid)) (sym s)) x r is'))
      (suc (suc (suc at))) limit behind start b last (noted_later limit (suc (suc at)) (noted_later limit (suc at) (noted_later limit at n))) (placed_token all (suc (suc at)) limit plain q behind p2))))))

  -- an assignment, or what else stands there
  assigned_by_traced : (found : Option Assignment) (e : ExprTree) (at : ℕ) (limit : Option Told) (t : Token) (tokens : List Token) (start : Option FarthestFailure) (b : FarthestFailure) → assignment_at (t ∷ tokens) ≡ found → Ended (t ∷ tokens) → Noted at limit
      → Placed all at limit (t ∷ tokens) → Traced all (Behind e) Fine Sure Firm start at limit (t ∷ tokens) b (assigned_by around found e start t (At at limit (t ∷ tokens)))
  assigned_by_traced None e at limit t tokens start b is end n p = stepped_traced e at limit (t ∷ tokens) start b end n p
  assigned_by_traced (Some a) e at limit t tokens start b is end n p =
      let sign = sign_with (sign_at (t ∷ tokens)) a (written-some assignment_text assignments (sign_at (t ∷ tokens)).0 a is) in
      assign_traced a e at limit t tokens (sign_at (t ∷ tokens)).1 start b sign end n p (assign_parts a t tokens (sign_at (t ∷ tokens)).1 sign)

  -- what stands behind the first expression
  assigned_traced : (e : ExprTree) → Traces all (Behind e) Fine Sure Firm (assigned_in around e)
  assigned_traced e at limit [] start b end n p = absurd end
  assigned_traced e at limit (t ∷ tokens) start b end n p = assigned_by_traced (assignment_at (t ∷ tokens)) e at limit t tokens start b refl end n p

-- entries that are nothing change no spot
first_nones : (es nones : List Entry) (from many : ℕ) → nones ≡ replicate (length nones) plain → first_spot from many (es ++ nones) ≡ first_spot from many es
first_nones es nones from zero h = refl
first_nones [] [] from (suc many) h = refl
first_nones [] (None ∷ nones) from (suc many) h = first_nones [] nones (suc from) many (cc)
first_nones [] (Some l ∷ nones) from (suc many) h = absurd (cc)
first_nones (None ∷ es) nones from (suc many) h = first_nones es nones (suc from) many h
first_nones (Some l ∷ es) nones from (suc many) h = refl

-- nor where a limit is told before them
spot_nones : (limit : Option Told) (at many : ℕ) (es nones : List Entry) → nones ≡ replicate (length nones) plain → spot_by limit at many (es ++ nones) ≡ spot_by limit at many es
spot_nones None at many es nones h = first_nones es nones at many h
spot_nones (Some told) at many es nones h = refl

module _ (all tokens : List Token) (around : Nesting) where
  -- an assignment by `>>=`
  shift_completes : (at : ℕ) (limit : Option Told) (b : FarthestFailure) → Shifted all around at limit tokens b → Completes all (Simples all tokens around) Fine Free at limit tokens b
  shift_completes at limit b s =
      let nones : List Entry = plain ∷ plain ∷ plain ∷ plain ∷ [] in
      record {
        front = s.front;
        tail = s.tail;
        are = s.are;
        here = s.here;
        more = s.more ++ number ∷ [];
        tree = tree.Assign ShiftRightBy s.p s.tree (expr.Number number);
        entries = whole_entries around s.tree ++ nones;
        whole = λ rest h.
            let whole = s.whole (number ∷ rest) in
            let sign = assign_sign s.p s.q s.r (number ∷ rest) s.greater s.shifts s.assigns in
            let tokens_are : s.front ++ ((s.more ++ number ∷ []) ++ rest) ≡ s.piece ++ s.p ∷ s.q ∷ s.r ∷ number ∷ rest =
            ap (λ ts. s.front ++ ts) (append_assoc s.more (number ∷ []) rest) ∙ sym (append_assoc s.front s.more (number ∷ rest)) ∙ ap (λ ts. ts ++ number ∷ rest) s.piece_is
            ∙ append_assoc s.piece (s.p ∷ s.q ∷ s.r ∷ []) (number ∷ rest) in
            subst (λ ts. IsSimpleBy tokens around ts (tree.Assign ShiftRightBy s.p s.tree (expr.Number number)) (whole_entries around s.tree ++ nones) rest) (sym tokens_are)
            (record {
              simple' = of_assignment {assignment = ShiftRightBy} whole sign ((expr_scratch around).whole rest h).0;
              entries_are = refl;
              undeclared = λ u d. shift_declares s.p s.q s.r (number ∷ rest) s.greater s.shifts s.assigns whole d;
            });
        room = omega (arith, s.room, length-append (whole_entries around s.tree) nones);
        spot = spot_nones limit at (length s.front) (whole_entries around s.tree) nones refl ∙ s.spot;
        alike = λ rest h. tt;
        stands = s.stands;
      }
    where
      shift_declares : (p q r : Token) (ts : List Token) {all' : List Token} {e : ExprTree} → Is ">" p → joins p ">" q ≡ true → joins q "=" r ≡ true → IsExpr all' e (p ∷ q ∷ r ∷ ts) → IsDeclared all' → ⊥
      shift_declares p q r ts g j k e d =
          let stop = stop_is d e (assign_stops (assign_parts ShiftRightBy p (q ∷ r ∷ ts) ts (assign_sign p q r ts g j k))) in
          no_equals p (q ∷ r ∷ ts) d.equals d.others stop d.marked (ap (is_sign "=") g)

  -- the first expressions of these tokens
  abbrev P : Language ExprTree
  P toks e es rest = IsPlace tokens around toks e es rest

  -- a tree for a way of the first expression
  place_completes : {at : ℕ} {limit : Option Told} {b : FarthestFailure} → Completes all (Wholes around) Fine Both at limit tokens b → Completes all P FineStep Free at limit tokens b
  place_completes c =
      record {
        front = c.front;
        tail = c.tail;
        are = c.are;
        here = c.here;
        more = c.more;
        tree = c.tree;
        entries = c.entries;
        whole = λ rest h. record { whole = (c.whole rest h.fine').0; entries_are = (c.whole rest h.fine').1; linked = λ u equals others is e d. h.no_equal equals others is e };
        room = c.room;
        spot = c.spot;
        alike = λ rest h. tt;
        stands = c.stands;
      }

  -- the first expression, and before which tokens it stands
  place_gives : {at at' : ℕ} {limit limit' : Option Told} {e : ExprTree} {rest : List Token} → Gives all (Wholes around) Kept Both at limit tokens e at' limit' rest → Gives all P Firm Free at limit tokens e at' limit' rest
  place_gives {rest = rest} g =
      record {
        entries = g.entries;
        piece = g.piece;
        are = g.are;
        stable = λ other f.
            let w = g.stable other f.kept in
            record {
              whole = w.0;
              entries_are = w.1;
              linked = λ u equals others is h d. u (subst IsDeclared (sym g.are) (declared_before g.piece equals is h (f.first equals others is h).1 w.0 d));
            };
        count = g.count;
        passes = g.passes;
        end = g.end;
        alike = λ other f. tt;
      }

  -- where the ways of the first expression come from
  place_origin : {start : Option FarthestFailure} {at : ℕ} {limit : Option Told} {b : FarthestFailure} → (start ≡ Some b) ⊎ ExprOrigin all around true at limit tokens b → (start ≡ Some b) ⊎ Completes all (Simples all tokens around) Fine Free at limit tokens b
  place_origin (inl h) = inl h
  place_origin (inr (completes c)) = let k = place_completes c in inr (extended all k (step_scratch all tokens around k.tree))
  place_origin {at = at} {limit = limit} {b = b} (inr (shifts may s)) = inr (shift_completes at limit b s)

  -- a simple statement that begins with an expression
  expr_first : (at : ℕ) (limit : Option Told) (start : Option FarthestFailure) (b : FarthestFailure) (look : Try ExprTree) → Noted at limit → Placed all at limit tokens → ExprTraced all around true start at limit tokens b look
      → Traced all (Simples all tokens around) Fine Sure Free start at limit tokens b (try_then (assigned_in around) look)
  expr_first at limit start b (Reads e (At at' limit' mid) reach) n p (g, o) =
      traced_from all (Simples all tokens around) Fine Sure Free reach start at limit tokens b (assigned_in around e reach (At at' limit' mid)) (λ is. place_origin (o is))
      (traced_then all P (Simples all tokens around) Fine FineStep Firm Sure Free (assigned_in around) reach at limit tokens b (Reads e (At at' limit' mid) reach) n p (step_scratch all tokens around) (assigned_traced all tokens around)
      (place_gives g, λ is. inl is))
  expr_first at limit start b (Stops reach) n p o = λ is. place_origin (o is)

  -- a step before an expression
  before_traced : (step : Step) (t : Token) → Is (step_text step) t → Traces all (After t plain (Simples all tokens around)) Fine Sure Free (λ reach place. try_as (tree.PrefixStep step t) (expr_in false around reach place))
  before_traced step t h at limit ts start b end n p =
      traced_as all (tree.PrefixStep step t) (Wholes around) (After t plain (Simples all tokens around)) Fine Sure Free start at limit ts b (expr_in false around start (At at limit ts))
      (λ mid e es rest q. record { simple' = of_prefix_step {step = step} h q.0; entries_are = ap (λ es. plain ∷ es) q.1; undeclared = λ u d. step_head step t mid h d.typed })
      (traced_for all (Wholes around) Fine Fine Kept Sure Free Free (λ rest h. h) (λ rest other f. f.kept) start at limit ts b (expr_in false around start (At at limit ts)) (λ other h. tt) (traces_value all around at limit ts start b end n p))

  -- the reader of simple statements
  pub simple_traced : (at : ℕ) (limit : Option Told) (start : Option FarthestFailure) (b : FarthestFailure) → Ended tokens → Noted at limit → Placed all at limit tokens
      → Traced all (Simples all tokens around) Fine Sure Free start at limit tokens b (simple_in around start (At at limit tokens))
  simple_traced at limit start b end n p =
      let Q = Simples all tokens around in
      let by_expr : Reader SimpleTree = λ reach place. try_then (assigned_in around) (expr_in true around reach place) in
      let by_decrement = choice (is_sign "--") plain (λ token reach place. try_as (tree.PrefixStep Decrement token) (expr_in false around reach place)) by_expr in
      traced_choice all Q Fine Sure Free Free (is_sign "++") plain (λ token reach place. try_as (tree.PrefixStep Increment token) (expr_in false around reach place)) by_decrement refl (λ t one other h k. tt) start at limit tokens b end n p
      (λ t h. before_traced Increment t (is_sign-true "++" (symbol t) h))
      (λ no'.
      traced_choice all Q Fine Sure Free Free (is_sign "--") plain (λ token reach place. try_as (tree.PrefixStep Decrement token) (expr_in false around reach place)) by_expr refl (λ t one other h k. tt) start at limit tokens b end n p
      (λ t h. before_traced Decrement t (is_sign-true "--" (symbol t) h))
      (λ no'. expr_first at limit start b (expr_in true around start (At at limit tokens)) n p (expr_traced all around true at limit tokens start b end n p)))
